-- Where the words of an image stand: the places in the table of functions, the code at these places, and the images of the constants.
use Rattle.std.proofs.Common.{◌≡◌, ℕ, zero, suc, ◌+◌, ◌*◌, ◌<◌, ◌≤◌, List, [], ◌∷◌, ◌++◌, length, map, take, drop, get_or, refl, sym, ap, ◌∙◌, subst, ⊎_elim, arith, Some, unwrap_or, option_map, slice_get, append_assoc, length-append}
use Rattle.std.proofs.lemmas.Bool.{cases_lt}
use Rattle.std.proofs.lemmas.List.{length-map, take_all}
use Rattle.std.proofs.lemmas.Option.{same_Some, slice_get-get_or, slice_get-map, slice_get_past}
use Rattle.std.specs.List.{take-map}
use Rattle.mod_core.specs.declared.code.Instr.{Instr}
use Rattle.mod_core.specs.declared.code.Function.{Function}
use Rattle.mod_core.specs.declared.code.Module.{Module}
use Rattle.mod_core.specs.Module.{IsModule}
use Rattle.mod_core.specs.ModuleImage.{code_constants, code_len, code_start, code_words, constants_len, constants_of, constants_start, constants_words, function_heads, function_len, function_place, function_words, functions_words, instr_constants, instr_words, module_image, place_from, place_in, placed, placed_code, return_ok}
use Rattle.mod_core.proofs.Constants.{code_constants_split, constants_in, constants_of_split, constants_place, module_constants_stand, split_at, stand_behind, stand_front}
use Rattle.mod_core.proofs.Lengths.{code_words-append, code_words_len, constants_len-append, function_words_len, heads_len, image_end, placed_code_constants, placed_code_len, placed_constants}
pub use Rattle.mod_core.proofs.Lengths.{image_len, placed_len}
pub use Rattle.mod_core.proofs.Constants.{ConstantsStand}

-- ---- the table of functions

-- the last word of a head in the table of functions is the place of that function's code
head_place : (fs : List Function) (place i : ℕ) (rest : List ℕ) → i < length fs → slice_get (function_heads place fs ++ rest) (4 * i + 3) ≡ Some (place_from place fs i)
head_place [] place i rest h = absurd (omega arith)
head_place (f ∷ fs) place zero rest h = refl
head_place (f ∷ fs) place (suc i) rest h =
    let e : 4 * suc i + 3 ≡ suc (suc (suc (suc (4 * i + 3)))) = omega arith in
    rw e (head_place fs (place + function_len f) i rest (omega arith))

-- the words behind the table of functions
abbrev behind_heads : Module → List ℕ
behind_heads m = functions_words (code_start m.functions) (constants_start m.functions) m.functions ++ constants_words (constants_of m.functions)

-- the word of an image that tells the place of a function's first instruction
pub place_word : (m : Module) (i : ℕ) → i < length m.functions → slice_get (module_image m) (4 + 4 * i + 3) ≡ Some (function_place m i)
place_word m i h =
    let e : 4 + 4 * i + 3 ≡ suc (suc (suc (suc (4 * i + 3)))) = omega arith in
    rw e (head_place m.functions (code_start m.functions) i (behind_heads m) h)

-- no function begins before the first
pub place_least : (place : ℕ) (fs : List Function) (n : ℕ) → place ≤ place_from place fs n
place_least place (f ∷ fs) (suc n) = omega (arith, place_least (place + function_len f) fs n)
place_least place fs n = omega arith

-- ---- words at a place

-- these words stand in the whole at a place
pub record StandsAt (these whole : List ℕ) (place : ℕ) : Type 0 where
  pub before : List ℕ
  pub rest : List ℕ
  pub whole_is : whole ≡ before ++ (these ++ rest)
  pub place_is : length before ≡ place

within : (these whole other : List ℕ) (place : ℕ) → whole ≡ other → StandsAt these whole place → StandsAt these other place
within these whole other place same at = record { before = at.before; rest = at.rest; whole_is = sym same ∙ at.whole_is; place_is = at.place_is }

first_stands : (f g : Function) (before more : List ℕ) (place constants : ℕ) → length before ≡ place → g ≡ f → StandsAt (function_words place constants f) (before ++ (function_words place constants g ++ more)) place
first_stands f g before more place constants at same = record { before = before; rest = more; whole_is = ap (λ h. before ++ (function_words place constants h ++ more)) same; place_is = at }

code_stands : (fs : List Function) (place constants i at : ℕ) (f : Function) (before tail : List ℕ) → length before ≡ place → slice_get fs i ≡ Some f → at ≡ constants + constants_len (constants_of (take i fs)) →
    StandsAt (function_words (place_from place fs i) at f) (before ++ (functions_words place constants fs ++ tail)) (place_from place fs i)
code_stands [] place constants i at f before tail long found here = absurd (grind arith)
code_stands (g ∷ gs) place constants zero at f before tail long found here =
    let e : constants ≡ at = omega (arith, here) in
    subst (λ c. StandsAt (function_words place c f) (before ++ (functions_words place constants (g ∷ gs) ++ tail)) place) e
    (within _ _ _ _ (ap (λ ws. before ++ ws) (sym (append_assoc (function_words place constants g) (functions_words (place + function_len g) (constants + constants_len (code_constants g.code)) gs) tail)))
    (first_stands f g before (functions_words (place + function_len g) (constants + constants_len (code_constants g.code)) gs ++ tail) place constants long (same_Some g f found)))
code_stands (g ∷ gs) place constants (suc i) at f before tail long found here =
    let next : ℕ = constants + constants_len (code_constants g.code) in
    let ws = function_words place constants g in
    let more = functions_words (place + function_len g) next gs in
    let regroup : (before ++ ws) ++ (more ++ tail) ≡ before ++ ((ws ++ more) ++ tail) = simp append_assoc in
    within _ _ _ _ regroup
    (code_stands gs (place + function_len g) next i at f (before ++ ws) tail (omega (arith, function_words_len place constants g, length-append before ws)) found
    (omega (arith, here, constants_len-append (code_constants g.code) (constants_of (take i gs)))))

-- the code of a function stands in the image at the function's place
pub function_stands : (m : Module) (n : ℕ) (f : Function) → slice_get m.functions n ≡ Some f → StandsAt (function_words (function_place m n) (constants_place m n) f) (module_image m) (function_place m n)
function_stands m n f found =
    let start : ℕ = code_start m.functions in
    let heads = function_heads start m.functions in
    code_stands m.functions start (constants_start m.functions) n (constants_place m n) f (0 ∷ m.name.0 ∷ m.version ∷ length m.functions ∷ heads) (constants_words (constants_of m.functions))
    (omega (arith, heads_len start m.functions)) found refl

-- ---- instructions

regrouped : (before a b c d rest : List ℕ) → before ++ (((a ++ (b ++ c)) ++ d) ++ rest) ≡ (before ++ a) ++ (b ++ (c ++ (d ++ rest)))
regrouped before a b c d rest = simp append_assoc

-- the words of code around an instruction
code_split : (place at : ℕ) (is : List Instr) (k : ℕ) (i : Instr) → slice_get is k ≡ Some i → at ≡ place + constants_len (code_constants (take k is)) →
    code_words place is ≡ code_words place (take k is) ++ (instr_words at i ++ code_words (at + constants_len (instr_constants i)) (drop (suc k) is))
code_split place at is k i found here =
    ap (code_words place) (split_at is k i found) ∙ code_words-append place (take k is) (i ∷ drop (suc k) is)
    ∙ ap (λ p. code_words place (take k is) ++ code_words p (i ∷ drop (suc k) is)) (sym here)

-- the place of an instruction's constants does not depend on its targets' places
placed_before : (g : ℕ → ℕ) (is : List Instr) (k : ℕ) → code_constants (take k (map (placed g) is)) ≡ code_constants (take k is)
placed_before g is k = ap code_constants (take-map (placed g) k is) ∙ placed_code_constants g (take k is)

-- the words of an instruction stand there behind those of the instructions before it
pub instr_stands : (m : Module) (n : ℕ) (f : Function) (k : ℕ) (i : Instr) → slice_get m.functions n ≡ Some f → slice_get f.code k ≡ Some i →
    StandsAt (instr_words (constants_in (constants_place m n) f.code k) (placed (place_in (function_place m n) f.code) i)) (module_image m) (place_in (function_place m n) f.code k)
instr_stands m n f k i found at =
    let all = function_stands m n f found in
    let g : ℕ → ℕ = place_in (function_place m n) f.code in
    let is : List Instr = map (placed g) f.code in
    let first : ℕ = constants_place m n in
    let here : ℕ = constants_in first f.code k in
    let placed_at : slice_get is k ≡ Some (placed g i) = slice_get-map (placed g) f.code k ∙ ap (option_map (placed g)) at in
    let a = code_words first (take k is) in
    let c = code_words (here + constants_len (instr_constants (placed g i))) (drop (suc k) is) in
    let last = instr_words first return_ok in
    let split : function_words (function_place m n) first f ≡ (a ++ (instr_words here (placed g i) ++ c)) ++ last =
    ap (λ ws. ws ++ last) (code_split first here is k (placed g i) placed_at (ap (λ ts. first + constants_len ts) (sym (placed_before g f.code k)))) in
    record {
      before = all.before ++ a;
      rest = c ++ (last ++ all.rest);
      whole_is = all.whole_is ∙ ap (λ ws. all.before ++ (ws ++ all.rest)) split ∙ regrouped all.before a (instr_words here (placed g i)) c last all.rest;
      place_is = omega (arith, length-append all.before a, all.place_is, code_words_len first (take k is), ap code_len (take-map (placed g) k f.code), placed_code_len g (take k f.code));
    }

-- and the return at the end of a function behind all its instructions
pub return_stands : (m : Module) (n : ℕ) (f : Function) → slice_get m.functions n ≡ Some f → StandsAt (instr_words (constants_place m n) return_ok) (module_image m) (function_place m n + code_len f.code)
return_stands m n f found =
    let all = function_stands m n f found in
    let first : ℕ = constants_place m n in
    let a = code_words first (placed_code (function_place m n) f.code) in
    record {
      before = all.before ++ a;
      rest = all.rest;
      whole_is = all.whole_is ∙ simp append_assoc;
      place_is = omega (arith, length-append all.before a, all.place_is, code_words_len first (placed_code (function_place m n) f.code), placed_code_len (place_in (function_place m n) f.code) f.code);
    }

-- ---- instructions and their constants

-- an instruction, its target a place, stands in the image of a module, and the images of its complex constants stand behind the code
pub record InstrAt (m : Module) (place : ℕ) (i : Instr) : Type 0 where
  pub constants : ℕ
  pub stands : StandsAt (instr_words constants i) (module_image m) place
  pub images : ConstantsStand (module_image m) constants (instr_constants i)
  pub behind : constants_start m.functions ≤ constants
  pub inside : constants + constants_len (instr_constants i) ≤ length (module_image m)

-- the image of a module is short, and its code begins behind the table of functions
pub image_short : (m : Module) → IsModule m → length (module_image m) ≤ 1024
image_short m is = is.short

-- no function begins in the table of functions, and none behind the code
pub code_behind_heads : (m : Module) → code_start m.functions ≤ constants_start m.functions
code_behind_heads m = place_least (code_start m.functions) m.functions (length m.functions)

module _ (m : Module) (is_module : IsModule m) (n : ℕ) (f : Function) (found : slice_get m.functions n ≡ Some f) where
  -- the constants of a function stand where those of the functions before it end
  function_constants_stand : ConstantsStand (module_image m) (constants_place m n) (code_constants f.code)
  function_constants_stand =
      let behind = constants_of (drop (suc n) m.functions) in
      let all = subst (ConstantsStand (module_image m) (constants_start m.functions)) (constants_of_split m.functions n f found) (module_constants_stand m is_module) in
      stand_front (module_image m) (constants_place m n) (code_constants f.code) behind (stand_behind (module_image m) (constants_start m.functions) (constants_of (take n m.functions)) (code_constants f.code ++ behind) all)

  function_constants_end : constants_place m n + constants_len (code_constants f.code) ≤ length (module_image m)
  function_constants_end =
      let before = constants_of (take n m.functions) in
      let own = code_constants f.code in
      let behind = constants_of (drop (suc n) m.functions) in
      omega (arith, image_end m, ap constants_len (constants_of_split m.functions n f found), constants_len-append before (own ++ behind), constants_len-append own behind)

  -- each instruction of a function stands in the image with its constants
  pub instr_at : (k : ℕ) (i : Instr) → slice_get f.code k ≡ Some i → InstrAt m (place_in (function_place m n) f.code k) (placed (place_in (function_place m n) f.code) i)
  instr_at k i at =
      let g : ℕ → ℕ = place_in (function_place m n) f.code in
      let before = code_constants (take k f.code) in
      let own = instr_constants i in
      let behind = code_constants (drop (suc k) f.code) in
      let here : ℕ = constants_in (constants_place m n) f.code k in
      let split = code_constants_split f.code k i at in
      let all = subst (ConstantsStand (module_image m) (constants_place m n)) split function_constants_stand in
      let mine = stand_front (module_image m) here own behind (stand_behind (module_image m) (constants_place m n) before (own ++ behind) all) in
      record {
        constants = here;
        stands = instr_stands m n f k i found at;
        images = subst (ConstantsStand (module_image m) here) (sym (placed_constants g i)) mine;
        behind = omega arith;
        inside = omega (arith, ap constants_len (placed_constants g i), function_constants_end, ap constants_len split, constants_len-append before (own ++ behind), constants_len-append own behind);
      }

  -- and so does the return past the last one
  pub return_at : InstrAt m (function_place m n + code_len f.code) return_ok
  return_at = record {
    constants = constants_place m n;
    stands = return_stands m n f found;
    images = tt;
    behind = omega arith;
    inside = omega (arith, function_constants_end);
  }

-- ---- targets

-- the instruction with a number, or the return past the last one
abbrev pub numbered : List Instr → ℕ → Instr
numbered is number = unwrap_or (slice_get is number) return_ok

module _ (m : Module) (is_module : IsModule m) (n : ℕ) (f : Function) (found : slice_get m.functions n ≡ Some f) where
  numbered_at : (number : ℕ) → number < length f.code → InstrAt m (place_in (function_place m n) f.code number) (numbered (placed_code (function_place m n) f.code) number)
  numbered_at number below =
      let place : ℕ → ℕ = place_in (function_place m n) f.code in
      let i : Instr = get_or f.code number return_ok in
      let at : slice_get f.code number ≡ Some i = slice_get-get_or f.code number return_ok below in
      let same : numbered (map (placed place) f.code) number ≡ placed place i = ap (λ o. unwrap_or o return_ok) (slice_get-map (placed place) f.code number ∙ ap (option_map (placed place)) at) in
      subst (InstrAt m (place number)) (sym same) (instr_at m is_module n f found number i at)

  last_at : (number : ℕ) → number ≡ length f.code → InstrAt m (place_in (function_place m n) f.code number) (numbered (placed_code (function_place m n) f.code) number)
  last_at number last =
      let place : ℕ → ℕ = place_in (function_place m n) f.code in
      let past : numbered (map (placed place) f.code) number ≡ return_ok = ap (λ o. unwrap_or o return_ok) (slice_get_past (map (placed place) f.code) number (omega (arith, last, length-map f.code (placed place)))) in
      let all : take number f.code ≡ f.code = take_all number f.code (omega (arith, last)) in
      subst (InstrAt m (place number)) (sym past) (subst (λ is. InstrAt m (function_place m n + code_len is) return_ok) (sym all) (return_at m is_module n f found))

  -- at the place of a target, whose number is at most the length of the code, stands the instruction with that number or the return, with its constants
  pub target_at : (number : ℕ) → number ≤ length f.code → InstrAt m (place_in (function_place m n) f.code number) (numbered (placed_code (function_place m n) f.code) number)
  target_at number within_code = ⊎_elim (λ below. numbered_at number below) (λ past. last_at number (omega arith)) (cases_lt number (length f.code))

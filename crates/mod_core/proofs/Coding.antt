-- The steps by which an image is written: one more instruction, one more function, and targets that become places.
use Rattle.std.proofs.Common.{◌≡◌, ℕ, ◌+◌, ◌<◌, ◌≤◌, List, [], ◌∷◌, ◌++◌, length, map, take, drop, get_or, refl, sym, ap, subst, ◌∙◌, arith, All, slice_index, append_assoc, length-append}
use Rattle.std.specs.List.{range_with_len}
use Rattle.std.proofs.lemmas.List.{append-nil, at_drop_more, drop_all, drop_more, take-append-drop, take_more}
use Rattle.std.proofs.lemmas.List.Concat.{flat_map-append}
use Rattle.term_core.specs.Image.{image_of}
use Rattle.term_core.specs.PlainTerm.{PlainTerm}
use Rattle.std.proofs.lemmas.List.Elements.{All-head, All-tail}
use Rattle.std.proofs.lemmas.List.FromFn.{get_or-map-range_with_len, length-map-range_with_len, map-range_with_len_more}
use Rattle.mod_core.specs.declared.code.Operand.{Operand}
use Rattle.mod_core.specs.declared.code.Instr.{Instr}
use Rattle.mod_core.specs.declared.code.Instr.TheVariants.{Eq, Less, Jump}
use Rattle.mod_core.specs.declared.code.Function.{Function}
use Rattle.mod_core.specs.declared.code.Module.{Module}
use Rattle.mod_core.specs.declared.image.Draft.{Draft}
use Rattle.mod_core.specs.Draft.{Wrote, next_place}
use Rattle.mod_core.specs.Module.{IsFunction, IsInstr, IsInstrAmong}
use Rattle.mod_core.specs.ModuleImage.{code_constants, code_len, code_start, code_words, constants_len, constants_of, constants_start, constants_words, function_heads, function_len, function_words, functions_words, instr_constants, instr_len, instr_words, module_image, operand_constants, operand_word, operands_words, place_from, place_in, placed, placed_code}
use Rattle.mod_core.proofs.Lengths.{code_len-append, constants_len-append, constants_words_len, function_words_len, heads_len, placed_constants}
use Rattle.mod_core.proofs.Places.{place_least}

-- ---- places

-- the next instruction's place is behind the words of this one
pub place_next : (start : ℕ) (is : List Instr) (k : ℕ) (d : Instr) (len : ℕ) → k < length is → len ≡ instr_len (get_or is k d) → place_in start is k + len ≡ place_in start is (k + 1)
place_next start is k d len h e =
    let i = get_or is k d in
    omega (arith, e, ap code_len (take_more is k d h), code_len-append (take k is) (i ∷ []))

-- the words of an instruction end within its code
pub place_within : (start : ℕ) (is : List Instr) (k : ℕ) (d : Instr) (len : ℕ) → k < length is → len ≡ instr_len (get_or is k d) → place_in start is k + len ≤ start + code_len is
place_within start is k d len h e =
    let split : code_len (take (k + 1) is) + code_len (drop (k + 1) is) ≡ code_len is = sym (code_len-append (take (k + 1) is) (drop (k + 1) is)) ∙ ap code_len (take-append-drop (k + 1) is) in
    omega (arith, place_next start is k d len h e, split)

-- the place in a table of places
pub place_at : (start : ℕ) (is : List Instr) (places : List ℕ) → places ≡ map (place_in start is) (range_with_len 0 (length is + 1)) → (k : ℕ) → k < length is + 1 → get_or places k 0 ≡ place_in start is k
place_at start is places e k h = rw e (get_or-map-range_with_len (place_in start is) 0 (length is + 1) k k 0 h (omega arith))

-- there is a place for each target
pub among_places : (start : ℕ) (is code : List Instr) (places table : List ℕ) → code ≡ is → table ≡ places → places ≡ map (place_in start code) (range_with_len 0 (length code + 1)) →
    All (IsInstrAmong (length is + 1)) is → All (IsInstrAmong (length table)) code
among_places start is code places table same looked e all =
    let len : length code + 1 ≡ length table = sym (ap length (looked ∙ e) ∙ length-map-range_with_len (place_in start code) 0 (length code + 1)) in
    subst (λ n. All (IsInstrAmong n) code) len (subst (λ js. All (IsInstrAmong (length js + 1)) js) (sym same) all)

-- the instructions of a function that stands in a module have places for their targets
pub function_among : (fs : List Function) (i : ℕ) (f : Function) → All (IsFunction fs) fs → i < length fs → f ≡ get_or fs i f → All (IsInstrAmong (length f.code + 1)) f.code
function_among fs i f all h e =
    let this : IsFunction fs f = subst (IsFunction fs) (sym e) (all i f h) in
    λ k d below. (fs, length f.code, this.code k d below, omega arith)

-- one more place in a table of places
pub places_more : (start : ℕ) (is : List Instr) (places more : List ℕ) (k place : ℕ) → places ≡ map (place_in start is) (range_with_len 0 k) → place ≡ place_in start is k → more ≡ places ++ place ∷ [] →
    more ≡ map (place_in start is) (range_with_len 0 (k + 1))
places_more start is places more k place e p m = m ∙ (λ t. e t ++ p t ∷ []) ∙ sym (map-range_with_len_more (place_in start is) 0 k k (omega arith))

-- the words of a function end within those of all that are left
pub function_within : (place : ℕ) (fs : List Function) (i : ℕ) (d : Function) → i < length fs → place + function_len (get_or fs i d) ≤ place_from place (drop i fs) (length (drop i fs))
function_within place fs i d h =
    let rest : List Function → ℕ = λ gs. place_from place gs (length gs) in
    omega (arith, at_drop_more rest fs i d h, place_least (place + function_len (get_or fs i d)) (drop (i + 1) fs) (length (drop (i + 1) fs)))

-- ---- targets

module _ (f g : ℕ → ℕ) (places : ℕ) (same : (k : ℕ) → k < places → f k ≡ g k) where
  -- two ways to place targets that agree on the places there are give the same instruction
  pub same_below : (fs : List Function) (len : ℕ) (i : Instr) → len < places → IsInstr fs len i → placed f i ≡ placed g i
  same_below fs len (Eq a b target) h is = ap (Eq a b) (same target (omega (arith, is.2)))
  same_below fs len (Less a b target) h is = ap (Less a b) (same target (omega (arith, is.2)))
  same_below fs len (Jump target) h is = ap Jump (same target (omega (arith, is)))
  same_below fs len i h is = refl

  -- and the same code
  pub same_code : (is : List Instr) → All (IsInstrAmong places) is → map (placed f) is ≡ map (placed g) is
  same_code [] all = refl
  same_code (i ∷ is) all =
      let first = All-head (IsInstrAmong places) i is all in
      let one : placed f i ≡ placed g i = same_below first.0 first.1 i first.3 first.2 in
      let rest : map (placed f) is ≡ map (placed g) is = same_code is (All-tail (IsInstrAmong places) i is all) in
      λ t. one t ∷ rest t

-- ---- a draft

-- the next place is behind the images that were written
pub next_behind : (old new : Draft) (code : List ℕ) (terms : List PlainTerm) → Wrote old new code terms → next_place new ≡ next_place old + constants_len terms
next_behind old new code terms wrote =
    omega (arith, ap length wrote.images_are, length-append old.constants (constants_words terms), constants_words_len terms, wrote.start_stays)

-- words of code that have no constant
pub wrote_words : (old new : Draft) (words : List ℕ) → new.words ≡ old.words ++ words → new.constants ≡ old.constants → new.constants_start ≡ old.constants_start → Wrote old new words []
wrote_words old new words code same start = record { code_is = code; images_are = same ∙ sym (append-nil old.constants); start_stays = start }

-- one thing written behind another
pub wrote_both : (old mid new : Draft) (first second : List ℕ) (ts us : List PlainTerm) → Wrote old mid first ts → Wrote mid new second us → Wrote old new (first ++ second) (ts ++ us)
wrote_both old mid new first second ts us a b = record {
  code_is = b.code_is ∙ ap (λ ws. ws ++ second) a.code_is ∙ append_assoc old.words first second;
  images_are = b.images_are ∙ ap (λ ws. ws ++ constants_words us) a.images_are ∙ append_assoc old.constants (constants_words ts) (constants_words us) ∙ ap (λ ws. old.constants ++ ws) (sym (flat_map-append image_of ts us));
  start_stays = b.start_stays ∙ a.start_stays;
}

-- what is written of an instruction with two operands
pub pair_written : (old mid last_draft : Draft) (words : List ℕ) (number first second last : ℕ) (a b : Operand) → Wrote old mid [] (operand_constants a) → Wrote mid last_draft [] (operand_constants b) → first ≡ operand_word (next_place old) a → second ≡ operand_word (next_place mid) b →
    words ≡ last_draft.words ++ (number ∷ first ∷ second ∷ last ∷ []) →
    Wrote old (record { words = words; constants = last_draft.constants; constants_start = last_draft.constants_start }) (number ∷ (operands_words (next_place old) a b ++ last ∷ [])) (operand_constants a ++ operand_constants b)
pair_written old mid last_draft words number first second last a b one two first_is second_is code =
    let new : Draft = record { words = words; constants = last_draft.constants; constants_start = last_draft.constants_start } in
    let own : List ℕ = number ∷ (operands_words (next_place old) a b ++ last ∷ []) in
    let second_at : second ≡ operand_word (next_place old + constants_len (operand_constants a)) b = second_is ∙ ap (λ p. operand_word p b) (next_behind old mid [] (operand_constants a) one) in
    let code_is : words ≡ last_draft.words ++ own = code ∙ (λ t. last_draft.words ++ (number ∷ first_is t ∷ second_at t ∷ last ∷ [])) in
    subst (λ ts. Wrote old new own (operand_constants a ++ ts)) (append-nil (operand_constants b))
    (wrote_both old mid new [] own (operand_constants a) (operand_constants b ++ []) one
    (wrote_both mid last_draft new [] own (operand_constants b) [] two (wrote_words last_draft new own code_is refl refl)))

-- the second operand has room for its constant
pub second_room : (old mid : Draft) (a b : Operand) → Wrote old mid [] (operand_constants a) → next_place old + constants_len (operand_constants a ++ operand_constants b) ≤ 1024 → next_place mid + constants_len (operand_constants b) ≤ 1024
second_room old mid a b one room = omega (arith, next_behind old mid [] (operand_constants a) one, constants_len-append (operand_constants a) (operand_constants b))

-- ---- code and functions that are written

module _ (old mid : Draft) (g : ℕ → ℕ) (is : List Instr) (k : ℕ) (i : Instr) (below : k < length is) (here : i ≡ get_or is k i) (wrote : Wrote old mid (instr_words (next_place old) (placed g i)) (instr_constants i)) where
  left_is : drop k is ≡ i ∷ drop (k + 1) is
  left_is = drop_more is k i below ∙ ap (λ j. j ∷ drop (k + 1) is) (sym here)

  -- what is left behind an instruction completes the code
  pub code_more : (new : Draft) → Wrote mid new (code_words (next_place mid) (map (placed g) (drop (k + 1) is))) (code_constants (drop (k + 1) is)) →
      Wrote old new (code_words (next_place old) (map (placed g) (drop k is))) (code_constants (drop k is))
  code_more new rest =
      let next : next_place mid ≡ next_place old + constants_len (instr_constants (placed g i)) =
      next_behind old mid (instr_words (next_place old) (placed g i)) (instr_constants i) wrote ∙ ap (λ ts. next_place old + constants_len ts) (sym (placed_constants g i)) in
      let own = instr_words (next_place old) (placed g i) in
      let js = map (placed g) (drop (k + 1) is) in
      let moved : Wrote mid new (code_words (next_place old + constants_len (instr_constants (placed g i))) js) (code_constants (drop (k + 1) is)) =
      subst (λ p. Wrote mid new (code_words p js) (code_constants (drop (k + 1) is))) next rest in
      subst (λ xs. Wrote old new (code_words (next_place old) (map (placed g) xs)) (code_constants xs)) (sym left_is)
      (wrote_both old mid new own (code_words (next_place old + constants_len (instr_constants (placed g i))) js) (instr_constants i) (code_constants (drop (k + 1) is)) wrote moved)

  -- the constants that are left end where they did
  pub code_room : next_place mid + constants_len (code_constants (drop (k + 1) is)) ≡ next_place old + constants_len (code_constants (drop k is))
  code_room =
      omega (arith, next_behind old mid (instr_words (next_place old) (placed g i)) (instr_constants i) wrote, ap (λ xs. constants_len (code_constants xs)) left_is, constants_len-append (instr_constants i) (code_constants (drop (k + 1) is)))

-- at the end nothing is left
pub code_done : (d : Draft) (g : ℕ → ℕ) (is : List Instr) (k : ℕ) → length is ≤ k → Wrote d d (code_words (next_place d) (map (placed g) (drop k is))) (code_constants (drop k is))
code_done d g is k all =
    subst (λ js. Wrote d d (code_words (next_place d) (map (placed g) js)) (code_constants js)) (sym (drop_all k is all)) (wrote_words d d [] (sym (append-nil d.words)) refl refl)

-- the constants of the next instruction end within those that are left
pub instr_room : (is : List Instr) (k : ℕ) (i : Instr) → k < length is → i ≡ get_or is k i → constants_len (instr_constants i) ≤ constants_len (code_constants (drop k is))
instr_room is k i below here =
    let left : drop k is ≡ i ∷ drop (k + 1) is = drop_more is k i below ∙ ap (λ j. j ∷ drop (k + 1) is) (sym here) in
    omega (arith, ap (λ xs. constants_len (code_constants xs)) left, constants_len-append (instr_constants i) (code_constants (drop (k + 1) is)))

-- what is written of a function is its words
pub function_written : (old mid new : Draft) (f : Function) (start : ℕ) (is : List Instr) (places table ret : List ℕ) (word : ℕ) → start ≡ length old.words → is ≡ f.code → table ≡ places →
    places ≡ map (place_in start is) (range_with_len 0 (length is + 1)) → All (IsInstrAmong (length f.code + 1)) f.code →
    Wrote old mid (code_words (next_place old) (map (placed (slice_index table)) is)) (code_constants is) →
    ret ≡ mid.words ++ 9 ∷ [] → word ≡ 34 → new.words ≡ ret ++ word ∷ [] → new.constants ≡ mid.constants → new.constants_start ≡ mid.constants_start →
    Wrote old new (function_words (length old.words) (next_place old) f) (code_constants f.code)
function_written old mid new f start is places table ret word at same looked e all wrote r w m constants stays =
    let table_is : table ≡ map (place_in (length old.words) f.code) (range_with_len 0 (length f.code + 1)) = looked ∙ e ∙ (λ t. map (place_in (at t) (same t)) (range_with_len 0 (length (same t) + 1))) in
    let code_is : map (placed (slice_index table)) is ≡ placed_code (length old.words) f.code =
    ap (map (placed (slice_index table))) same ∙ same_code (slice_index table) (place_in (length old.words) f.code) (length f.code + 1) (place_at (length old.words) f.code table table_is) f.code all in
    let code : Wrote old mid (code_words (next_place old) (placed_code (length old.words) f.code)) (code_constants f.code) =
    subst (λ ts. Wrote old mid (code_words (next_place old) (placed_code (length old.words) f.code)) (code_constants ts)) same
    (subst (λ js. Wrote old mid (code_words (next_place old) js) (code_constants is)) code_is wrote) in
    let last : new.words ≡ mid.words ++ (9 ∷ 34 ∷ []) = m ∙ (λ t. r t ++ w t ∷ []) ∙ append_assoc mid.words (9 ∷ []) (34 ∷ []) in
    subst (λ ts. Wrote old new (function_words (length old.words) (next_place old) f) ts) (append-nil (code_constants f.code))
    (wrote_both old mid new (code_words (next_place old) (placed_code (length old.words) f.code)) (9 ∷ 34 ∷ []) (code_constants f.code) [] code (wrote_words mid new (9 ∷ 34 ∷ []) last constants stays))

module _ (old mid : Draft) (fs : List Function) (k : ℕ) (f : Function) (below : k < length fs) (here : f ≡ get_or fs k f) (wrote : Wrote old mid (function_words (length old.words) (next_place old) f) (code_constants f.code)) where
  functions_left : drop k fs ≡ f ∷ drop (k + 1) fs
  functions_left = drop_more fs k f below ∙ ap (λ g. g ∷ drop (k + 1) fs) (sym here)

  code_longer : length mid.words ≡ length old.words + function_len f
  code_longer = omega (arith, ap length wrote.code_is, length-append old.words (function_words (length old.words) (next_place old) f), function_words_len (length old.words) (next_place old) f)

  constants_longer : next_place mid ≡ next_place old + constants_len (code_constants f.code)
  constants_longer = next_behind old mid (function_words (length old.words) (next_place old) f) (code_constants f.code) wrote

  -- what is left behind a function completes the code
  pub functions_more : (new : Draft) → Wrote mid new (functions_words (length mid.words) (next_place mid) (drop (k + 1) fs)) (constants_of (drop (k + 1) fs)) →
      Wrote old new (functions_words (length old.words) (next_place old) (drop k fs)) (constants_of (drop k fs))
  functions_more new rest =
      let gs = drop (k + 1) fs in
      let moved : Wrote mid new (functions_words (length old.words + function_len f) (next_place old + constants_len (code_constants f.code)) gs) (constants_of gs) =
      subst (λ (p : ℕ × ℕ). Wrote mid new (functions_words p.0 p.1 gs) (constants_of gs)) (λ t. (code_longer t, constants_longer t)) rest in
      subst (λ xs. Wrote old new (functions_words (length old.words) (next_place old) xs) (constants_of xs)) (sym functions_left)
      (wrote_both old mid new (function_words (length old.words) (next_place old) f) (functions_words (length old.words + function_len f) (next_place old + constants_len (code_constants f.code)) gs) (code_constants f.code) (constants_of gs) wrote moved)

  -- and its end stays where it is
  pub functions_end : place_from (length mid.words) (drop (k + 1) fs) (length (drop (k + 1) fs)) ≡ place_from (length old.words) (drop k fs) (length (drop k fs))
  functions_end =
      ap (λ n. place_from n (drop (k + 1) fs) (length (drop (k + 1) fs))) code_longer
      ∙ sym (ap (λ gs. place_from (length old.words) gs (length gs)) functions_left)

  -- as does that of the constants
  pub functions_room : next_place mid + constants_len (constants_of (drop (k + 1) fs)) ≡ next_place old + constants_len (constants_of (drop k fs))
  functions_room =
      omega (arith, constants_longer, ap (λ gs. constants_len (constants_of gs)) functions_left, constants_len-append (code_constants f.code) (constants_of (drop (k + 1) fs)))

-- at the end nothing is left
pub functions_done : (d : Draft) (fs : List Function) (k : ℕ) → length fs ≤ k → Wrote d d (functions_words (length d.words) (next_place d) (drop k fs)) (constants_of (drop k fs))
functions_done d fs k all =
    subst (λ gs. Wrote d d (functions_words (length d.words) (next_place d) gs) (constants_of gs)) (sym (drop_all k fs all)) (wrote_words d d [] (sym (append-nil d.words)) refl refl)

-- the constants of the next function end within those that are left
pub function_room : (fs : List Function) (k : ℕ) (f : Function) → k < length fs → f ≡ get_or fs k f → constants_len (code_constants f.code) ≤ constants_len (constants_of (drop k fs))
function_room fs k f below here =
    let left : drop k fs ≡ f ∷ drop (k + 1) fs = drop_more fs k f below ∙ ap (λ g. g ∷ drop (k + 1) fs) (sym here) in
    omega (arith, ap (λ gs. constants_len (constants_of gs)) left, constants_len-append (code_constants f.code) (constants_of (drop (k + 1) fs)))

-- ---- the whole

-- the code begins behind the table of functions
pub heads_end : (m : Module) (fs : List Function) (nothing title heads : List ℕ) → fs ≡ m.functions → nothing ≡ [] → title ≡ nothing ++ (0 ∷ m.name.0 ∷ m.version ∷ length m.functions ∷ []) →
    heads ≡ title ++ function_heads (code_start fs) fs → length heads ≡ code_start m.functions
heads_end m fs nothing title heads same none t h =
    omega (arith, ap length same, ap length none, ap length t, length-append nothing (0 ∷ m.name.0 ∷ m.version ∷ length m.functions ∷ []), ap length h, length-append title (function_heads (code_start fs) fs), heads_len (code_start fs) fs)

-- the whole that is written is the image
pub image_written : (m : Module) (fs : List Function) (nothing title heads : List ℕ) (old new : Draft) → fs ≡ m.functions → nothing ≡ [] → title ≡ nothing ++ (0 ∷ m.name.0 ∷ m.version ∷ length m.functions ∷ []) →
    heads ≡ title ++ function_heads (code_start fs) fs → old.words ≡ heads → old.constants ≡ [] → old.constants_start ≡ constants_start fs →
    Wrote old new (functions_words (length old.words) (next_place old) fs) (constants_of fs) → (whole : List ℕ) → whole ≡ new.words ++ new.constants → whole ≡ module_image m
image_written m fs nothing title heads old new same none t h begins empty starts wrote whole w =
    let start : length old.words ≡ code_start m.functions = ap length begins ∙ heads_end m fs nothing title heads same none t h in
    let first : next_place old ≡ constants_start m.functions = omega (arith, starts, ap constants_start same, ap length empty) in
    let head : List ℕ = 0 ∷ m.name.0 ∷ m.version ∷ length m.functions ∷ [] in
    let title_is : title ≡ head = t ∙ ap (λ ws. ws ++ head) none in
    let heads_are : heads ≡ head ++ function_heads (code_start m.functions) m.functions = h ∙ (λ i. title_is i ++ function_heads (code_start (same i)) (same i)) in
    let code_is : new.words ≡ (head ++ function_heads (code_start m.functions) m.functions) ++ functions_words (code_start m.functions) (constants_start m.functions) m.functions =
    wrote.code_is ∙ (λ i. (begins ∙ heads_are) i ++ functions_words (start i) (first i) (same i)) in
    let images_are : new.constants ≡ constants_words (constants_of m.functions) =
    wrote.images_are ∙ (λ i. empty i ++ constants_words (constants_of (same i))) in
    w ∙ (λ i. code_is i ++ images_are i) ∙ simp append_assoc

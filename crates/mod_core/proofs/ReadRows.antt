-- Going over the code of a function: what one instruction more leaves, and where the code ends.
use Rattle.std.proofs.Common.{◌≡◌, ℕ, zero, suc, ◌+◌, ◌-◌, ◌*◌, ◌<◌, ◌≤◌, List, [], ◌∷◌, ◌++◌, length, map, take, drop, get_or, refl, sym, ap, ◌∙◌, subst, ⊎_elim, add-one, arith, Bool, true, false, cond, nat_lt, Some, slice_get, slice_index}
use borrow.Author.Tests.{ltb-false, ltb-true}
use Rattle.std.specs.List.{range_with_len}
use Rattle.std.proofs.lemmas.Bool.{cases_lt}
use Rattle.std.proofs.lemmas.List.{append-nil, drop_all, drop_more, get_or-map, length-map, take-append-drop, take_all, take_more}
use Rattle.std.proofs.lemmas.List.Concat.{flat_map-append}
use Rattle.std.proofs.lemmas.Option.{get_or_from_slice_get, same_Some, slice_get-get_or, slice_get_within}
use Rattle.mod_core.specs.declared.code.Instr.{Instr}
use Rattle.mod_core.specs.declared.code.Instr.TheVariants.{Eq, Less, Jump}
use Rattle.mod_core.specs.declared.code.Function.{Function}
use Rattle.mod_core.specs.declared.code.Module.{Module}
use Rattle.mod_core.specs.declared.code_reading.Row.{Row}
use Rattle.mod_core.specs.Module.{IsFunction, IsInstr}
use Rattle.mod_core.specs.ModuleImage.{code_constants, code_len, code_start, constants_len, constants_of, constants_start, function_len, function_place, instr_constants, instr_len, module_image, place_from, place_in, placed, placed_code, return_ok}
use Rattle.mod_core.specs.Decoding.{code_end, IsFunctionIn, IsLeft, IsRow, IsWholeRow, number_at}
use Rattle.mod_core.proofs.Constants.{code_constants_split, constants_of_split}
use Rattle.mod_core.proofs.Coding.{place_next, places_more}
use Rattle.mod_core.proofs.Lengths.{code_len-append, constants_len-append, image_end, placed_constants, placed_len, some_words}
use Rattle.mod_core.proofs.Places.{image_short, instr_at, place_least, place_word}
use Rattle.mod_core.proofs.ImageWords.{code_within}
use Rattle.mod_core.proofs.Targets.{code_again}
use Rattle.mod_core.proofs.ReadInstrs.{HasOperands, instr_told}

-- ---- places

-- the next function begins behind the code of this one
pub next_place_from : (place : ℕ) (fs : List Function) (n : ℕ) (f : Function) → slice_get fs n ≡ Some f → place_from place fs (suc n) ≡ place_from place fs n + function_len f
next_place_from place [] n f found = absurd (grind arith)
next_place_from place (g ∷ []) zero f found = ap (λ h. place + function_len h) (same_Some g f found)
next_place_from place (g ∷ h ∷ fs) zero f found = ap (λ h. place + function_len h) (same_Some g f found)
next_place_from place (g ∷ fs) (suc n) f found = next_place_from (place + function_len g) fs n f found

place_most : (place : ℕ) (fs : List Function) (n : ℕ) → place_from place fs n ≤ place_from place fs (length fs)
place_most place [] n = omega arith
place_most place (f ∷ fs) zero = omega (arith, place_least (place + function_len f) fs (length fs))
place_most place (f ∷ fs) (suc n) = place_most (place + function_len f) fs n

-- the first instructions have no more words than all, and fewer where they are not all
front_len : (is : List Instr) (k : ℕ) → code_len (take k is) + code_len (drop k is) ≡ code_len is
front_len is k = sym (code_len-append (take k is) (drop k is)) ∙ ap code_len (take-append-drop k is)

front_less : (is : List Instr) (k : ℕ) → k < length is → code_len (take k is) < code_len is
front_less is k below =
    let d : Instr = return_ok in
    omega (arith, front_len is k, ap code_len (drop_more is k d below), some_words (get_or is k d))

-- their constants likewise
front_constants : (is : List Instr) (k : ℕ) → constants_len (code_constants (take k is)) + constants_len (code_constants (drop k is)) ≡ constants_len (code_constants is)
front_constants is k =
    sym (constants_len-append (code_constants (take k is)) (code_constants (drop k is))) ∙ ap constants_len (sym (flat_map-append instr_constants (take k is) (drop k is)) ∙ ap code_constants (take-append-drop k is))

-- an instruction of a module with its target's place is one with numbers of few bits
placed_is : (fs : List Function) (len : ℕ) (g : ℕ → ℕ) (i : Instr) → ((k : ℕ) → k ≤ len → g k ≤ 1024) → IsInstr fs len i → IsInstr fs 1024 (placed g i)
placed_is fs len g (Eq a b target) small is = (is.0, is.1, small target is.2)
placed_is fs len g (Less a b target) small is = (is.0, is.1, small target is.2)
placed_is fs len g (Jump target) small is = small target is
placed_is fs len g i small is = is

-- a function of the module, with its instructions in range
module _ (words : List ℕ) (m : Module) (n : ℕ) (f : Function) (h : IsFunctionIn words m n f) where
  pub number_below : n < length m.functions
  number_below = slice_get_within m.functions n f h.found

  pub function_is : IsFunction m.functions f
  function_is = subst (IsFunction m.functions) (get_or_from_slice_get m.functions n f f h.found) (h.is_module.functions n f number_below)

  -- it ends within the code
  pub function_ends : function_place m n + (code_len f.code + 2) ≤ constants_start m.functions
  function_ends = omega (arith, next_place_from (code_start m.functions) m.functions n f h.found, place_most (code_start m.functions) m.functions (suc n))

  -- each place of it is within an image
  pub place_small : (k : ℕ) → place_in (function_place m n) f.code k ≤ 1024
  place_small k = omega (arith, function_ends, front_len f.code k, image_end m, image_short m h.is_module)

  -- the constants of the functions before it and its own are among all
  all_constants : constants_len (constants_of (take n m.functions)) + (constants_len (code_constants f.code) + constants_len (constants_of (drop (suc n) m.functions))) ≡ constants_len (constants_of m.functions)
  all_constants =
      let before = constants_of (take n m.functions) in
      let own = code_constants f.code in
      let behind = constants_of (drop (suc n) m.functions) in
      omega (arith, ap constants_len (constants_of_split m.functions n f h.found), constants_len-append before (own ++ behind), constants_len-append own behind)

  -- the words of each instruction tell it
  pub told_at : (k : ℕ) → k < length f.code → HasOperands words (place_in (function_place m n) f.code k) (placed (place_in (function_place m n) f.code) (get_or f.code k return_ok))
  told_at k below =
      let g : ℕ → ℕ = place_in (function_place m n) f.code in
      let i : Instr = get_or f.code k return_ok in
      let here = instr_at m h.is_module n f h.found k i (slice_get-get_or f.code k return_ok below) in
      let sound : IsInstr m.functions (length f.code) i = function_is.code k return_ok below in
      let told : HasOperands (module_image m) (g k) (placed g i) =
      instr_told (module_image m) (g k) here.constants m.functions h.is_module.few (placed g i) (placed_is m.functions (length f.code) g i (λ j _. place_small j) sound) here.stands here.images in
      subst (λ ws. HasOperands ws (g k) (placed g i)) (sym h.image) told

  module _ (row : Row) (r : IsRow m n f row) (below : r.count < length f.code) where
    -- the instruction that comes next
    abbrev pub next_instr : Instr
    next_instr = placed (place_in (function_place m n) f.code) (get_or f.code r.count return_ok)

    next_in_code : slice_get f.code r.count ≡ Some (get_or f.code r.count return_ok)
    next_in_code = slice_get-get_or f.code r.count return_ok below

    -- its words tell it
    pub next_told : HasOperands words row.place next_instr
    next_told = subst (λ p. HasOperands words p next_instr) (sym r.place) (told_at r.count below)

    -- there is room for its constants
    pub next_room : constants_len (instr_constants next_instr) ≤ row.left
    next_room =
        let i : Instr = get_or f.code r.count return_ok in
        let before = code_constants (take r.count f.code) in
        let own = instr_constants i in
        let behind = code_constants (drop (suc r.count) f.code) in
        omega (arith, r.left, all_constants, image_end m, ap constants_len (placed_constants (place_in (function_place m n) f.code) i), ap constants_len (code_constants_split f.code r.count i next_in_code), constants_len-append before (own ++ behind), constants_len-append own behind)

    -- and with it the row has one instruction more
    pub next_row : (new : Row) → new.instrs.items ≡ row.instrs.items ++ next_instr ∷ [] → new.places ≡ row.places ++ row.place ∷ [] → new.place ≡ row.place + instr_len next_instr → new.left + constants_len (instr_constants next_instr) ≡ row.left → IsRow m n f new
    next_row new instrs places place left =
        let g : ℕ → ℕ = place_in (function_place m n) f.code in
        let i : Instr = get_or f.code r.count return_ok in
        let js : List Instr = placed_code (function_place m n) f.code in
        let long : r.count < length js = omega (arith, length-map f.code (placed g)) in
        let in_row : get_or js r.count return_ok ≡ next_instr = get_or-map (placed g) f.code r.count return_ok return_ok below in
        let more : take (r.count + 1) f.code ≡ take r.count f.code ++ i ∷ [] = take_more f.code r.count return_ok below in
        let constants : constants_len (code_constants (take (r.count + 1) f.code)) ≡ constants_len (code_constants (take r.count f.code)) + constants_len (instr_constants i) =
        ap (λ is. constants_len (code_constants is)) more ∙ ap constants_len (flat_map-append instr_constants (take r.count f.code) (i ∷ [])) ∙ constants_len-append (code_constants (take r.count f.code)) (instr_constants i ++ []) ∙ ap (λ ts. constants_len (code_constants (take r.count f.code)) + constants_len ts) (append-nil (instr_constants i)) in
        record {
          count = r.count + 1;
          within = omega arith;
          instrs = instrs ∙ (λ t. r.instrs t ++ sym in_row t ∷ []) ∙ sym (take_more js r.count return_ok long);
          places = places_more (function_place m n) f.code row.places new.places r.count row.place r.places r.place places;
          place = omega (arith, place, r.place, place_next (function_place m n) f.code r.count return_ok (instr_len i) below refl, placed_len g i);
          left = omega (arith, left, r.left, constants, ap constants_len (placed_constants g i));
        }

  -- ---- where the code ends

  -- at the start nothing of the code has been read
  pub first_row : (row : Row) (left : ℕ) → IsLeft m n left → row.instrs.items ≡ [] → row.places ≡ [] → row.place ≡ function_place m n → row.left ≡ left → IsRow m n f row
  first_row row left so_far instrs places place rest = record {
    count = 0;
    within = omega arith;
    instrs = instrs;
    places = places;
    place = omega (arith, place);
    left = omega (arith, so_far.whole, rest);
  }

  -- and at the end all of it
  pub whole_row : (row new : Row) → (r : IsRow m n f row) → length f.code ≤ r.count → new.instrs.items ≡ row.instrs.items → new.places ≡ row.places ++ row.place ∷ [] → new.left ≡ row.left → IsWholeRow m n f new
  whole_row row new r all instrs places left =
      let g : ℕ → ℕ = place_in (function_place m n) f.code in
      let js : List Instr = placed_code (function_place m n) f.code in
      let end : r.count ≡ length f.code = omega (arith, r.within) in
      record {
        instrs = instrs ∙ r.instrs ∙ take_all r.count js (omega (arith, length-map f.code (placed g)));
        places = places_more (function_place m n) f.code row.places new.places r.count row.place r.places r.place places ∙ ap (λ n. map g (range_with_len 0 (n + 1))) end;
        left = omega (arith, left, r.left, ap (λ is. constants_len (code_constants is)) (take_all r.count f.code all));
      }

  -- the place that the table tells
  pub told_place : slice_index words (4 + 4 * n + 3) ≡ function_place m n
  told_place = (λ t. get_or (h.image t) (4 + 4 * n + 3) 0) ∙ get_or_from_slice_get (module_image m) (4 + 4 * n + 3) (function_place m n) 0 (place_word m n number_below)

  pub told_count : slice_index words 3 ≡ length m.functions
  told_count = λ t. get_or (h.image t) 3 0

  module _ (k left : ℕ) (within : k ≤ length f.code) (left_is : left + (constants_len (constants_of (take n m.functions)) + constants_len (code_constants (take k f.code))) ≡ length (module_image m)) where
    -- the code goes on at a place as long as the return is not all that comes before its end
    abbrev pub GoesOn : ℕ → Type 0
    GoesOn end = (place_in (function_place m n) f.code k + 2 < end → k < length f.code) × (k < length f.code → place_in (function_place m n) f.code k + 2 < end)

    more_at : (end extra : ℕ) → end ≡ function_place m n + (code_len f.code + 2) + extra → (length f.code ≤ k → extra ≡ 0) → GoesOn end
    more_at end extra is none = (
      λ ahead. ⊎_elim (λ below. below) (λ past. absurd (omega (arith, is, none past, ap code_len (take_all k f.code past)))) (cases_lt k (length f.code)),
      λ below. omega (arith, is, front_less f.code k below),
    )

    -- where a function comes behind, its place is the end
    more_inside : n + 1 < length m.functions → GoesOn (slice_index words (4 + 4 * (n + 1) + 3))
    more_inside inside =
        let told : slice_index words (4 + 4 * (n + 1) + 3) ≡ function_place m (n + 1) = (λ t. get_or (h.image t) (4 + 4 * (n + 1) + 3) 0) ∙ get_or_from_slice_get (module_image m) (4 + 4 * (n + 1) + 3) (function_place m (n + 1)) 0 (place_word m (n + 1) inside) in
        let next : function_place m (n + 1) ≡ function_place m n + function_len f = ap (place_from (code_start m.functions) m.functions) (add-one n) ∙ next_place_from (code_start m.functions) m.functions n f h.found in
        more_at (slice_index words (4 + 4 * (n + 1) + 3)) 0 (omega (arith, told, next)) (λ _. refl)

    -- and where none does, the constants are: those that were passed are not counted
    more_last : length m.functions ≤ n + 1 → GoesOn left
    more_last last =
        let only : length m.functions ≡ suc n = omega (arith, number_below) in
        let end : constants_start m.functions ≡ function_place m n + function_len f = ap (place_from (code_start m.functions) m.functions) only ∙ next_place_from (code_start m.functions) m.functions n f h.found in
        let no_more : constants_of (drop (suc n) m.functions) ≡ [] = ap constants_of (drop_all (suc n) m.functions (omega arith)) in
        let extra : ℕ = constants_len (code_constants (drop k f.code)) in
        let is : left ≡ function_place m n + (code_len f.code + 2) + extra = omega (arith, left_is, image_end m, all_constants, ap constants_len no_more, end, front_constants f.code k) in
        more_at left extra is (λ past. ap (λ is. constants_len (code_constants is)) (drop_all k f.code past))

    more_cases : (inside : Bool) → nat_lt (n + 1) (slice_index words 3) ≡ inside → GoesOn (cond inside (slice_index words (4 + 4 * (n + 1) + 3)) left)
    more_cases true e = more_inside (omega (arith, ltb-true (n + 1) (slice_index words 3) e, told_count))
    more_cases false e = more_last (omega (arith, ltb-false (n + 1) (slice_index words 3) e, told_count))

    -- the end is where the image tells
    pub goes_on : GoesOn (code_end words n left)
    goes_on = more_cases (nat_lt (n + 1) (slice_index words 3)) refl

  -- so a row goes on as long as its place is more than the return ahead of the end
  pub has_more : (row : Row) (r : IsRow m n f row) (end : ℕ) → end ≡ code_end words n row.left → (row.place + 2 < end → r.count < length f.code) × (r.count < length f.code → row.place + 2 < end)
  has_more row r end is =
      let exact = goes_on r.count row.left r.within r.left in
      (λ ahead. exact.0 (omega (arith, is, r.place)), λ below. omega (arith, is, r.place, exact.1 below))

  -- and then its place is within the words
  pub row_inside : (row : Row) (r : IsRow m n f row) → r.count < length f.code → row.place < length words
  row_inside row r below = omega (arith, r.place, front_less f.code r.count below, function_ends, image_end m, ap length h.image)

  -- a function has no more instructions than an image words
  pub few_in : length f.code ≤ 1024
  few_in = omega (arith, code_within f.code, function_ends, image_end m, image_short m h.is_module)

  -- how many words are left at each place
  pub left_at : (k : ℕ) → (left : ℕ) × (left + (constants_len (constants_of (take n m.functions)) + constants_len (code_constants (take k f.code))) ≡ length (module_image m))
  left_at k =
      let gone : ℕ = constants_len (constants_of (take n m.functions)) + constants_len (code_constants (take k f.code)) in
      (length (module_image m) - gone, omega (arith, all_constants, front_constants f.code k, image_end m))

  -- the whole row with numbers for places is the code
  pub read_code_is : (row : Row) → IsWholeRow m n f row → (places : List ℕ) → places ≡ row.places → (code : List Instr) → code ≡ map (placed (number_at places)) row.instrs.items → code ≡ f.code
  read_code_is row whole places same code is =
      is ∙ ap (map (placed (number_at places))) whole.instrs ∙ code_again m.functions (function_place m n) f.code places (same ∙ whole.places) few_in function_is.code

  -- and what is left then is left for the functions behind
  pub left_behind_function : (row : Row) → IsWholeRow m n f row → IsLeft m (n + 1) row.left
  left_behind_function row whole =
      let one_more : take (n + 1) m.functions ≡ take n m.functions ++ f ∷ [] = take_more m.functions n f number_below ∙ ap (λ g. take n m.functions ++ g ∷ []) (get_or_from_slice_get m.functions n f f h.found) in
      let constants : constants_len (constants_of (take (n + 1) m.functions)) ≡ constants_len (constants_of (take n m.functions)) + constants_len (code_constants f.code) =
      ap (λ fs. constants_len (constants_of fs)) one_more ∙ ap constants_len (flat_map-append (λ g. code_constants g.code) (take n m.functions) (f ∷ [])) ∙ constants_len-append (constants_of (take n m.functions)) (code_constants f.code ++ []) ∙ ap (λ ts. constants_len (constants_of (take n m.functions)) + constants_len ts) (append-nil (code_constants f.code)) in
      record { whole = omega (arith, whole.left, constants) }

-- The names at the front of a table, one after another, make the table again.
use Rattle.std.proofs.Common.{◌≡◌, ℕ, zero, suc, false, Result, Ok, Err, IfOk, ◌+◌, ◌<◌, ◌≤◌, List, [], ◌∷◌, ◌++◌, length, take, drop, cond, Option, Some, None, is_some, slice_get, refl, sym, ap, ◌∙◌, arith}
use Rattle.std.proofs.lemmas.List.{length-take, take_more, take-append-drop, take_all}
use Rattle.std.proofs.lemmas.Option.{slice_get_within, get_or_from_slice_get}
use Rattle.std.specs.Result.{is_err}
use Rattle.term_core.specs.declared.atom.AtomId.{AtomId}
use Rattle.term_core.specs.declared.names.NameFault.{NameFault}
use Rattle.term_core.specs.Names.{IsNames, AtomText, number_of, names_with}
use Rattle.term_core.proofs.NameTables.{slice_get-number_of}
use Rattle.term_core.proofs.Places.{slice_get-append}

-- what an answer says that is no refusal
pub named_by : (before : List (List ℕ)) (text : List ℕ) (after : List (List ℕ)) (r : Result AtomId NameFault) → is_err r ≡ false → IfOk r (λ atom. AtomText before text atom.0 after) → after ≡ names_with before text
named_by before text after (Ok atom) is_ok h = h.named
named_by before text after (Err fault) is_ok h = absurd cc

-- past the last there is none
pub none_left : {X : Type 0} (xs : List X) (k : ℕ) → slice_get xs k ≡ None → length xs ≤ k
none_left [] k none = omega arith
none_left (x ∷ xs) zero none = absurd cc
none_left (x ∷ xs) (suc k) none = let more = none_left xs k none in omega (arith, more)

-- a text among the first names stands there in the table
found_in : (names : List (List ℕ)) (k j : ℕ) (text : List ℕ) → number_of (take k names) text ≡ Some j → (j < k) × (slice_get names j ≡ Some text)
found_in names k j text is =
    let here = slice_get-number_of (take k names) text j is in
    let within = slice_get_within (take k names) j text here in (
      omega (arith, within, length-take k names),
      ap (λ (ns : List (List ℕ)). slice_get ns j) (sym (take-append-drop k names)) ∙ slice_get-append (take k names) (drop k names) j within ∙ here,
    )

next_by : (names : List (List ℕ)) (k : ℕ) (text : List ℕ) (o : Option ℕ) → IsNames names → slice_get names k ≡ Some text → number_of (take k names) text ≡ o → cond (is_some o) (take k names) (take k names ++ text ∷ []) ≡ take (k + 1) names
next_by names k text None sound here is =
    ap (λ (t : List ℕ). take k names ++ t ∷ []) (sym (get_or_from_slice_get names k text text here)) ∙ sym (take_more names k text (slice_get_within names k text here))
next_by names k text (Some j) sound here is =
    let found = found_in names k j text is in
    absurd (sound.apart j k found.0 (slice_get_within names k text here) (found.1 ∙ sym here))

-- the next name is new, and stands behind them
pub name_copied : (names copies after : List (List ℕ)) (k : ℕ) (text : List ℕ) → IsNames names → slice_get names k ≡ Some text → copies ≡ take k names → after ≡ names_with copies text → after ≡ take (k + 1) names
name_copied names copies after k text sound here so_far named =
    named ∙ ap (λ (ns : List (List ℕ)). names_with ns text) so_far ∙ next_by names k text (number_of (take k names) text) sound here refl

-- where no name is left, all are copied
pub names_copied : (names copies : List (List ℕ)) (k : ℕ) → copies ≡ take k names → length names ≤ k → copies ≡ names
names_copied names copies k so_far past = so_far ∙ take_all k names past

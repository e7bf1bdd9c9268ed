-- Lemmas on the names of a table: what a look-up finds, and what an addition leaves.
use Rattle.std.proofs.Common.{◌≡◌, ℕ, ◌+◌, ◌<◌, ◌==◌, ◌&&◌, ◌⊎◌, inl, inr, Bool, true, false, cond, List, [], ◌∷◌, ◌++◌, map, length, Option, Some, None, is_some, position, slice_get, get_or, unwrap_or, refl, sym, ap, ◌∙◌, subst, arith, length-append}
use Rattle.std.specs.List.{list_any}
use Rattle.std.proofs.lemmas.Bool.Decides.{nat_tests}
use Rattle.std.proofs.lemmas.List.{map-append}
use Rattle.std.proofs.lemmas.List.Folds.{list_any_at}
use Rattle.std.proofs.lemmas.Option.{get_or_from_slice_get, slice_get_within}
use Rattle.term_core.specs.declared.atom.Mfa.{Mfa}
use Rattle.term_core.proofs.Places.{position-map, is_some-position, position-append_one, slice_get-append, slice_get-append_one}
use Rattle.export_table.specs.declared.names.FunctionKey.{FunctionKey}
use Rattle.export_table.specs.FunctionKeys.{name_of_key}
use Rattle.export_table.specs.Exports.{is_same_mfa, entry_of, exports_with, AreEntries, HasEntry}

-- both keys are the same
abbrev is_same_key : FunctionKey → FunctionKey → Bool
is_same_key k x = k.«module» == x.«module» && (k.name == x.name && k.arity == x.arity)

-- where a key stands is the number of its name
pub key_place : (ks : List FunctionKey) (k : FunctionKey) → entry_of (map name_of_key ks) (name_of_key k) ≡ position (λ x. k.«module» == x.«module» && (k.name == x.name && k.arity == x.arity)) ks
key_place ks k = position-map (is_same_mfa (name_of_key k)) name_of_key ks

-- a key that joins the others adds its name
pub key_added : (ks : List FunctionKey) (k : FunctionKey) → map name_of_key (cond (list_any (λ x. k.«module» == x.«module» && (k.name == x.name && k.arity == x.arity)) ks) ks (ks ++ k ∷ [])) ≡ exports_with (map name_of_key ks) (name_of_key k)
key_added ks k =
    let found : list_any (is_same_key k) ks ≡ is_some (entry_of (map name_of_key ks) (name_of_key k)) = sym (is_some-position (is_same_key k) ks) ∙ ap is_some (sym (key_place ks k)) in
    by_test (list_any (is_same_key k) ks) ∙ ap (λ t. cond t (map name_of_key ks) (map name_of_key ks ++ name_of_key k ∷ [])) found
  where
    by_test : (t : Bool) → map name_of_key (cond t ks (ks ++ k ∷ [])) ≡ cond t (map name_of_key ks) (map name_of_key ks ++ name_of_key k ∷ [])
    by_test true = refl
    by_test false = map-append name_of_key ks (k ∷ [])

-- a name is the same as itself
same_self : (name : Mfa) → is_same_mfa name name ≡ true
same_self name = grind (arith, nat_tests)

-- a name that has no number stands nowhere
stands_nowhere : (names : List Mfa) (to : Mfa) (i : ℕ) → entry_of names to ≡ None → slice_get names i ≡ Some to → ⊥
stands_nowhere names to i none at =
    let here : is_same_mfa to (get_or names i to) ≡ true = ap (is_same_mfa to) (get_or_from_slice_get names i to to at) ∙ same_self to in
    let some : is_some (entry_of names to) ≡ true = is_some-position (is_same_mfa to) names ∙ list_any_at (is_same_mfa to) names i to (slice_get_within names i to at) here in
    let not : is_some (entry_of names to) ≡ false = ap is_some none in
    absurd (cc)

-- what stands behind a list is in it, or is what follows
place_of : (names : List Mfa) (to : Mfa) (i : ℕ) (name : Mfa) → slice_get (names ++ to ∷ []) i ≡ Some name → (slice_get names i ≡ Some name) ⊎ ((i ≡ length names) × (to ≡ name))
place_of names to i name at =
    let within : i < length names + 1 = omega (arith, slice_get_within (names ++ to ∷ []) i name at, length-append names (to ∷ [])) in
    let place : (i < length names) ⊎ (i ≡ length names) = grind (arith) in
    elim place [
      | inl less ↦ inl (sym (slice_get-append names (to ∷ []) i less) ∙ at)
      | inr end ↦ inr (end, ap (λ o. unwrap_or o to) (sym (slice_get-append_one names to) ∙ ap (slice_get (names ++ to ∷ [])) (sym end) ∙ at))
    ]

-- a name that is new stands once behind the others
still_once : (names : List Mfa) (to : Mfa) → AreEntries names → entry_of names to ≡ None → (i j : ℕ) (name : Mfa) → slice_get (names ++ to ∷ []) i ≡ Some name → slice_get (names ++ to ∷ []) j ≡ Some name → i ≡ j
still_once names to sound none i j name a b =
    elim (place_of names to i name a) [
      | inl x ↦ elim (place_of names to j name b) [
        | inl y ↦ sound.once i j name x y
        | inr y ↦ absurd (stands_nowhere names to i none (x ∙ ap Some (sym y.1)))
      ]
      | inr x ↦ elim (place_of names to j name b) [
        | inl y ↦ absurd (stands_nowhere names to j none (y ∙ ap Some (sym x.1)))
        | inr y ↦ x.0 ∙ sym y.0
      ]
    ]

-- names stay those of a table when a new one joins them
pub entries_with : (names : List Mfa) (to : Mfa) → AreEntries names → entry_of names to ≡ None → length names < 1024 → AreEntries (exports_with names to)
entries_with names to sound none room =
    let is : names ++ to ∷ [] ≡ exports_with names to = ap (λ o. cond (is_some o) names (names ++ to ∷ [])) (sym none) in
    subst AreEntries is (record { once = still_once names to sound none; room = omega (arith, length-append names (to ∷ [])) })

-- a new name has the next number
pub entry_next : (names : List Mfa) (to : Mfa) → entry_of names to ≡ None → entry_of (exports_with names to) to ≡ Some (length names)
entry_next names to none = ap (λ o. entry_of (cond (is_some o) names (names ++ to ∷ [])) to) none ∙ position-append_one (is_same_mfa to) names to none (same_self to)

-- with a new name the table has its entry
pub entry_added : (names : List Mfa) (to : Mfa) (number : ℕ) (after : List Mfa) → entry_of names to ≡ None → number ≡ length names → number < 1024 → after ≡ exports_with names to → HasEntry names to number after
entry_added names to number after none held small is = record {
  names = is;
  entry = ap (λ all. entry_of all to) is ∙ entry_next names to none ∙ ap Some (sym held);
  small = small;
}

-- and so it has one that was held
pub entry_held : (names : List Mfa) (to : Mfa) (number : ℕ) → entry_of names to ≡ Some number → number < 1024 → HasEntry names to number names
entry_held names to number at small = record {
  names = ap (λ o. cond (is_some o) names (names ++ to ∷ [])) (sym at);
  entry = at;
  small = small;
}

-- a name has one number
pub one_number : (names : List Mfa) (to : Mfa) (a b : ℕ) → entry_of names to ≡ Some a → entry_of names to ≡ Some b → a ≡ b
one_number names to a b at same = ap (λ o. unwrap_or o a) (sym at ∙ same)

-- what the set finds is the number of the name
pub found_at : (ks : List FunctionKey) (k : FunctionKey) (names : List Mfa) (to : Mfa) (r : Option ℕ) → r ≡ position (λ x. k.«module» == x.«module» && (k.name == x.name && k.arity == x.arity)) ks → map name_of_key ks ≡ names → name_of_key k ≡ to → entry_of names to ≡ r
found_at ks k names to r at seen is = sym (at ∙ sym (key_place ks k) ∙ (λ i. entry_of (seen i) (is i)))

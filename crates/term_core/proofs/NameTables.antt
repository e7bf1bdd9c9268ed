-- Lemmas on tables of names and atom texts.
use Rattle.std.proofs.Common.{◌≡◌, ℕ, zero, suc, ◌<◌, ◌≤◌, Bool, true, false, cond, ◌&&◌, ◌⊎◌, List, [], ◌∷◌, ◌++◌, map, take, length, get_or, Option, Some, None, is_some, position, bytes_eq, slice_get, slice_index_or, nat_lt, String, string_bytes, string_eq, IsTrue, All, refl, sym, ap, ◌∙◌, subst, inl, inr, arith, length-append, length-take}
use Rattle.std.specs.List.{list_all, list_any}
use Rattle.std.specs.Char.{is_ascii_lowercase}
use Rattle.std.proofs.lemmas.List.{take-append-le, map-append, length-map}
use Rattle.std.proofs.lemmas.List.Elements.{All-push}
use Rattle.std.proofs.lemmas.List.Folds.{list_any_at}
use Rattle.std.proofs.lemmas.List.Quantifiers.{position-Some}
use Rattle.std.proofs.lemmas.Option.{slice_get-get_or, slice_get_within, get_or_from_slice_get}
use Rattle.std.proofs.lemmas.Slice.Eq.{bytes_eq-Decides}
use Rattle.std.specs.HashSet.{HashSet}
use Rattle.indexmap.specs.IndexSet.{insert_key}
use Rattle.term_core.specs.Names.{IsNames, AtomText, is_name_byte, is_atom_text, number_of, names_with, given_names, set_texts}
use Rattle.term_core.proofs.Places.{is_some-position, position-map, position-append_one, slice_get-append, slice_get-append_one}
use Rattle.term_core.proofs.Text.Options.{same_bytes}
use Rattle.term_core.proofs.Truths.{none_unless}

-- what has a number stands at it
pub slice_get-number_of : (names : List (List ℕ)) (text : List ℕ) (n : ℕ) → number_of names text ≡ Some n → slice_get names n ≡ Some text
slice_get-number_of names text n h =
    let found = position-Some (bytes_eq text) names n [] h in
    slice_get-get_or names n [] found.0 ∙ ap Some (sym ((bytes_eq-Decides text (get_or names n [])).0 found.1))

-- what is none is nothing
no_and_some : (o : Option ℕ) → o ≡ None → is_some o ≡ true → ⊥
no_and_some None e h = cc
no_and_some (Some i) e h = cc

-- what stands somewhere has a number
pub number_of-slice_get : (names : List (List ℕ)) (text : List ℕ) (i : ℕ) → slice_get names i ≡ Some text → number_of names text ≡ None → ⊥
number_of-slice_get names text i at none =
    let here : bytes_eq text (get_or names i []) ≡ true = ap (bytes_eq text) (get_or_from_slice_get names i text [] at) ∙ same_bytes text in
    no_and_some (number_of names text) none (is_some-position (bytes_eq text) names ∙ list_any_at (bytes_eq text) names i [] (slice_get_within names i text at) here)

-- each text of a table is an atom's
pub texts_are_atoms : (names : List (List ℕ)) (text : List ℕ) (n : ℕ) → IsNames names → slice_get names n ≡ Some text → IsTrue (is_atom_text text)
texts_are_atoms names text n sound at =
    ap is_atom_text (sym (get_or_from_slice_get names n text [] at)) ∙ sound.texts n [] (slice_get_within names n text at)

-- what is no atom has no number
pub number_of-no_atom : (names : List (List ℕ)) (text : List ℕ) → IsNames names → is_atom_text text ≡ false → number_of names text ≡ None
number_of-no_atom names text sound none =
    none_unless (number_of names text) (λ i at. let is = texts_are_atoms names text i sound (slice_get-number_of names text i at) in cc)

-- the given names are atoms
given_texts : (k : ℕ) (d : List ℕ) → k < 3 → IsTrue (is_atom_text (slice_index_or given_names k d))
given_texts (suc (suc (suc k))) d h = absurd (omega arith)
given_texts k d h = refl

-- no two of them are alike
given_apart : (i j : ℕ) → i < j → j < 3 → slice_get given_names i ≡ slice_get given_names j → ⊥
given_apart zero (suc zero) l h e = cc
given_apart zero (suc (suc zero)) l h e = cc
given_apart (suc zero) (suc (suc zero)) l h e = cc
given_apart i j l h e = omega arith

-- the given names are a table
pub given_names-IsNames : IsNames given_names
given_names-IsNames = record { texts = given_texts; apart = given_apart; given = refl; room = omega arith }

-- a table has three names or more
three_at_least : (names : List (List ℕ)) → take 3 names ≡ given_names → 3 ≤ length names
three_at_least names h = omega (arith, length-take 3 names, ap length h)

-- a new text is no other
at_end : (names : List (List ℕ)) (text : List ℕ) (i j : ℕ) → number_of names text ≡ None → i < j → j ≡ length names → slice_get (names ++ text ∷ []) i ≡ slice_get (names ++ text ∷ []) j → ⊥
at_end names text i j none less end same =
    number_of-slice_get names text i (sym (slice_get-append names (text ∷ []) i (omega arith)) ∙ same ∙ ap (slice_get (names ++ text ∷ [])) end ∙ slice_get-append_one names text) none

-- no two texts are alike with a new one behind them
still_apart : (names : List (List ℕ)) (text : List ℕ) → IsNames names → number_of names text ≡ None → (i j : ℕ) → i < j → j < length (names ++ text ∷ []) → slice_get (names ++ text ∷ []) i ≡ slice_get (names ++ text ∷ []) j → ⊥
still_apart names text sound none i j less within same =
    let place : (j < length names) ⊎ (j ≡ length names) = grind (arith, length-append names (text ∷ [])) in
    elim place [
      | inl inside ↦ sound.apart i j less inside (sym (slice_get-append names (text ∷ []) i (omega arith)) ∙ same ∙ slice_get-append names (text ∷ []) j inside)
      | inr end ↦ at_end names text i j none less end same
    ]

-- all are atoms with an atom behind them
still_atoms : (names : List (List ℕ)) (text : List ℕ) → All (λ t. IsTrue (is_atom_text t)) names → IsTrue (is_atom_text text) → All (λ t. IsTrue (is_atom_text t)) (names ++ text ∷ [])
still_atoms names text all form = All-push (λ t. IsTrue (is_atom_text t)) names text all form

-- a table stays one, by what the look-up finds
joined : (names : List (List ℕ)) (text : List ℕ) → IsNames names → IsTrue (is_atom_text text) → (o : Option ℕ) → number_of names text ≡ o → length (cond (is_some o) names (names ++ text ∷ [])) ≤ 4096 → IsNames (cond (is_some o) names (names ++ text ∷ []))
joined names text sound form (Some i) is room = sound
joined names text sound form None is room = record {
  texts = still_atoms names text sound.texts form;
  apart = still_apart names text sound is;
  given = take-append-le 3 names (text ∷ []) (three_at_least names sound.given) ∙ sound.given;
  room = room;
}

-- a table stays one when an atom's text joins it
pub names_with-IsNames : (names : List (List ℕ)) (text : List ℕ) → IsNames names → IsTrue (is_atom_text text) → length (names_with names text) ≤ 4096 → IsNames (names_with names text)
names_with-IsNames names text sound form room = joined names text sound form (number_of names text) refl room

-- what is mapped of a choice is a choice of what is mapped
map_if : {X : Type 0} (f : X → List ℕ) (b : Bool) (ks : List X) (k : X) → map f (cond b ks (ks ++ k ∷ [])) ≡ cond b (map f ks) (map f ks ++ f k ∷ [])
map_if f true ks k = refl
map_if f false ks k = map-append f ks (k ∷ [])

-- a string that joins a set adds its text
pub insert_key-texts : {Y : Type 0} (ks : List (String Y)) (k : String Y) (text : List ℕ) → string_bytes k ≡ text → map string_bytes (insert_key string_eq ks k) ≡ names_with (map string_bytes ks) text
insert_key-texts ks k text is =
    let found : is_some (number_of (map string_bytes ks) (string_bytes k)) ≡ list_any (string_eq k) ks = ap is_some (position-map (bytes_eq (string_bytes k)) string_bytes ks) ∙ is_some-position (string_eq k) ks in
    map_if string_bytes (list_any (string_eq k) ks) ks k ∙ ap (λ b. cond b (map string_bytes ks) (map string_bytes ks ++ string_bytes k ∷ [])) (sym found) ∙ ap (names_with (map string_bytes ks)) is

-- a text without a number goes last
pub named_anew : (names : List (List ℕ)) (text : List ℕ) → number_of names text ≡ None → names_with names text ≡ names ++ text ∷ []
named_anew names text none = ap (λ o. cond (is_some o) names (names ++ text ∷ [])) none

-- a new text has the next number
pub AtomText-new : (names : List (List ℕ)) (text : List ℕ) → IsTrue (is_atom_text text) → number_of names text ≡ None → length names < 4096 → AtomText names text (length names) (names_with names text)
AtomText-new names text form none room = record {
  form = form;
  named = refl;
  room = omega (arith, ap length (named_anew names text none), length-append names (text ∷ []));
  number = ap (λ after. number_of after text) (named_anew names text none) ∙ position-append_one (bytes_eq text) names text none (same_bytes text);
}

-- a text with a number keeps it, and the table stays
pub AtomText-known : (names : List (List ℕ)) (text : List ℕ) (n : ℕ) → IsNames names → IsTrue (is_atom_text text) → number_of names text ≡ Some n → AtomText names text n names
AtomText-known names text n sound form at = record {
  form = form;
  named = ap (λ o. cond (is_some o) names (names ++ text ∷ [])) (sym at);
  room = sound.room;
  number = at;
}

-- where a set of strings finds a text, that is its number
pub number_at : {Y S : Type 0} (set : HashSet (String Y) S) (names : List (List ℕ)) (query text : List ℕ) (found : Option ℕ) → set_texts set ≡ names → query ≡ text → found ≡ position (λ k. bytes_eq query (string_bytes k)) set.keys → number_of names text ≡ found
number_at set names query text found view same e =
    ap (λ n. number_of n text) (sym view) ∙ ap (number_of (set_texts set)) (sym same) ∙ position-map (bytes_eq query) string_bytes set.keys ∙ sym e

-- how many texts a set of strings has
pub length-texts : {Y S : Type 0} (set : HashSet (String Y) S) (names : List (List ℕ)) → set_texts set ≡ names → length set.keys ≡ length names
length-texts set names view = sym (length-map set.keys string_bytes) ∙ ap length view

-- an atom's text by its parts
pub is_atom_text-parts : (text : List ℕ) (c : ℕ) (rest : List ℕ) → text ≡ c ∷ rest → is_ascii_lowercase c ≡ true → list_all is_name_byte rest ≡ true → nat_lt (length rest) 32 ≡ is_atom_text text
is_atom_text-parts text c rest e first others =
    sym (ap is_atom_text e ∙ ap (λ b. b && (list_all is_name_byte rest && nat_lt (length rest) 32)) first ∙ ap (λ b. b && nat_lt (length rest) 32) others)

-- a new text took the number n
pub record Grows (before : List (List ℕ)) (text : List ℕ) (n : ℕ) (after : List (List ℕ)) : Type 0 where
  pub named : AtomText before text n after
  pub sound : IsNames after

-- and has the number that is the length before
named_next : (names : List (List ℕ)) (text : List ℕ) (n : ℕ) → IsTrue (is_atom_text text) → number_of names text ≡ None → n ≡ length names → n < 4096 → AtomText names text n (names_with names text)
named_next names text n form none held room = subst (λ (k : ℕ). AtomText names text k (names_with names text)) (sym held) (AtomText-new names text form none (omega arith))

-- a new text makes a table that has it last
pub grows : (before : List (List ℕ)) (text : List ℕ) (n : ℕ) (after : List (List ℕ)) → IsNames before → IsTrue (is_atom_text text) → number_of before text ≡ None → n ≡ length before → n < 4096 → after ≡ names_with before text → Grows before text n after
grows before text n after sound form none held room e =
    let named : AtomText before text n (names_with before text) = named_next before text n form none held room in
    record {
      named = subst (AtomText before text n) (sym e) named;
      sound = subst IsNames (sym e) (names_with-IsNames before text sound form named.room);
    }

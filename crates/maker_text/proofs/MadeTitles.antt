-- The modules of a made script: no two agree in name and version, and each version that a command names is among them.
use Rattle.std.proofs.Common.{◌≡◌, Bool, ℕ, zero, suc, ◌+◌, ◌<◌, ◌≤◌, ◌==◌, ◌&&◌, true, false, List, ◌++◌, map, inl, inr, refl, ◌∙◌, ap, sym, arith}
use Rattle.std.proofs.lemmas.Bool.{and_from, or_left, or_right, cases_lt}
use Rattle.std.proofs.lemmas.List.Folds.{list_any-append}
use Rattle.std.proofs.lemmas.Bool.Decides.{Decides-eqb, nat_tests}
use Rattle.std.specs.List.{AllByRecursion, list_any, range_with_len}
use Rattle.term_core.proofs.Lists.{each_append}
use Rattle.script_maker.specs.declared.subject.Subject.{Subject}
use Rattle.script_maker.specs.MadeScript.{subject_of}
use Rattle.server_core.specs.declared.command.ModRef.{ModRef}
use Rattle.script_text.specs.Sets.{is_same_mod_ref, is_among}
use Rattle.script_text.proofs.Told.{AreApart}
use Rattle.maker_text.proofs.MadeCommandLines.{IsToldSubject, version_ref}

-- versions of a module in a row
abbrev refs_from : Subject → ℕ → ℕ → List ModRef
refs_from about a n = map (version_ref about) (range_with_len a n)

-- those of all modules
abbrev pub made_refs : List ModRef
made_refs = refs_from (subject_of 0) 1 8 ++ refs_from (subject_of 1) 1 8

-- ---- no two agree

-- versions of one module differ
versions_apart : (about : Subject) (v w : ℕ) → v < w → is_same_mod_ref (version_ref about w) (version_ref about v) ≡ false
versions_apart about v w less =
    let other : (w == v) ≡ false = grind (arith, nat_tests, less) in
    ap (λ (b : Bool). about.«module».0 == about.«module».0 && b) other ∙ none (about.«module».0 == about.«module».0)
  where
    none : (b : Bool) → (b && false) ≡ false
    none true = refl
    none false = refl

later_apart : (about : Subject) (v a n : ℕ) → v < a → AllByRecursion (λ s. is_same_mod_ref s (version_ref about v) ≡ false) (refs_from about a n)
later_apart about v a zero less = tt
later_apart about v a (suc n) less = (versions_apart about v a less, later_apart about v (a + 1) n (omega (arith, less)))

row_apart : (about : Subject) (a n : ℕ) → AreApart (refs_from about a n)
row_apart about a zero = tt
row_apart about a (suc n) = (later_apart about a (a + 1) n (omega arith), row_apart about (a + 1) n)

-- those of the second module differ from each of the first
others_apart : (v a n : ℕ) → AllByRecursion (λ s. is_same_mod_ref s (version_ref (subject_of 0) v) ≡ false) (refs_from (subject_of 1) a n)
others_apart v a zero = tt
others_apart v a (suc n) = (refl, others_apart v (a + 1) n)

both_apart : (v : ℕ) (xs : List ModRef) (a n : ℕ) → AllByRecursion (λ s. is_same_mod_ref s (version_ref (subject_of 0) v) ≡ false) xs → AllByRecursion (λ s. is_same_mod_ref s (version_ref (subject_of 0) v) ≡ false) (xs ++ refs_from (subject_of 1) a n)
both_apart v xs a n h = each_append (λ s. is_same_mod_ref s (version_ref (subject_of 0) v) ≡ false) xs (refs_from (subject_of 1) a n) h (others_apart v a n)

rows_apart : (a n b m : ℕ) → AreApart (refs_from (subject_of 0) a n ++ refs_from (subject_of 1) b m)
rows_apart a zero b m = row_apart (subject_of 1) b m
rows_apart a (suc n) b m = (both_apart a (refs_from (subject_of 0) (a + 1) n) b m (later_apart (subject_of 0) a (a + 1) n (omega arith)), rows_apart (a + 1) n b m)

pub refs_apart : AreApart made_refs
refs_apart = rows_apart 1 8 1 8

-- ---- each is given

same_ref : (about : Subject) (v : ℕ) → is_same_mod_ref (version_ref about v) (version_ref about v) ≡ true
same_ref about v = and_from (about.«module».0 == about.«module».0) (v == v) ((Decides-eqb about.«module».0 about.«module».0).1 refl) ((Decides-eqb v v).1 refl)

given_in : (about : Subject) (v a n : ℕ) → a ≤ v → v < a + n → is_among (refs_from about a n) (version_ref about v) ≡ true
given_in about v a zero low high = absurd (omega (arith, low, high))
given_in about v a (suc n) low high = elim (cases_lt a v) [
  | inl below ↦ or_right (is_same_mod_ref (version_ref about v) (version_ref about a)) (is_among (refs_from about (a + 1) n) (version_ref about v)) (given_in about v (a + 1) n (omega (arith, below)) (omega (arith, high)))
  | inr above ↦ let here : v ≡ a = omega (arith, low, above) in or_left (is_same_mod_ref (version_ref about v) (version_ref about a)) (is_among (refs_from about (a + 1) n) (version_ref about v)) (ap (λ (w : ℕ). is_same_mod_ref (version_ref about v) (version_ref about w)) (sym here) ∙ same_ref about v)
]

any_front : (test : ModRef → Bool) (xs ys : List ModRef) → list_any test xs ≡ true → list_any test (xs ++ ys) ≡ true
any_front test xs ys h = list_any-append test xs ys ∙ or_left (list_any test xs) (list_any test ys) h

-- what is said of both modules
pub first_told : IsToldSubject made_refs (subject_of 0)
first_told = record {
  module_again = refl;
  key_again = refl;
  module_held = record { number = _; is = refl };
  key_held = record { number = _; is = refl };
  module_text = refl;
  key_text = refl;
  given = λ version least most. any_front (is_same_mod_ref (version_ref (subject_of 0) version)) (refs_from (subject_of 0) 1 8) (refs_from (subject_of 1) 1 8) (given_in (subject_of 0) version 1 8 least (omega (arith, most)));
}

pub second_told : IsToldSubject made_refs (subject_of 1)
second_told = record {
  module_again = refl;
  key_again = refl;
  module_held = record { number = _; is = refl };
  key_held = record { number = _; is = refl };
  module_text = refl;
  key_text = refl;
  given = λ version least most. given_in (subject_of 1) version 1 8 least (omega (arith, most));
}

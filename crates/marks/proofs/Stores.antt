-- A store that area_core's test of slots lets pass newly names only what a turn comes to.
use Rattle.std.proofs.Common.{◌≡◌, ◌≢◌, ℕ, ◌%◌, Bool, true, false, not, ◌||◌, ◌⊎◌, inl, inr, ap, ◌∙◌, subst, arith}
use Rattle.std.specs.Prelude.{◌==◌, nat_le}
use Rattle.std.proofs.lemmas.Bool.{and_parts, or_cases, or_left, or_right, not-true, eqb-true, leb-true, cases_eq}
use Rattle.area_core.specs.declared.map.TheConstants.{ANCHORS}
use Rattle.area_core.specs.declared.table.Published.{Published}
use Rattle.area_core.specs.declared.table.Table.{Table}
use Rattle.area_core.specs.Generations.{is_current, is_key_area, serial_in, names_frame, names_literal}
use Rattle.area_core.specs.Map.{slot_place, word_at}
use Rattle.area_core.specs.Stores.{stands_elsewhere, is_framed, may_name_frame, may_name_literal, may_store_anchor}
use Rattle.area_core.proofs.Tests.{three_hold, one_of_two, one_of_three}
use Rattle.area_core.proofs.Anchors.{elsewhere_false, framed_by}
use Rattle.marks.specs.declared.kept.LookKind.{LookKind}
use Rattle.marks.specs.declared.kept.LookKind.TheVariants.{Frame, Both}
use Rattle.marks.specs.Names.{names_in, tells_kill}
use Rattle.marks.specs.Kept.{comes_to}
use Rattle.marks.specs.Steps.{holding, MayBecome}

-- what is named is the area of the word's serial
serial_of_frame : (word serial : ℕ) → names_frame word serial ≡ true → serial_in word ≡ serial
serial_of_frame word serial named = eqb-true (serial_in word) serial (and_parts (word % 2 == 1) (serial_in word == serial) named).1

serial_of_literal : (word serial : ℕ) → names_literal word serial ≡ true → serial_in word ≡ serial
serial_of_literal word serial named = eqb-true (serial_in word) serial (and_parts (nat_le 2 (word % 4)) (serial_in word == serial) named).1

-- a word that names something is not 0
frame_not_zero : (word serial : ℕ) → names_frame word serial ≡ true → word ≢ 0
frame_not_zero word serial named zero = let odd = eqb-true (word % 2) 1 (and_parts (word % 2 == 1) (serial_in word == serial) named).0 in absurd (omega (arith, odd, zero))

literal_not_zero : (word serial : ℕ) → names_literal word serial ≡ true → word ≡ 0 → ⊥
literal_not_zero word serial named zero = let high = leb-true 2 (word % 4) (and_parts (nat_le 2 (word % 4)) (serial_in word == serial) named).0 in absurd (omega (arith, high, zero))

module _ (s : Table) (awake : Bool) (generation process place value : ℕ) (p : Published) (may : may_store_anchor s process place value p ≡ true) where
  abbrev pub old : ℕ
  old = word_at s.words (slot_place process place)

  tests : (((value == 0) || not (stands_elsewhere s.words process place (serial_in value) ANCHORS)) ≡ true) × (may_name_frame p old value ≡ true) × (may_name_literal p s.words process old value ≡ true)
  tests = three_hold ((value == 0) || not (stands_elsewhere s.words process place (serial_in value) ANCHORS)) (may_name_frame p old value) (may_name_literal p s.words process old value) may

  -- a frame that is newly named is of a current instance
  new_frame : (serial : ℕ) → names_frame value serial ≡ true → (names_frame old serial ≡ true) ⊎ (is_current p serial ≡ true)
  new_frame serial named =
      let same = serial_of_frame value serial named in
      subst (λ (x : ℕ). (names_frame old x ≡ true) ⊎ (is_current p x ≡ true)) same
      (one_of_two (names_frame value (serial_in value)) (names_frame old (serial_in value)) (is_current p (serial_in value)) tests.1 (ap (names_frame value) same ∙ named))

  -- an area that the slot names for a frame stands in this anchor, where it may be named here
  framed_here : (serial : ℕ) → names_literal value serial ≡ true → is_framed s.words process (serial_in value) ANCHORS ≡ true → names_frame old (serial_in value) ≡ true
  framed_here serial named framed =
      let found = framed_by s.words process (serial_in value) ANCHORS framed in
      elim (cases_eq found.0 place) as (λ _. names_frame old (serial_in value) ≡ true) [
        | inl here ↦ subst (λ (n : ℕ). names_frame (word_at s.words (slot_place process n)) (serial_in value) ≡ true) here found.3
        | inr other ↦
            elim (or_cases (value == 0) (not (stands_elsewhere s.words process place (serial_in value) ANCHORS)) tests.0) as (λ _. names_frame old (serial_in value) ≡ true) [
              | inl zero_value ↦ absurd (literal_not_zero value serial named (eqb-true value 0 zero_value))
              | inr nowhere ↦
                  absurd (elsewhere_false s.words process place (serial_in value) ANCHORS found.0 (not-true (stands_elsewhere s.words process place (serial_in value) ANCHORS) nowhere) found.1 found.2 other
                  (frame_not_zero (word_at s.words (slot_place process found.0)) (serial_in value) found.3) (serial_of_frame (word_at s.words (slot_place process found.0)) (serial_in value) found.3))
            ]
      ]

  -- a literal that is newly named is the area of a key, or the anchor names it already for a frame
  new_literal : (serial : ℕ) → names_literal value serial ≡ true → (names_in Both old serial ≡ true) ⊎ (is_key_area p serial ≡ true)
  new_literal serial named =
      let same = serial_of_literal value serial named in
      subst (λ (x : ℕ). (names_in Both old x ≡ true) ⊎ (is_key_area p x ≡ true)) same
      (elim (one_of_three (names_literal value (serial_in value)) (names_literal old (serial_in value)) (is_key_area p (serial_in value)) (is_framed s.words process (serial_in value) ANCHORS) tests.2 (ap (names_literal value) same ∙ named)) as (λ _. (names_in Both old (serial_in value) ≡ true) ⊎ (is_key_area p (serial_in value) ≡ true)) [
        | inl before ↦ inl (or_right (names_frame old (serial_in value)) (names_literal old (serial_in value)) before)
        | inr others ↦ elim others as (λ _. (names_in Both old (serial_in value) ≡ true) ⊎ (is_key_area p (serial_in value) ≡ true)) [
          | inl key ↦ inr key
          | inr framed ↦ inl (or_left (names_frame old (serial_in value)) (names_literal old (serial_in value)) (framed_here serial named framed))
        ]
      ])

  newly : (kind : LookKind) (serial : ℕ) → names_in kind value serial ≡ true → (names_in kind old serial ≡ true) ⊎ (comes_to (holding awake generation p) kind serial ≡ true)
  newly Frame serial named = new_frame serial named
  newly Both serial named =
      elim (or_cases (names_frame value serial) (names_literal value serial) named) as (λ _. (names_in Both old serial ≡ true) ⊎ (comes_to (holding awake generation p) Both serial ≡ true)) [
        | inl frame ↦ elim (new_frame serial frame) as (λ _. (names_in Both old serial ≡ true) ⊎ (comes_to (holding awake generation p) Both serial ≡ true)) [
          | inl before ↦ inl (or_left (names_frame old serial) (names_literal old serial) before)
          | inr current ↦ inr (or_left (is_current p serial) (is_key_area p serial) current)
        ]
        | inr literal ↦ elim (new_literal serial literal) as (λ _. (names_in Both old serial ≡ true) ⊎ (comes_to (holding awake generation p) Both serial ≡ true)) [
          | inl before ↦ inl before
          | inr key ↦ inr (or_right (is_current p serial) (is_key_area p serial) key)
        ]
      ]

  pub store_allowed : ((serial : ℕ) → tells_kill old serial ≡ false) → ((serial : ℕ) → tells_kill value serial ≡ true → names_frame old serial ≡ true) → MayBecome (holding awake generation p) old value
  store_allowed stays kills = record { newly = newly; stays = stays; kills = kills }

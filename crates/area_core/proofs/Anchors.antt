-- What the test of an anchor tells: what it newly names is kept, and no other anchor of the slot names it.
use Rattle.std.proofs.Common.{◌≡◌, ◌≢◌, ℕ, zero, suc, ◌+◌, ◌%◌, ◌<◌, ◌≤◌, Bool, true, false, not, ◌&&◌, ◌||◌, List, Option, Some, None, inl, inr, refl, sym, ◌∙◌, subst, arith}
use Rattle.std.specs.Prelude.{◌==◌, slice_get, nat_le}
use Rattle.std.proofs.lemmas.Bool.{and_parts, and_from, or_cases, or_parts, or_left, or_right, eq-eqb, eqb-true, eqb-false, ne_eqb, le-leb, leb-true, not-true, not_from_false, cases_Bool, cases_lt, true≢false}
use Rattle.prgr_core.specs.declared.member.Member.{Member}
use Rattle.prgr_core.specs.Members.{is_value}
use Rattle.prgr_core.proofs.SoundParts.{is_member}
use Rattle.prgr_core.proofs.SoundMembers.{is_value_true}
use Rattle.area_core.specs.declared.map.TheConstants.{PROCESSES, ANCHORS}
use Rattle.area_core.specs.declared.table.Published.{Published}
use Rattle.area_core.specs.declared.table.KeptArea.{KeptArea}
use Rattle.area_core.specs.declared.table.Table.{Table}
use Rattle.area_core.specs.Map.{word_at, slot_place}
use Rattle.area_core.specs.Generations.{is_current, is_instance, is_key_area, is_used, is_kept, is_kept_as, has_area, has_image, has_serial, serial_in, is_naming, names_frame, names_literal}
use Rattle.area_core.specs.Stores.{with_word, stands_elsewhere, is_framed, may_name_frame, may_name_literal, may_store_anchor, may_store_slot}
use Rattle.area_core.specs.Step.{IsReadable, IsSound}
use Rattle.area_core.proofs.Counted.{elsewhere_suc, framed_suc, framed_none}
use Rattle.area_core.proofs.Tests.{some_passes, passed_by, three_hold, one_of_two, one_of_three}
use Rattle.area_core.proofs.SlotStores.{slot_word_kept}

-- ---- anchors of one slot

all_three : (a b c : Bool) → a ≡ false → b ≡ false → c ≡ true → (not a && not b && c) ≡ true
all_three false false true f g h = refl
all_three a b c f g h = absurd (cc)

-- an area that stands nowhere else in the slot does not stand in another anchor
pub elsewhere_false : (words : List ℕ) (process place serial n anchor : ℕ) → stands_elsewhere words process place serial n ≡ false → 1 ≤ anchor → anchor ≤ n → anchor ≢ place → word_at words (slot_place process anchor) ≢ 0 → serial_in (word_at words (slot_place process anchor)) ≡ serial → ⊥
elsewhere_false words process place serial zero anchor e first last other some same = absurd (omega (arith))
elsewhere_false words process place serial (suc n) anchor e first last other some same =
    elim (cases_lt n anchor) as (λ _. ⊥) [
      | inl here ↦
          let is : n + 1 ≡ anchor = omega (arith) in
          stands (parts.1) is
      | inr before ↦ elsewhere_false words process place serial n anchor parts.0 first before other some same
    ]
  where
    parts : (stands_elsewhere words process place serial n ≡ false) × ((not (n + 1 == place) && not (word_at words (slot_place process (n + 1)) == 0) && (serial_in (word_at words (slot_place process (n + 1))) == serial)) ≡ false)
    parts = or_parts (stands_elsewhere words process place serial n) (not (n + 1 == place) && not (word_at words (slot_place process (n + 1)) == 0) && (serial_in (word_at words (slot_place process (n + 1))) == serial)) (sym (elsewhere_suc words process place serial n) ∙ e)

    stands : (not (n + 1 == place) && not (word_at words (slot_place process (n + 1)) == 0) && (serial_in (word_at words (slot_place process (n + 1))) == serial)) ≡ false → n + 1 ≡ anchor → ⊥
    stands fails is = true≢false (sym (all_three (anchor == place) (word_at words (slot_place process anchor) == 0) (serial_in (word_at words (slot_place process anchor)) == serial) (ne_eqb anchor place other) (ne_eqb (word_at words (slot_place process anchor)) 0 some) (eq-eqb (serial_in (word_at words (slot_place process anchor))) serial same)) ∙ subst (λ (m : ℕ). (not (m == place) && not (word_at words (slot_place process m) == 0) && (serial_in (word_at words (slot_place process m)) == serial)) ≡ false) is fails)

-- an area that the slot names for a frame stands in one of its anchors
pub framed_by : (words : List ℕ) (process serial n : ℕ) → is_framed words process serial n ≡ true → (anchor : ℕ) × (1 ≤ anchor) × (anchor ≤ n) × (names_frame (word_at words (slot_place process anchor)) serial ≡ true)
framed_by words process serial zero e = absurd (true≢false (sym e ∙ framed_none words process serial))
framed_by words process serial (suc n) e =
    elim (or_cases (is_framed words process serial n) (names_frame (word_at words (slot_place process (n + 1))) serial) (sym (framed_suc words process serial n) ∙ e)) as (λ _. (anchor : ℕ) × (1 ≤ anchor) × (anchor ≤ suc n) × (names_frame (word_at words (slot_place process anchor)) serial ≡ true)) [
      | inl before ↦ let found = framed_by words process serial n before in (found.0, found.1, more found.0 n found.2, found.3)
      | inr here ↦ (n + 1, omega (arith), omega (arith), here)
    ]
  where
    more : (m n : ℕ) → m ≤ n → m ≤ suc n
    more m n below = omega (arith)

-- ---- what an anchor names

-- an anchor that names an area for a frame or a literal names one
naming_odd : (word : ℕ) → word % 2 ≡ 1 → is_naming word ≡ true
naming_odd word odd = not_from_false (word % 4 == 0) (ne_eqb (word % 4) 0 (λ e. absurd (omega (arith))))

naming_literal : (word : ℕ) → 2 ≤ word % 4 → is_naming word ≡ true
naming_literal word high = not_from_false (word % 4 == 0) (ne_eqb (word % 4) 0 (λ e. absurd (omega (arith))))

-- a kept area by its serial
module _ (s : Table) (sound : IsSound s) (process : ℕ) (slot : process < PROCESSES) where
  -- the area that an anchor names for a frame is kept
  pub frame_kept : (anchor serial : ℕ) → 1 ≤ anchor → anchor ≤ ANCHORS → names_frame (word_at s.words (slot_place process anchor)) serial ≡ true → is_kept s.kept serial ≡ true
  frame_kept anchor serial first last names =
      let parts = and_parts (word_at s.words (slot_place process anchor) % 2 == 1) (serial_in (word_at s.words (slot_place process anchor)) == serial) names in
      let odd = eqb-true (word_at s.words (slot_place process anchor) % 2) 1 parts.0 in
      subst (λ (x : ℕ). is_kept s.kept x ≡ true) (eqb-true (serial_in (word_at s.words (slot_place process anchor))) serial parts.1)
      (sound.blocks.named_kept process anchor (record { slot = slot; first = first; last = last }) (naming_odd (word_at s.words (slot_place process anchor)) odd))

  -- the area that an anchor names for a literal is kept
  pub literal_kept : (anchor serial : ℕ) → 1 ≤ anchor → anchor ≤ ANCHORS → names_literal (word_at s.words (slot_place process anchor)) serial ≡ true → is_kept s.kept serial ≡ true
  literal_kept anchor serial first last names =
      let parts = and_parts (nat_le 2 (word_at s.words (slot_place process anchor) % 4)) (serial_in (word_at s.words (slot_place process anchor)) == serial) names in
      let high = leb-true 2 (word_at s.words (slot_place process anchor) % 4) parts.0 in
      subst (λ (x : ℕ). is_kept s.kept x ≡ true) (eqb-true (serial_in (word_at s.words (slot_place process anchor))) serial parts.1)
      (sound.blocks.named_kept process anchor (record { slot = slot; first = first; last = last }) (naming_literal (word_at s.words (slot_place process anchor)) high))

  -- an area that a generation uses is kept
  pub used_is_kept : (g : ℕ) (p : Published) (serial : ℕ) → IsReadable s g → slice_get s.published g ≡ Some p → is_used p serial ≡ true → is_kept s.kept serial ≡ true
  used_is_kept g p serial counts here uses =
      let found = passed_by (is_kept_as p serial) s.kept (sound.blocks.used_kept g p counts here serial uses) in
      let parts = three_hold (found.0.area.serial == serial) (has_area p.areas serial found.0.area.block) (has_image p.state.areas serial found.0.words) found.3 in
      some_passes (λ (k : KeptArea). k.area.serial == serial) s.kept found.1 found.0 found.2 parts.0

  -- what an anchor newly names is kept
  pub newly_kept : (g : ℕ) (p : Published) (place value : ℕ) → IsReadable s g → slice_get s.published g ≡ Some p → 1 ≤ place → place ≤ ANCHORS → may_name_frame p (word_at s.words (slot_place process place)) value ≡ true → may_name_literal p s.words process (word_at s.words (slot_place process place)) value ≡ true → is_naming value ≡ true → is_kept s.kept (serial_in value) ≡ true
  newly_kept g p place value counts here first last frames literals naming =
      elim (cases_Bool (value % 2 == 1)) as (λ _. is_kept s.kept (serial_in value) ≡ true) [
        | inl odd ↦ by_frame (and_from (value % 2 == 1) (serial_in value == serial_in value) odd (eq-eqb (serial_in value) (serial_in value) refl))
        | inr even ↦
            let some = eqb-false (value % 4) 0 (not-true (value % 4 == 0) naming) in
            let whole = eqb-false (value % 2) 1 even in
            by_literal (and_from (nat_le 2 (value % 4)) (serial_in value == serial_in value) (le-leb 2 (value % 4) (two value some whole)) (eq-eqb (serial_in value) (serial_in value) refl))
      ]
    where
      two : (value : ℕ) → (value % 4 ≡ 0 → ⊥) → (value % 2 ≡ 1 → ⊥) → 2 ≤ value % 4
      two value some whole = omega (arith)

      by_frame : names_frame value (serial_in value) ≡ true → is_kept s.kept (serial_in value) ≡ true
      by_frame names =
          elim (one_of_two (names_frame value (serial_in value)) (names_frame (word_at s.words (slot_place process place)) (serial_in value)) (is_current p (serial_in value)) frames names) as (λ _. is_kept s.kept (serial_in value) ≡ true) [
            | inl old ↦ frame_kept place (serial_in value) first last old
            | inr current ↦ used_is_kept g p (serial_in value) counts here (or_left (is_instance p (serial_in value)) (is_key_area p (serial_in value)) (or_left (is_current p (serial_in value)) (has_serial p.state.old (serial_in value)) current))
          ]

      by_literal : names_literal value (serial_in value) ≡ true → is_kept s.kept (serial_in value) ≡ true
      by_literal names =
          elim (one_of_three (names_literal value (serial_in value)) (names_literal (word_at s.words (slot_place process place)) (serial_in value)) (is_key_area p (serial_in value)) (is_framed s.words process (serial_in value) ANCHORS) literals names) as (λ _. is_kept s.kept (serial_in value) ≡ true) [
            | inl old ↦ literal_kept place (serial_in value) first last old
            | inr others ↦ elim others as (λ _. is_kept s.kept (serial_in value) ≡ true) [
              | inl key ↦ used_is_kept g p (serial_in value) counts here (or_right (is_instance p (serial_in value)) (is_key_area p (serial_in value)) key)
              | inr framed ↦ let found = framed_by s.words process (serial_in value) ANCHORS framed in frame_kept found.0 (serial_in value) found.1 found.2 found.3
            ]
          ]

-- ---- a store that the test lets through

-- what the test of a slot asks was published, and for an anchor its own test holds
pub slot_test : (s : Table) (process place value : ℕ) (newest : Option Published) → may_store_slot s process place value newest ≡ true → (p : Published) × (newest ≡ Some p) × ((1 ≤ place) → may_store_anchor s process place value p ≡ true)
slot_test s process place value None e = absurd (cc)
slot_test s process place value (Some p) e = (p, refl, λ first. anchor first)
  where
    anchor : 1 ≤ place → may_store_anchor s process place value p ≡ true
    anchor first =
        elim (or_cases (place == 0) (may_store_anchor s process place value p) e) as (λ _. may_store_anchor s process place value p ≡ true) [
          | inl none ↦ let none_place = eqb-true place 0 none in absurd (omega (arith, none_place, first))
          | inr may ↦ may
        ]

pub slot_stored_sound : (s : Table) → IsSound s → (k process place value : ℕ) (member : Member) → slice_get s.progress.members k ≡ Some member → is_value member.word ≡ true → process < PROCESSES → place ≤ ANCHORS → may_store_slot s process place value (slice_get s.published member.generation) ≡ true → IsSound (with_word s (slot_place process place) value)
slot_stored_sound s sound k process place value member at running slot last may = slot_word_kept s sound process place value slot last
    (λ first naming.
    let tests = anchor_tests first in
    newly_kept s sound process slot member.generation test.0 place value counts test.1 first last tests.1 tests.2 naming)
    (λ anchor is first other some standing same.
    let tests = anchor_tests first in
    elim (or_cases (value == 0) (not (stands_elsewhere s.words process place (serial_in value) ANCHORS)) tests.0) as (λ _. ⊥) [
      | inl none ↦ some (eqb-true value 0 none)
      | inr nowhere ↦ elsewhere_false s.words process place (serial_in value) ANCHORS anchor (not-true (stands_elsewhere s.words process place (serial_in value) ANCHORS) nowhere) is.first is.last other standing same
    ])
  where
    test : (p : Published) × (slice_get s.published member.generation ≡ Some p) × ((1 ≤ place) → may_store_anchor s process place value p ≡ true)
    test = slot_test s process place value (slice_get s.published member.generation) may

    anchor_tests : (first : 1 ≤ place) → (((value == 0) || not (stands_elsewhere s.words process place (serial_in value) ANCHORS)) ≡ true) × (may_name_frame test.0 (word_at s.words (slot_place process place)) value ≡ true) × (may_name_literal test.0 s.words process (word_at s.words (slot_place process place)) value ≡ true)
    anchor_tests first = three_hold ((value == 0) || not (stands_elsewhere s.words process place (serial_in value) ANCHORS)) (may_name_frame test.0 (word_at s.words (slot_place process place)) value) (may_name_literal test.0 s.words process (word_at s.words (slot_place process place)) value) (test.2 first)

    counts : IsReadable s member.generation
    counts = inr (inl (member, is_member s.progress sound.progress k member at, inl (is_value_true member.word running), refl))

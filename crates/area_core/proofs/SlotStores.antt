-- A store of a word of a slot keeps the block invariant.
use Rattle.std.proofs.Common.{◌≡◌, ◌≢◌, ℕ, ◌<◌, ◌≤◌, ◌⊎◌, inl, inr, sym, ap, ◌∙◌, subst, arith}
use Rattle.std.specs.Prelude.{slice_set, IsTrue}
use Rattle.std.proofs.lemmas.Bool.{cases_eq}
use Rattle.area_core.specs.declared.map.TheConstants.{TABLE_WORDS, PROCESSES, ANCHORS}
use Rattle.area_core.specs.declared.map.WordKind.TheVariants.{Slot}
use Rattle.area_core.specs.declared.table.Table.{Table}
use Rattle.area_core.specs.Map.{word_at, slot_place}
use Rattle.area_core.specs.Generations.{is_kept, serial_in, is_naming}
use Rattle.area_core.specs.Blocks.{IsAnchor}
use Rattle.area_core.specs.Stores.{with_word}
use Rattle.area_core.specs.Step.{IsSound}
use Rattle.area_core.proofs.Places.{kind_slot, slots_differ, word_here, word_there}
use Rattle.area_core.proofs.OutsideBlocks.{outside_kept}

-- ---- a word of a slot

-- two words of anchors that are not 0 have different serials
abbrev Apart : ℕ → ℕ → Type 0
Apart x y = x ≢ 0 → y ≢ 0 → serial_in x ≢ serial_in y

both_words : (x y u v : ℕ) → x ≡ u → y ≡ v → Apart u v → Apart x y
both_words x y u v same also is = subst (λ (z : ℕ). Apart z y) (sym same) (subst (λ (z : ℕ). Apart u z) (sym also) is)

-- a word of a slot is stored; what is said of anchors holds of it
module _ (s : Table) (sound : IsSound s) (process place value : ℕ) (slot : process < PROCESSES) (last : place ≤ ANCHORS) (kept : 1 ≤ place → IsTrue (is_naming value) → IsTrue (is_kept s.kept (serial_in value))) (apart : (anchor : ℕ) → IsAnchor process anchor → 1 ≤ place → anchor ≢ place → value ≢ 0 → word_at s.words (slot_place process anchor) ≢ 0 → serial_in (word_at s.words (slot_place process anchor)) ≢ serial_in value) where
  -- an anchor is the one that was stored, or as before
  anchor_off : (other anchor : ℕ) → IsAnchor other anchor → ((other ≡ process) × (anchor ≡ place) × (word_at (slice_set s.words (slot_place process place) value) (slot_place other anchor) ≡ value)) ⊎ (word_at (slice_set s.words (slot_place process place) value) (slot_place other anchor) ≡ word_at s.words (slot_place other anchor))
  anchor_off other anchor is =
      elim (cases_eq (slot_place other anchor) (slot_place process place)) as (λ _. ((other ≡ process) × (anchor ≡ place) × (word_at (slice_set s.words (slot_place process place) value) (slot_place other anchor) ≡ value)) ⊎ (word_at (slice_set s.words (slot_place process place) value) (slot_place other anchor) ≡ word_at s.words (slot_place other anchor))) [
        | inl same ↦
            let parts = slots_differ other anchor process place is.last last same in
            let within : slot_place process place < TABLE_WORDS = omega (arith) in
            inl (parts.0, parts.1, ap (word_at (slice_set s.words (slot_place process place) value)) same ∙ word_here s.words (slot_place process place) value (subst (λ (n : ℕ). slot_place process place < n) (sym sound.words) within))
        | inr differ ↦ inr (word_there s.words (slot_place process place) value (slot_place other anchor) differ)
      ]

  named_after_slot : (other anchor : ℕ) → IsAnchor other anchor → IsTrue (is_naming (word_at (slice_set s.words (slot_place process place) value) (slot_place other anchor))) → IsTrue (is_kept s.kept (serial_in (word_at (slice_set s.words (slot_place process place) value) (slot_place other anchor))))
  named_after_slot other anchor is =
      elim (anchor_off other anchor is) as (λ _. IsTrue (is_naming (word_at (slice_set s.words (slot_place process place) value) (slot_place other anchor))) → IsTrue (is_kept s.kept (serial_in (word_at (slice_set s.words (slot_place process place) value) (slot_place other anchor))))) [
        | inl stored ↦ subst (λ (x : ℕ). IsTrue (is_naming x) → IsTrue (is_kept s.kept (serial_in x))) (sym stored.2) (kept (subst (λ (n : ℕ). 1 ≤ n) stored.1 is.first))
        | inr before ↦ subst (λ (x : ℕ). IsTrue (is_naming x) → IsTrue (is_kept s.kept (serial_in x))) (sym before) (sound.blocks.named_kept other anchor is)
      ]

  apart_after_slot : (other one two : ℕ) → IsAnchor other one → IsAnchor other two → one ≢ two → word_at (slice_set s.words (slot_place process place) value) (slot_place other one) ≢ 0 → word_at (slice_set s.words (slot_place process place) value) (slot_place other two) ≢ 0 → serial_in (word_at (slice_set s.words (slot_place process place) value) (slot_place other one)) ≢ serial_in (word_at (slice_set s.words (slot_place process place) value) (slot_place other two))
  apart_after_slot other one two is_one is_two differ =
      elim (anchor_off other one is_one) as (λ _. Apart (word_at (slice_set s.words (slot_place process place) value) (slot_place other one)) (word_at (slice_set s.words (slot_place process place) value) (slot_place other two))) [
        | inl first ↦
            elim (anchor_off other two is_two) as (λ _. Apart (word_at (slice_set s.words (slot_place process place) value) (slot_place other one)) (word_at (slice_set s.words (slot_place process place) value) (slot_place other two))) [
              | inl second ↦ absurd (differ (first.1 ∙ sym second.1))
              | inr second ↦ both_words _ _ _ _ first.2 second (λ some_one some_two same. beside other two first.0 is_two (subst (λ (n : ℕ). 1 ≤ n) first.1 is_one.first) (λ e. differ (first.1 ∙ sym e)) some_one some_two (sym same))
            ]
        | inr first ↦
            elim (anchor_off other two is_two) as (λ _. Apart (word_at (slice_set s.words (slot_place process place) value) (slot_place other one)) (word_at (slice_set s.words (slot_place process place) value) (slot_place other two))) [
              | inl second ↦ both_words _ _ _ _ first second.2 (λ some_one some_two same. beside other one second.0 is_one (subst (λ (n : ℕ). 1 ≤ n) second.1 is_two.first) (λ e. differ (e ∙ sym second.1)) some_two some_one same)
              | inr second ↦ both_words _ _ _ _ first second (sound.blocks.anchors_apart other one two is_one is_two differ)
            ]
      ]
    where
      beside : (other anchor : ℕ) → other ≡ process → IsAnchor other anchor → 1 ≤ place → anchor ≢ place → value ≢ 0 → word_at s.words (slot_place other anchor) ≢ 0 → serial_in (word_at s.words (slot_place other anchor)) ≢ serial_in value
      beside other anchor same = subst (λ (x : ℕ). IsAnchor x anchor → 1 ≤ place → anchor ≢ place → value ≢ 0 → word_at s.words (slot_place x anchor) ≢ 0 → serial_in (word_at s.words (slot_place x anchor)) ≢ serial_in value) (sym same) (apart anchor)

  pub slot_word_kept : IsSound (with_word s (slot_place process place) value)
  slot_word_kept =
      outside_kept s sound (slot_place process place) value Slot (kind_slot process place slot last) (λ block at same. absurd (cc))
      (λ g p counts here k among same. absurd (cc))
      (λ g p counts here k among same. absurd (cc))
      named_after_slot
      apart_after_slot

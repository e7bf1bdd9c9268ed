-- A word of a slot may be stored exactly where its line is met and the block invariant holds after it.
use Rattle.std.proofs.Common.{◌≡◌, ◌≢◌, ℕ, zero, suc, ◌+◌, ◌%◌, ◌<◌, ◌≤◌, true, false, not, ◌&&◌, ◌||◌, ◌↔◌, List, length, Option, Some, inl, inr, sym, ap, ◌∙◌, subst, arith}
use Rattle.std.specs.Prelude.{◌==◌, slice_get, slice_set, nat_lt, nat_le}
use Rattle.std.specs.Option.{option_and_then}
use Rattle.std.proofs.lemmas.Bool.{and_parts, and_from, or_cases, or_left, or_right, lt-ltb, ltb-true, le-leb, leb-true, eq-eqb, eqb-true, eqb-false, ne_eqb, not-true, not_from_false, cases_Bool, true≢false}
use Rattle.std.proofs.lemmas.Option.{slice_get_within}
use Rattle.prgr_core.specs.declared.member.Member.{Member}
use Rattle.prgr_core.specs.Members.{is_value}
use Rattle.prgr_core.proofs.Parts.{and_then_some}
use Rattle.prgr_core.proofs.SoundMembers.{is_value_true}
use Rattle.area_core.specs.declared.map.TheConstants.{PROCESSES, ANCHORS}
use Rattle.area_core.specs.declared.readers.Slots.TheVariants.{OfMember}
use Rattle.area_core.specs.declared.event.AreaEvent.TheVariants.{StoreSlot}
use Rattle.area_core.specs.declared.table.Published.{Published}
use Rattle.area_core.specs.declared.table.Table.{Table}
use Rattle.area_core.specs.Map.{word_at, slot_place}
use Rattle.area_core.specs.Generations.{serial_in}
use Rattle.area_core.specs.Readers.{is_slot_of}
use Rattle.area_core.specs.Stores.{with_word, stands_elsewhere, may_name_frame, may_name_literal, may_store_anchor, may_store_slot}
use Rattle.area_core.specs.Step.{after, slot_stored_by, may_write_slot, IsSound}
use Rattle.area_core.specs.Enabled.{BlocksStand, MayNameIn}
use Rattle.area_core.proofs.Counted.{elsewhere_none, elsewhere_suc}
use Rattle.area_core.proofs.Held.{value_is}
use Rattle.area_core.proofs.Places.{slots_differ, word_here, word_there}
use Rattle.area_core.proofs.Tests.{three_hold, four_hold}
use Rattle.area_core.proofs.FromFacts.{never, three_from, four_from, is_enabled}
use Rattle.area_core.proofs.Anchors.{slot_test}
use Rattle.area_core.proofs.UnreadStores.{enabled}
use Rattle.area_core.proofs.StoreLaws.{slot_store_keeps}

-- another anchor with the serial stands in the slot
pub elsewhere_by : (words : List ℕ) (process place serial n : ℕ) → stands_elsewhere words process place serial n ≡ true → (anchor : ℕ) × (1 ≤ anchor) × (anchor ≤ n) × (anchor ≢ place) × (word_at words (slot_place process anchor) ≢ 0) × (serial_in (word_at words (slot_place process anchor)) ≡ serial)
elsewhere_by words process place serial zero e = absurd (true≢false (sym e ∙ elsewhere_none words process place serial))
elsewhere_by words process place serial (suc n) e =
    elim (or_cases (stands_elsewhere words process place serial n) (not (n + 1 == place) && not (word_at words (slot_place process (n + 1)) == 0) && (serial_in (word_at words (slot_place process (n + 1))) == serial)) (sym (elsewhere_suc words process place serial n) ∙ e)) as (λ _. (anchor : ℕ) × (1 ≤ anchor) × (anchor ≤ suc n) × (anchor ≢ place) × (word_at words (slot_place process anchor) ≢ 0) × (serial_in (word_at words (slot_place process anchor)) ≡ serial)) [
      | inl before ↦ let found = elsewhere_by words process place serial n before in (found.0, found.1, more found.0 n found.2, found.3, found.4, found.5)
      | inr here ↦
          let parts = three_hold (not (n + 1 == place)) (not (word_at words (slot_place process (n + 1)) == 0)) (serial_in (word_at words (slot_place process (n + 1))) == serial) here in
          (n + 1, omega (arith), omega (arith), eqb-false (n + 1) place (not-true (n + 1 == place) parts.0), eqb-false (word_at words (slot_place process (n + 1))) 0 (not-true (word_at words (slot_place process (n + 1)) == 0) parts.1), eqb-true (serial_in (word_at words (slot_place process (n + 1)))) serial parts.2)
    ]
  where
    more : (m n : ℕ) → m ≤ n → m ≤ suc n
    more m n below = omega (arith)

module _ (s : Table) (sound : IsSound s) (k process place value : ℕ) where
  -- ---- from the line and the invariant to the test

  module _ (member : Member) (p : Published) (line : MayNameIn s k process place value member p) (stands : BlocksStand (with_word s (slot_place process place) value)) where
    -- the word is stored at its place
    here : word_at (slice_set s.words (slot_place process place) value) (slot_place process place) ≡ value
    here =
        let slot = line.slot in
        let last = line.last in
        let within : slot_place process place < 83413 = omega (arith, slot, last) in
        word_here s.words (slot_place process place) value (subst (λ (n : ℕ). slot_place process place < n) (sym sound.words) within)

    -- each other anchor of the slot is as before
    there : (anchor : ℕ) → anchor ≤ ANCHORS → anchor ≢ place → word_at (slice_set s.words (slot_place process place) value) (slot_place process anchor) ≡ word_at s.words (slot_place process anchor)
    there anchor last other = word_there s.words (slot_place process place) value (slot_place process anchor) (λ same. other (slots_differ process anchor process place last line.last same).1)

    -- no other anchor of the slot has the serial
    nowhere : 1 ≤ place → (value == 0) ≡ false → stands_elsewhere s.words process place (serial_in value) ANCHORS ≡ true → ⊥
    nowhere first some e =
        let found = elsewhere_by s.words process place (serial_in value) ANCHORS e in
        let before = there found.0 found.2 found.3 in
        stands.anchors_apart process found.0 place (record { slot = line.slot; first = found.1; last = found.2 }) (record { slot = line.slot; first = first; last = line.last }) found.3
        (λ none. found.4 (sym before ∙ none))
        (λ none. eqb-false value 0 some (sym here ∙ none))
        (ap serial_in before ∙ found.5 ∙ ap serial_in (sym here))

    apart : 1 ≤ place → ((value == 0) || not (stands_elsewhere s.words process place (serial_in value) ANCHORS)) ≡ true
    apart first =
        elim (cases_Bool (value == 0)) as (λ _. ((value == 0) || not (stands_elsewhere s.words process place (serial_in value) ANCHORS)) ≡ true) [
          | inl none ↦ or_left (value == 0) (not (stands_elsewhere s.words process place (serial_in value) ANCHORS)) none
          | inr some ↦ or_right (value == 0) (not (stands_elsewhere s.words process place (serial_in value) ANCHORS)) (not_from_false (stands_elsewhere s.words process place (serial_in value) ANCHORS) (never (stands_elsewhere s.words process place (serial_in value) ANCHORS) (nowhere first some)))
        ]

    may_anchor : 1 ≤ place → may_store_anchor s process place value p ≡ true
    may_anchor first = three_from ((value == 0) || not (stands_elsewhere s.words process place (serial_in value) ANCHORS)) (may_name_frame p (word_at s.words (slot_place process place)) value) (may_name_literal p s.words process (word_at s.words (slot_place process place)) value) (apart first) (line.frame first) (line.literal first)

    may_store : may_store_slot s process place value (Some p) ≡ true
    may_store =
        elim (cases_Bool (place == 0)) as (λ _. ((place == 0) || may_store_anchor s process place value p) ≡ true) [
          | inl turns ↦ or_left (place == 0) (may_store_anchor s process place value p) turns
          | inr anchor ↦
              let some = eqb-false place 0 anchor in
              or_right (place == 0) (may_store_anchor s process place value p) (may_anchor (omega (arith, some)))
        ]

    own : is_slot_of (OfMember k (length s.progress.members)) process ≡ true
    own =
        let within = slice_get_within s.progress.members k member line.made in
        and_from (not (length s.progress.members == 0)) (process % length s.progress.members == k)
        (not_from_false (length s.progress.members == 0) (ne_eqb (length s.progress.members) 0 (some (length s.progress.members) within)))
        (eq-eqb (process % length s.progress.members) k line.own)
      where
        some : (n : ℕ) → k < n → n ≡ 0 → ⊥
        some n within none = absurd (omega (arith))

    may_write : may_write_slot s member k process place ≡ true
    may_write = four_from (is_value member.word) (nat_lt process PROCESSES) (is_slot_of (OfMember k (length s.progress.members)) process) (nat_le place ANCHORS) (value_is member.word line.awake) (lt-ltb process PROCESSES line.slot) own (le-leb place ANCHORS line.last)

    slot_stored : after s (StoreSlot k process place value) ≡ Some (with_word s (slot_place process place) value)
    slot_stored =
        ap (λ (o : Option Member). option_and_then (slot_stored_by s k process place value) o) line.made
        ∙ is_enabled (may_write_slot s member k process place && may_store_slot s process place value (slice_get s.published member.generation)) (with_word s (slot_place process place) value)
        (and_from (may_write_slot s member k process place) (may_store_slot s process place value (slice_get s.published member.generation)) may_write (ap (may_store_slot s process place value) line.reads ∙ may_store))

  slot_enabled : ((member : Member) × (p : Published) × MayNameIn s k process place value member p) × BlocksStand (with_word s (slot_place process place) value) → after s (StoreSlot k process place value) ≡ Some (with_word s (slot_place process place) value)
  slot_enabled both = slot_stored both.0.0 both.0.1 both.0.2 both.1

  -- ---- and back

  line_of : (member : Member) → slice_get s.progress.members k ≡ Some member → slot_stored_by s k process place value member ≡ Some (with_word s (slot_place process place) value) → (member : Member) × (p : Published) × MayNameIn s k process place value member p
  line_of member at e =
      let made = enabled (may_write_slot s member k process place && may_store_slot s process place value (slice_get s.published member.generation)) (with_word s (slot_place process place) value) (with_word s (slot_place process place) value) e in
      let both = and_parts (may_write_slot s member k process place) (may_store_slot s process place value (slice_get s.published member.generation)) made.0 in
      let four = four_hold (is_value member.word) (nat_lt process PROCESSES) (is_slot_of (OfMember k (length s.progress.members)) process) (nat_le place ANCHORS) both.0 in
      let test = slot_test s process place value (slice_get s.published member.generation) both.1 in
      let anchor = λ (first : 1 ≤ place). three_hold ((value == 0) || not (stands_elsewhere s.words process place (serial_in value) ANCHORS)) (may_name_frame test.0 (word_at s.words (slot_place process place)) value) (may_name_literal test.0 s.words process (word_at s.words (slot_place process place)) value) (test.2 first) in (
        member,
        test.0,
        record {
          made = at;
          awake = is_value_true member.word four.0;
          slot = ltb-true process PROCESSES four.1;
          own = eqb-true (process % length s.progress.members) k (and_parts (not (length s.progress.members == 0)) (process % length s.progress.members == k) four.2).1;
          last = leb-true place ANCHORS four.3;
          reads = test.1;
          frame = λ first. (anchor first).1;
          literal = λ first. (anchor first).2;
        },
      )

  slot_kept : after s (StoreSlot k process place value) ≡ Some (with_word s (slot_place process place) value) → ((member : Member) × (p : Published) × MayNameIn s k process place value member p) × BlocksStand (with_word s (slot_place process place) value)
  slot_kept e =
      let found = and_then_some (slot_stored_by s k process place value) (slice_get s.progress.members k) (with_word s (slot_place process place) value) e in
      (line_of found.0 found.1 found.2, (slot_store_keeps s (with_word s (slot_place process place) value) k process place value sound e).blocks)

  pub slot_decided : (after s (StoreSlot k process place value) ≡ Some (with_word s (slot_place process place) value)) ↔ (((member : Member) × (p : Published) × MayNameIn s k process place value member p) × BlocksStand (with_word s (slot_place process place) value))
  slot_decided = (slot_kept, slot_enabled)

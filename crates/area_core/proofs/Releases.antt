-- A store of a retire word keeps the block invariant, also where it releases the area.
use Rattle.std.proofs.Common.{◌≡◌, ℕ, zero, suc, ◌+◌, ◌-◌, ◌*◌, ◌/◌, ◌%◌, ◌<◌, Bool, true, false, not, ◌&&◌, ◌||◌, List, Some, inl, inr, refl, sym, ap, ◌∙◌, subst, arith}
use Rattle.std.specs.Prelude.{◌==◌, slice_get, IsTrue}
use Rattle.std.specs.List.{list_any, filter}
use Rattle.std.proofs.lemmas.Bool.{and_parts, and_from, or_left, or_right, eq-eqb, eqb-true, not-true, cases_lt, true≢false, cond-true, cond-false}
use Rattle.area_core.specs.declared.map.TheConstants.{ANCHORS}
use Rattle.area_core.specs.declared.map.WordKind.TheVariants.{Retire}
use Rattle.area_core.specs.declared.readers.Slots.{Slots}
use Rattle.area_core.specs.declared.readers.Slots.TheVariants.{All}
use Rattle.area_core.specs.declared.table.Published.{Published}
use Rattle.area_core.specs.declared.table.KeptArea.{KeptArea}
use Rattle.area_core.specs.declared.table.Table.{Table}
use Rattle.area_core.specs.Map.{word_at, kind_at, slot_place, anchor_place}
use Rattle.area_core.specs.Generations.{is_used, is_retired_area, is_kept, is_kept_as, has_area, has_image, tells, are_alike, serial_in, is_naming, anchor_names_area}
use Rattle.area_core.specs.Blocks.{Among, IsAnchor}
use Rattle.area_core.specs.Readers.{readable_generations, is_slot_of, is_named_area, is_named_before, all_anchors, holds_of_each}
use Rattle.area_core.specs.Stores.{with_word, holds_in_block, is_released_by, may_release, may_be_retire, kept_after}
use Rattle.area_core.specs.Step.{IsReadable, IsSound}
use Rattle.area_core.proofs.Counted.{named_suc}
use Rattle.area_core.proofs.Held.{readable_held}
use Rattle.area_core.proofs.Tests.{passed_by, generation_passes, filter_gives, filter_keeps, filter_apart, three_hold, agrees_same}
use Rattle.area_core.proofs.BlockStores.{in_block_passes}
use Rattle.area_core.proofs.AreaStores.{retire_word_kept}

-- ---- what slots name

-- an anchor that names an area is found among those of the slots
named_among : (slots : Slots) (words : List ℕ) (serial n i : ℕ) → i < n → (is_slot_of slots (i / ANCHORS) && anchor_names_area (word_at words (anchor_place i)) serial) ≡ true → is_named_before slots words serial n ≡ true
named_among slots words serial zero i below passes = absurd (omega (arith))
named_among slots words serial (suc n) i below passes =
    named_suc slots words serial n
    ∙ elim (cases_lt i n) as (λ _. (is_named_before slots words serial n || (is_slot_of slots (n / ANCHORS) && anchor_names_area (word_at words (anchor_place n)) serial)) ≡ true) [
      | inl before ↦ or_left (is_named_before slots words serial n) (is_slot_of slots (n / ANCHORS) && anchor_names_area (word_at words (anchor_place n)) serial) (named_among slots words serial n i before passes)
      | inr last ↦
          let same : i ≡ n = omega (arith) in
          or_right (is_named_before slots words serial n) (is_slot_of slots (n / ANCHORS) && anchor_names_area (word_at words (anchor_place n)) serial) (subst (λ m. (is_slot_of slots (m / ANCHORS) && anchor_names_area (word_at words (anchor_place m)) serial) ≡ true) same passes)
    ]

-- so the area that an anchor of some slot names
pub anchor_names : (words : List ℕ) (process anchor : ℕ) → IsAnchor process anchor → IsTrue (is_naming (word_at words (slot_place process anchor))) → is_named_area All words (serial_in (word_at words (slot_place process anchor))) ≡ true
anchor_names words process anchor is naming =
    let first = is.first in
    let last = is.last in
    let slot = is.slot in
    let number : ℕ = process * 16 + (anchor - 1) in
    let row : (process * 16 + (anchor - 1)) / 16 ≡ process = omega (arith) in
    let column : (process * 16 + (anchor - 1)) % 16 + 1 ≡ anchor = omega (arith) in
    let place : anchor_place (process * 16 + (anchor - 1)) ≡ slot_place process anchor = ap (λ x. slot_place x ((process * 16 + (anchor - 1)) % 16 + 1)) row ∙ ap (slot_place process) column in
    named_among All words (serial_in (word_at words (slot_place process anchor))) all_anchors (process * 16 + (anchor - 1)) (omega (arith))
    (ap (λ x. anchor_names_area (word_at words x) (serial_in (word_at words (slot_place process anchor)))) place
    ∙ and_from (is_naming (word_at words (slot_place process anchor))) (serial_in (word_at words (slot_place process anchor)) == serial_in (word_at words (slot_place process anchor))) naming (eq-eqb (serial_in (word_at words (slot_place process anchor))) (serial_in (word_at words (slot_place process anchor))) refl))

-- ---- a release

-- areas that no generation uses and no slot names are kept no longer
pub release_kept :
    (s : Table) → IsSound s → (stays : KeptArea → Bool)
    → ((g : ℕ) (p : Published) → IsReadable s g → slice_get s.published g ≡ Some p → (k : KeptArea) → Among s.kept k → is_used p k.area.serial ≡ true → stays k ≡ true)
    → ((k : KeptArea) → Among s.kept k → is_named_area All s.words k.area.serial ≡ true → stays k ≡ true)
    → IsSound (record s { kept = filter stays s.kept })
release_kept s sound stays used named = record {
  progress = sound.progress;
  blocks = record {
    roots_fit = sound.blocks.roots_fit;
    instances_placed = sound.blocks.instances_placed;
    code_stands = sound.blocks.code_stands;
    breakpoints_stand = sound.blocks.breakpoints_stand;
    terms_stand = sound.blocks.terms_stand;
    used_kept = used_stay;
    areas_stand = λ g p counts here k among. sound.blocks.areas_stand g p counts here k (was k among);
    images_stand = λ k among. sound.blocks.images_stand k (was k among);
    kept_fit = λ k among. sound.blocks.kept_fit k (was k among);
    kept_apart = λ i j a b differ is_a is_b.
        let two = filter_apart stays s.kept i j a b differ is_a is_b in
        sound.blocks.kept_apart two.0 two.1 a b two.2 two.3 two.4;
    named_kept = named_stay;
    anchors_apart = sound.blocks.anchors_apart;
  };
  words = sound.words;
  published = sound.published;
}
  where
    was : (k : KeptArea) → Among (filter stays s.kept) k → Among s.kept k
    was k among = (filter_gives stays s.kept among.0 k among.1).0

    used_stay : (g : ℕ) (p : Published) → IsReadable s g → slice_get s.published g ≡ Some p → (serial : ℕ) → IsTrue (is_used p serial) → IsTrue (list_any (is_kept_as p serial) (filter stays s.kept))
    used_stay g p counts here serial uses =
        let found = passed_by (is_kept_as p serial) s.kept (sound.blocks.used_kept g p counts here serial uses) in
        let parts = three_hold (found.0.area.serial == serial) (has_area p.areas serial found.0.area.block) (has_image p.state.areas serial found.0.words) found.3 in
        let same = eqb-true found.0.area.serial serial parts.0 in
        filter_keeps stays (is_kept_as p serial) s.kept found.1 found.0 found.2 (used g p counts here found.0 (found.1, found.2) (ap (is_used p) same ∙ uses)) found.3

    named_stay : (process anchor : ℕ) → IsAnchor process anchor → IsTrue (is_naming (word_at s.words (slot_place process anchor))) → IsTrue (is_kept (filter stays s.kept) (serial_in (word_at s.words (slot_place process anchor))))
    named_stay process anchor is naming =
        let serial : ℕ = serial_in (word_at s.words (slot_place process anchor)) in
        let found = passed_by (λ (k : KeptArea). k.area.serial == serial_in (word_at s.words (slot_place process anchor))) s.kept (sound.blocks.named_kept process anchor is naming) in
        let same = eqb-true found.0.area.serial (serial_in (word_at s.words (slot_place process anchor))) found.3 in
        filter_keeps stays (λ (k : KeptArea). k.area.serial == serial_in (word_at s.words (slot_place process anchor))) s.kept found.1 found.0 found.2 (named found.0 (found.1, found.2) (ap (is_named_area All s.words) same ∙ anchor_names s.words process anchor is naming)) found.3

-- ---- a store that the test lets through

module _ (s : Table) (sound : IsSound s) (word value block : ℕ) (is : kind_at word ≡ Retire block) (may : IsTrue (holds_in_block s.kept block (may_be_retire s (readable_generations s.progress) value))) where
  -- an area that is released may be
  released : (k : KeptArea) → Among s.kept k → k.area.block ≡ block → is_released_by s value k ≡ true → (is_named_area All s.words k.area.serial ≡ false) × (holds_of_each s.published (readable_generations s.progress) (λ g p. not (is_used p k.area.serial)) ≡ true)
  released k among same goes =
      let passes = in_block_passes s.kept block (may_be_retire s (readable_generations s.progress) value) k may among same in
      let chosen = sym (cond-true (is_released_by s value k) (may_release s (readable_generations s.progress) k) (holds_of_each s.published (readable_generations s.progress) (λ g p. are_alike (tells value g) (is_retired_area p k.area.serial))) goes) ∙ passes in
      let parts = and_parts (not (is_named_area All s.words k.area.serial)) (holds_of_each s.published (readable_generations s.progress) (λ g p. not (is_used p k.area.serial))) chosen in
      (not-true (is_named_area All s.words k.area.serial) parts.0, parts.1)

  pub retire_stored : IsSound (record (with_word s word value) { kept = kept_after s block value })
  retire_stored =
      retire_word_kept (record s { kept = kept_after s block value }) fewer word value block is
      (λ g p counts here k among same.
      let was = filter_gives (λ k. not ((k.area.block == block) && is_released_by s value k)) s.kept among.0 k among.1 in
      let unreleased = not_both (k.area.block == block) (is_released_by s value k) was.1 (eq-eqb k.area.block block same) in
      let passes = in_block_passes s.kept block (may_be_retire s (readable_generations s.progress) value) k may was.0 same in
      let chosen = sym (cond-false (is_released_by s value k) (may_release s (readable_generations s.progress) k) (holds_of_each s.published (readable_generations s.progress) (λ g p. are_alike (tells value g) (is_retired_area p k.area.serial))) unreleased) ∙ passes in
      agrees_same (tells value g) (is_retired_area p k.area.serial) (generation_passes s.published (readable_generations s.progress) (λ g p. are_alike (tells value g) (is_retired_area p k.area.serial)) g p chosen (readable_held s.progress sound.progress g counts) here))
    where
      not_both : (a b : Bool) → not (a && b) ≡ true → a ≡ true → b ≡ false
      not_both true b e both = not-true b e
      not_both false b e both = absurd (cc)

      unless : (a b : Bool) → (a ≡ true → b ≡ true → ⊥) → not (a && b) ≡ true
      unless true true never = absurd (never refl refl)
      unless true false never = refl
      unless false b never = refl

      fewer : IsSound (record s { kept = kept_after s block value })
      fewer = release_kept s sound (λ k. not ((k.area.block == block) && is_released_by s value k))
          (λ g p counts here k among uses. unless (k.area.block == block) (is_released_by s value k)
          (λ same goes.
          let may_go = released k among (eqb-true k.area.block block same) goes in
          let unused = generation_passes s.published (readable_generations s.progress) (λ g p. not (is_used p k.area.serial)) g p may_go.1 (readable_held s.progress sound.progress g counts) here in
          true≢false (sym uses ∙ not-true (is_used p k.area.serial) unused)))
          (λ k among named. unless (k.area.block == block) (is_released_by s value k)
          (λ same goes. true≢false (sym named ∙ (released k among (eqb-true k.area.block block same) goes).0)))

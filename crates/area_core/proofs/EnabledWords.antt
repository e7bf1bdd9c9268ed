-- A word of a block may be stored exactly where no thread may read it and the block invariant holds after it.
use Rattle.std.proofs.Common.{◌≡◌, ℕ, ◌+◌, ◌-◌, ◌/◌, ◌%◌, true, false, not, ◌&&◌, ◌↔◌, Option, Some, None, inl, inr, refl, sym, ap, ◌∙◌, subst, arith}
use Rattle.std.specs.Prelude.{◌==◌, slice_get, slice_set, nat_le}
use Rattle.std.specs.List.{list_any}
use Rattle.std.proofs.lemmas.Bool.{and_parts, and_from, or_cases, or_left, or_right, eq-eqb, eqb-true, leb-true, not-true, not_from_false, cases_Bool, cond-true, cond-false, true≢false}
use Rattle.area_core.specs.declared.map.WordKind.TheVariants.{InBlock}
use Rattle.area_core.specs.declared.readers.Slots.TheVariants.{All}
use Rattle.area_core.specs.declared.event.AreaEvent.TheVariants.{StoreWord}
use Rattle.area_core.specs.declared.table.Published.{Published}
use Rattle.area_core.specs.declared.table.KeptArea.{KeptArea}
use Rattle.area_core.specs.declared.table.Table.{Table}
use Rattle.area_core.specs.Map.{word_at, slot_place, block_place, image_entry_at, kind_at}
use Rattle.area_core.specs.Generations.{is_traced_function, has_function, is_entry_word, is_naming, serial_in, anchor_names_area}
use Rattle.area_core.specs.Blocks.{Among, IsAnchor}
use Rattle.area_core.specs.Readers.{readable_generations, is_read, is_read_under, is_named_area, all_anchors, slots_read, reads_in_block}
use Rattle.area_core.specs.Stores.{with_word, holds_in_block, is_untraced, may_be_entry, is_image_word, may_be_in_image, may_store_in_block}
use Rattle.area_core.specs.Step.{after, word_stored, IsReadable, IsSound}
use Rattle.area_core.specs.Enabled.{BlocksStand, IsUnread}
use Rattle.area_core.proofs.Places.{kind_place}
use Rattle.area_core.proofs.Held.{held_readable}
use Rattle.area_core.proofs.Tests.{some_passes, passed_by, three_hold}
use Rattle.area_core.proofs.FromFacts.{never, is_enabled, each_in_block, each_generation, named_by}
use Rattle.area_core.proofs.BlockStores.{block_within, unread}
use Rattle.area_core.proofs.AreaStores.{stored_at}
use Rattle.area_core.proofs.Releases.{anchor_names}
use Rattle.area_core.proofs.UnreadStores.{enabled}
use Rattle.area_core.proofs.StoreLaws.{word_store_keeps}

-- ---- what is read

-- the test of what is read says that no thread may read the word
pub unread_false : (s : Table) → IsSound s → (block at : ℕ) → IsUnread s block at → is_read s (readable_generations s.progress) (InBlock block at) ≡ false
unread_false s sound block at none = never (is_read s (readable_generations s.progress) (InBlock block at)) (λ reads.
    elim (or_cases (list_any (λ g. is_read_under (InBlock block at) (slice_get s.published g)) (readable_generations s.progress)) (slots_read All s (InBlock block at)) reads) as (λ _. ⊥) [
      | inl under ↦
          let found = passed_by (λ g. is_read_under (InBlock block at) (slice_get s.published g)) (readable_generations s.progress) under in
          by_generation found.0 (some_passes (λ x. x == found.0) (readable_generations s.progress) found.1 found.0 found.2 (eq-eqb found.0 found.0 refl)) (slice_get s.published found.0) refl found.3
      | inr named ↦
          let found = passed_by (λ (k : KeptArea). (k.area.block == block) && is_named_area All s.words k.area.serial) s.kept named in
          let parts = and_parts (found.0.area.block == block) (is_named_area All s.words found.0.area.serial) found.3 in
          by_slot found.0 (found.1, found.2) (eqb-true found.0.area.block block parts.0) parts.1
    ])
  where
    by_generation : (g : ℕ) → list_any (λ x. x == g) (readable_generations s.progress) ≡ true → (o : Option Published) → slice_get s.published g ≡ o → is_read_under (InBlock block at) o ≡ true → ⊥
    by_generation g among None is reads = absurd (cc)
    by_generation g among (Some p) is reads = true≢false (sym reads ∙ none.under g p (held_readable s.progress sound.progress g among) is)

    by_slot : (k : KeptArea) → Among s.kept k → k.area.block ≡ block → is_named_area All s.words k.area.serial ≡ true → ⊥
    by_slot k among same named =
        let found = named_by All s.words k.area.serial all_anchors named in
        let below = found.1 in
        true≢false (sym found.2 ∙ none.unnamed k (found.0 / 16) (found.0 % 16 + 1) among same (record { slot = omega (arith, below); first = omega (arith); last = omega (arith) }))

-- a word that the test lets through no thread may read
pub none_read : (s : Table) → IsSound s → (block at : ℕ) → is_read s (readable_generations s.progress) (InBlock block at) ≡ false → ((g : ℕ) (p : Published) → IsReadable s g → slice_get s.published g ≡ Some p → reads_in_block p block at ≡ true → ⊥) → IsUnread s block at
none_read s sound block at free unread = record {
  under = λ g p counts here. never (reads_in_block p block at) (λ reads. unread g p counts here reads);
  unnamed = λ k process anchor among same is. never (anchor_names_area (word_at s.words (slot_place process anchor)) k.area.serial) (λ named. by_anchor k process anchor among same is named);
}
  where
    by_anchor : (k : KeptArea) (process anchor : ℕ) → Among s.kept k → k.area.block ≡ block → IsAnchor process anchor → anchor_names_area (word_at s.words (slot_place process anchor)) k.area.serial ≡ true → ⊥
    by_anchor k process anchor among same is named =
        let parts = and_parts (is_naming (word_at s.words (slot_place process anchor))) (serial_in (word_at s.words (slot_place process anchor)) == k.area.serial) named in
        let own : is_named_area All s.words k.area.serial ≡ true = subst (λ (x : ℕ). is_named_area All s.words x ≡ true) (eqb-true (serial_in (word_at s.words (slot_place process anchor))) k.area.serial parts.1) (anchor_names s.words process anchor is parts.0) in
        let reads = some_passes (λ (k : KeptArea). (k.area.block == block) && is_named_area All s.words k.area.serial) s.kept among.0 k among.1 (and_from (k.area.block == block) (is_named_area All s.words k.area.serial) (eq-eqb k.area.block block same) own) in
        true≢false (sym (or_right (list_any (λ g. is_read_under (InBlock block at) (slice_get s.published g)) (readable_generations s.progress)) (slots_read All s (InBlock block at)) reads) ∙ free)

-- ---- the store

module _ (s : Table) (sound : IsSound s) (word value block at : ℕ) (is : kind_at word ≡ InBlock block at) where
  -- the word is stored at its place
  here : (k : KeptArea) → k.area.block ≡ block → (place : ℕ) → place ≡ at → word_at (slice_set s.words word value) (block_place k.area.block place) ≡ value
  here k same place place_same = stored_at s sound word value (block_place k.area.block place) (block_within word block at is) ((kind_place word block at is).0 ∙ ap (λ (b : ℕ). block_place b at) (sym same) ∙ ap (block_place k.area.block) (sym place_same))

  -- an entry word that becomes 0 is that of a function that no readable generation traces
  entry_may : BlocksStand (with_word s word value) → (k : KeptArea) → Among s.kept k → k.area.block ≡ block → is_entry_word k at ≡ true → may_be_entry s (readable_generations s.progress) k.area.serial (at / 4 - 1) value ≡ true
  entry_may stands k among same entry =
      let parts = three_hold (nat_le 6 at) (at % 4 == 2) (has_function k (at / 4 - 1)) entry in
      let low = leb-true 6 at parts.0 in
      let rest = eqb-true (at % 4) 2 parts.1 in
      let back : image_entry_at (at / 4 - 1) ≡ at = omega (arith, low, rest) in
      elim (cases_Bool (value == 0)) as (λ _. may_be_entry s (readable_generations s.progress) k.area.serial (at / 4 - 1) value ≡ true) [
        | inr other ↦ or_left (not (value == 0)) (is_untraced s (readable_generations s.progress) k.area.serial (at / 4 - 1)) (not_from_false (value == 0) other)
        | inl none ↦ or_right (not (value == 0)) (is_untraced s (readable_generations s.progress) k.area.serial (at / 4 - 1))
            (each_generation s.published (readable_generations s.progress) (λ g p. not (is_traced_function p k.area.serial (at / 4 - 1))) (λ g p readable published.
            not_from_false (is_traced_function p k.area.serial (at / 4 - 1))
            ((stands.areas_stand g p (held_readable s.progress sound.progress g readable) published k among).entries (at / 4 - 1) parts.2 (here k same (image_entry_at (at / 4 - 1)) back ∙ eqb-true value 0 none))))
      ]

  -- another word of a kept area stays
  image_may : BlocksStand (with_word s word value) → (k : KeptArea) → Among s.kept k → k.area.block ≡ block → is_entry_word k at ≡ false → (o : Option ℕ) → slice_get k.words at ≡ o → is_image_word (slice_get k.words at) value ≡ true
  image_may stands k among same plain None has = ap (λ (o : Option ℕ). is_image_word o value) has
  image_may stands k among same plain (Some old) has =
      ap (λ (o : Option ℕ). is_image_word o value) has ∙ eq-eqb old value (sym (stands.images_stand k among at old has plain) ∙ here k same at refl)

  in_image : BlocksStand (with_word s word value) → (k : KeptArea) → Among s.kept k → k.area.block ≡ block → may_be_in_image s (readable_generations s.progress) at value k ≡ true
  in_image stands k among same =
      elim (cases_Bool (is_entry_word k at)) as (λ _. may_be_in_image s (readable_generations s.progress) at value k ≡ true) [
        | inl entry ↦ cond-true (is_entry_word k at) (may_be_entry s (readable_generations s.progress) k.area.serial (at / 4 - 1) value) (is_image_word (slice_get k.words at) value) entry ∙ entry_may stands k among same entry
        | inr plain ↦ cond-false (is_entry_word k at) (may_be_entry s (readable_generations s.progress) k.area.serial (at / 4 - 1) value) (is_image_word (slice_get k.words at) value) plain ∙ image_may stands k among same plain (slice_get k.words at) refl
      ]

  block_enabled : IsUnread s block at × BlocksStand (with_word s word value) → after s (StoreWord word value) ≡ Some (with_word s word value)
  block_enabled both =
      ap (word_stored s word value) is
      ∙ is_enabled (may_store_in_block s (readable_generations s.progress) block at value) (with_word s word value)
      (and_from (not (is_read s (readable_generations s.progress) (InBlock block at))) (holds_in_block s.kept block (may_be_in_image s (readable_generations s.progress) at value))
      (not_from_false (is_read s (readable_generations s.progress) (InBlock block at)) (unread_false s sound block at both.0))
      (each_in_block s.kept block (may_be_in_image s (readable_generations s.progress) at value) (λ k among same. in_image both.1 k among same)))

  block_kept : after s (StoreWord word value) ≡ Some (with_word s word value) → IsUnread s block at × BlocksStand (with_word s word value)
  block_kept e =
      let stored = enabled (may_store_in_block s (readable_generations s.progress) block at value) (with_word s word value) (with_word s word value) (ap (word_stored s word value) (sym is) ∙ e) in
      let free = not-true (is_read s (readable_generations s.progress) (InBlock block at)) (and_parts (not (is_read s (readable_generations s.progress) (InBlock block at))) (holds_in_block s.kept block (may_be_in_image s (readable_generations s.progress) at value)) stored.0).0 in
      (none_read s sound block at free (unread s sound word value block at is stored.0), (word_store_keeps s (with_word s word value) word value sound e).blocks)

  pub block_decided : (after s (StoreWord word value) ≡ Some (with_word s word value)) ↔ (IsUnread s block at × BlocksStand (with_word s word value))
  block_decided = (block_kept, block_enabled)

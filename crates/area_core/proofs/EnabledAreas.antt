-- A retire, doom or entry word may be stored exactly where its line is met and the block invariant holds after it.
use Rattle.std.proofs.Common.{◌≡◌, ℕ, ◌+◌, ◌/◌, ◌%◌, ◌<◌, Bool, true, false, not, ◌&&◌, ◌||◌, ◌↔◌, List, Some, inl, inr, refl, sym, ap, ◌∙◌, subst, arith}
use Rattle.std.specs.Prelude.{◌==◌, slice_get, slice_set}
use Rattle.std.specs.List.{list_any}
use Rattle.std.proofs.lemmas.Bool.{and_parts, and_from, or_left, or_right, eq-eqb, eqb-true, not_from_false, cases_Bool, cases_eq, cond-true, cond-false}
use Rattle.prgr_core.proofs.Parts.{some_same}
use Rattle.term_core.specs.declared.area.CodeRef.{CodeRef}
use Rattle.area_core.specs.declared.map.WordKind.TheVariants.{Slot, Retire, Doom}
use Rattle.area_core.specs.declared.readers.Slots.TheVariants.{All}
use Rattle.area_core.specs.declared.event.AreaEvent.TheVariants.{StoreWord, StoreEntry}
use Rattle.area_core.specs.declared.table.Published.{Published}
use Rattle.area_core.specs.declared.table.KeptArea.{KeptArea}
use Rattle.area_core.specs.declared.table.Table.{Table}
use Rattle.area_core.specs.Map.{word_at, slot_place, retire_place, doom_place, block_place, image_entry_at, kind_at}
use Rattle.area_core.specs.Generations.{is_used, is_retired_area, is_doomed_area, is_traced_function, is_kept_as, has_area, has_image, has_function, tells, are_alike, serial_in, is_naming}
use Rattle.area_core.specs.Blocks.{Among, KeptApart, IsAnchor}
use Rattle.area_core.specs.Readers.{readable_generations, is_named_area, all_anchors, holds_of_each}
use Rattle.area_core.specs.Stores.{with_word, holds_in_block, is_released_by, may_release, may_be_retire, kept_after, may_be_doom, is_function_of, is_untraced, may_be_entry, entry_word, may_store_entry}
use Rattle.area_core.specs.Step.{after, word_stored, IsReadable, IsSound}
use Rattle.area_core.specs.Enabled.{BlocksStand, with_retire, IsFunctionOfBlock, with_entry}
use Rattle.area_core.proofs.Places.{kind_block, kind_slot, kind_retire_place, kind_doom_place, word_there}
use Rattle.area_core.proofs.Held.{held_readable}
use Rattle.area_core.proofs.Tests.{some_passes, passed_by, three_hold, filter_gives}
use Rattle.area_core.proofs.FromFacts.{never, three_from, is_enabled, agrees_from, each_in_block, each_generation, named_by, filter_has}
use Rattle.area_core.proofs.Frames.{function_fits, big_room}
use Rattle.area_core.proofs.BlockStores.{block_within}
use Rattle.area_core.proofs.AreaStores.{stored_at, area_word_within}
use Rattle.area_core.proofs.UnreadStores.{enabled}
use Rattle.area_core.proofs.StoreLaws.{word_store_keeps, entry_store_keeps}

-- ---- doom words

module _ (s : Table) (sound : IsSound s) (word value block : ℕ) (is : kind_at word ≡ Doom block) where
  doom_may : BlocksStand (with_word s word value) → (k : KeptArea) → Among s.kept k → k.area.block ≡ block → may_be_doom s (readable_generations s.progress) value k ≡ true
  doom_may stands k among same = each_generation s.published (readable_generations s.progress) (λ g p. is_retired_area p k.area.serial || are_alike (tells value g) (is_doomed_area p k.area.serial)) (λ g p readable published.
      elim (cases_Bool (is_retired_area p k.area.serial)) as (λ _. (is_retired_area p k.area.serial || are_alike (tells value g) (is_doomed_area p k.area.serial)) ≡ true) [
        | inl retired ↦ or_left (is_retired_area p k.area.serial) (are_alike (tells value g) (is_doomed_area p k.area.serial)) retired
        | inr unretired ↦ or_right (is_retired_area p k.area.serial) (are_alike (tells value g) (is_doomed_area p k.area.serial))
            (agrees_from (tells value g) (is_doomed_area p k.area.serial)
            (ap (λ (x : ℕ). tells x g) (sym stored) ∙ (stands.areas_stand g p (held_readable s.progress sound.progress g readable) published k among).doomed big unretired))
      ])
    where
      place : (word ≡ doom_place block) × (block < 64)
      place = kind_doom_place word block is

      big : k.area.block < 64
      big = subst (λ (b : ℕ). b < 64) (sym same) place.1

      stored : word_at (slice_set s.words word value) (doom_place k.area.block) ≡ value
      stored = stored_at s sound word value (doom_place k.area.block) (area_word_within word block (inr is)) (place.0 ∙ ap doom_place (sym same))

  doom_enabled : BlocksStand (with_word s word value) → after s (StoreWord word value) ≡ Some (with_word s word value)
  doom_enabled stands =
      ap (word_stored s word value) is
      ∙ is_enabled (holds_in_block s.kept block (may_be_doom s (readable_generations s.progress) value)) (with_word s word value)
      (each_in_block s.kept block (may_be_doom s (readable_generations s.progress) value) (λ k among same. doom_may stands k among same))

  pub doom_decided : (after s (StoreWord word value) ≡ Some (with_word s word value)) ↔ BlocksStand (with_word s word value)
  doom_decided = ((λ e. (word_store_keeps s (with_word s word value) word value sound e).blocks), doom_enabled)

-- ---- retire words

-- kept areas with one serial are one
same_serial : (kept : List KeptArea) → KeptApart kept → (a b : KeptArea) → Among kept a → Among kept b → a.area.serial ≡ b.area.serial → a ≡ b
same_serial kept apart a b is_a is_b same =
    elim (cases_eq is_a.0 is_b.0) as (λ _. a ≡ b) [
      | inl one ↦ some_same a b (sym is_a.1 ∙ ap (slice_get kept) one ∙ is_b.1)
      | inr two ↦ absurd ((apart is_a.0 is_b.0 a b two is_a.1 is_b.1).0 same)
    ]

-- an area that stays is not one that goes
not_both_hold : (a b : Bool) → not (a && b) ≡ true → a ≡ true → b ≡ true → ⊥
not_both_hold true true e f g = absurd (cc)
not_both_hold a b e f g = absurd (cc)

module _ (s : Table) (sound : IsSound s) (word value block : ℕ) (is : kind_at word ≡ Retire block) (stands : BlocksStand (with_retire s word block value)) where
  -- an area that is released is not among those that are kept afterwards
  gone : (k : KeptArea) → Among s.kept k → k.area.block ≡ block → is_released_by s value k ≡ true → (other : KeptArea) → Among (kept_after s block value) other → other.area.serial ≡ k.area.serial → ⊥
  gone k among same goes other left serial =
      let was = filter_gives (λ (x : KeptArea). not ((x.area.block == block) && is_released_by s value x)) s.kept left.0 other left.1 in
      let one = same_serial s.kept sound.blocks.kept_apart other k was.0 among serial in
      not_both_hold (k.area.block == block) (is_released_by s value k) (subst (λ (x : KeptArea). not ((x.area.block == block) && is_released_by s value x) ≡ true) one was.1) (eq-eqb k.area.block block same) goes

  -- no slot names it
  unnamed : (k : KeptArea) → Among s.kept k → k.area.block ≡ block → is_released_by s value k ≡ true → is_named_area All s.words k.area.serial ≡ true → ⊥
  unnamed k among same goes named =
      let found = named_by All s.words k.area.serial all_anchors named in
      by_anchor (found.0 / 16) (found.0 % 16 + 1) (let below = found.1 in record { slot = omega (arith, below); first = omega (arith); last = omega (arith) }) found.2
    where
      by_anchor : (process anchor : ℕ) → IsAnchor process anchor → (is_naming (word_at s.words (slot_place process anchor)) && (serial_in (word_at s.words (slot_place process anchor)) == k.area.serial)) ≡ true → ⊥
      by_anchor process anchor is_anchor names =
          let parts = and_parts (is_naming (word_at s.words (slot_place process anchor))) (serial_in (word_at s.words (slot_place process anchor)) == k.area.serial) names in
          let before : word_at (slice_set s.words word value) (slot_place process anchor) ≡ word_at s.words (slot_place process anchor) = word_there s.words word value (slot_place process anchor) (λ one. other_kind (sym (kind_slot process anchor is_anchor.slot is_anchor.last) ∙ ap kind_at one ∙ is)) in
          let kept = stands.named_kept process anchor is_anchor (ap is_naming before ∙ parts.0) in
          let found = passed_by (λ (x : KeptArea). x.area.serial == serial_in (word_at (slice_set s.words word value) (slot_place process anchor))) (kept_after s block value) kept in
          gone k among same goes found.0 (found.1, found.2) (eqb-true found.0.area.serial (serial_in (word_at (slice_set s.words word value) (slot_place process anchor))) found.3 ∙ ap serial_in before ∙ eqb-true (serial_in (word_at s.words (slot_place process anchor))) k.area.serial parts.1)
        where
          other_kind : Slot ≡ Retire block → ⊥
          other_kind e = absurd (cc)

  -- no readable generation uses it
  unused : (k : KeptArea) → Among s.kept k → k.area.block ≡ block → is_released_by s value k ≡ true → (g : ℕ) (p : Published) → IsReadable s g → slice_get s.published g ≡ Some p → is_used p k.area.serial ≡ true → ⊥
  unused k among same goes g p counts here uses =
      let found = passed_by (is_kept_as p k.area.serial) (kept_after s block value) (stands.used_kept g p counts here k.area.serial uses) in
      let parts = three_hold (found.0.area.serial == k.area.serial) (has_area p.areas k.area.serial found.0.area.block) (has_image p.state.areas k.area.serial found.0.words) found.3 in
      gone k among same goes found.0 (found.1, found.2) (eqb-true found.0.area.serial k.area.serial parts.0)

  release_may : (k : KeptArea) → Among s.kept k → k.area.block ≡ block → is_released_by s value k ≡ true → may_release s (readable_generations s.progress) k ≡ true
  release_may k among same goes =
      and_from (not (is_named_area All s.words k.area.serial)) (holds_of_each s.published (readable_generations s.progress) (λ g p. not (is_used p k.area.serial)))
      (not_from_false (is_named_area All s.words k.area.serial) (never (is_named_area All s.words k.area.serial) (λ named. unnamed k among same goes named)))
      (each_generation s.published (readable_generations s.progress) (λ g p. not (is_used p k.area.serial)) (λ g p readable published.
      not_from_false (is_used p k.area.serial) (never (is_used p k.area.serial) (λ uses. unused k among same goes g p (held_readable s.progress sound.progress g readable) published uses))))

  -- an area that stays has a retire word that tells of it
  stays_may : (k : KeptArea) → Among s.kept k → k.area.block ≡ block → is_released_by s value k ≡ false → holds_of_each s.published (readable_generations s.progress) (λ g p. are_alike (tells value g) (is_retired_area p k.area.serial)) ≡ true
  stays_may k among same stays = each_generation s.published (readable_generations s.progress) (λ g p. are_alike (tells value g) (is_retired_area p k.area.serial)) (λ g p readable published.
      agrees_from (tells value g) (is_retired_area p k.area.serial)
      (ap (λ (x : ℕ). tells x g) (sym stored) ∙ (stands.areas_stand g p (held_readable s.progress sound.progress g readable) published k left).retired))
    where
      left : Among (kept_after s block value) k
      left = filter_has (λ (x : KeptArea). not ((x.area.block == block) && is_released_by s value x)) s.kept among.0 k among.1 (either (k.area.block == block) (is_released_by s value k) stays) where
        either : (a b : Bool) → b ≡ false → not (a && b) ≡ true
        either true b e = not_from_false b e
        either false b e = refl

      stored : word_at (slice_set s.words word value) (retire_place k.area.block) ≡ value
      stored = stored_at s sound word value (retire_place k.area.block) (area_word_within word block (inl is)) ((kind_retire_place word block is).0 ∙ ap retire_place (sym same))

  retire_may : (k : KeptArea) → Among s.kept k → k.area.block ≡ block → may_be_retire s (readable_generations s.progress) value k ≡ true
  retire_may k among same =
      elim (cases_Bool (is_released_by s value k)) as (λ _. may_be_retire s (readable_generations s.progress) value k ≡ true) [
        | inl goes ↦ cond-true (is_released_by s value k) (may_release s (readable_generations s.progress) k) (holds_of_each s.published (readable_generations s.progress) (λ g p. are_alike (tells value g) (is_retired_area p k.area.serial))) goes ∙ release_may k among same goes
        | inr stays ↦ cond-false (is_released_by s value k) (may_release s (readable_generations s.progress) k) (holds_of_each s.published (readable_generations s.progress) (λ g p. are_alike (tells value g) (is_retired_area p k.area.serial))) stays ∙ stays_may k among same stays
      ]

  retire_enabled : after s (StoreWord word value) ≡ Some (with_retire s word block value)
  retire_enabled =
      ap (word_stored s word value) is
      ∙ is_enabled (holds_in_block s.kept block (may_be_retire s (readable_generations s.progress) value)) (with_retire s word block value)
      (each_in_block s.kept block (may_be_retire s (readable_generations s.progress) value) retire_may)

pub retire_decided : (s : Table) (word value block : ℕ) → IsSound s → kind_at word ≡ Retire block → (after s (StoreWord word value) ≡ Some (with_retire s word block value)) ↔ BlocksStand (with_retire s word block value)
retire_decided s word value block sound is = ((λ e. (word_store_keeps s (with_retire s word block value) word value sound e).blocks), (λ stands. retire_enabled s sound word value block is stands))

-- ---- entry words

module _ (s : Table) (sound : IsSound s) (at : CodeRef) (on : Bool) where
  entry_enabled : ((k : KeptArea) × IsFunctionOfBlock s.kept at k) × BlocksStand (with_entry s at on) → after s (StoreEntry at on) ≡ Some (with_entry s at on)
  entry_enabled both = is_enabled (may_store_entry s (readable_generations s.progress) at on) (with_entry s at on)
      (and_from (list_any (is_function_of at) s.kept) (may_be_entry s (readable_generations s.progress) at.area.serial at.function (entry_word on))
      (some_passes (is_function_of at) s.kept own.among.0 k own.among.1 (three_from (k.area.serial == at.area.serial) (k.area.block == at.area.block) (has_function k at.function) (eq-eqb k.area.serial at.area.serial own.serial) (eq-eqb k.area.block at.area.block own.block) own.has))
      may)
    where
      k : KeptArea
      k = both.0.0

      own : IsFunctionOfBlock s.kept at k
      own = both.0.1

      fits : (k.area.block < 64) × (at.function < 16)
      fits = function_fits k at.function (sound.blocks.kept_fit k own.among) own.has

      stored : word_at (slice_set s.words (block_place at.area.block (image_entry_at at.function)) (entry_word on)) (block_place k.area.block (image_entry_at at.function)) ≡ entry_word on
      stored =
          let big = subst (λ (b : ℕ). b < 64) own.block fits.0 in
          let few = fits.1 in
          let kind = kind_block at.area.block (image_entry_at at.function) (omega (arith, big)) (big_room at.area.block (image_entry_at at.function) big (omega (arith, few))) in
          stored_at s sound (block_place at.area.block (image_entry_at at.function)) (entry_word on) (block_place k.area.block (image_entry_at at.function)) (block_within (block_place at.area.block (image_entry_at at.function)) at.area.block (image_entry_at at.function) kind) (ap (λ (b : ℕ). block_place b (image_entry_at at.function)) (sym own.block))

      may : may_be_entry s (readable_generations s.progress) at.area.serial at.function (entry_word on) ≡ true
      may = elim (cases_Bool (entry_word on == 0)) as (λ _. may_be_entry s (readable_generations s.progress) at.area.serial at.function (entry_word on) ≡ true) [
        | inr other ↦ or_left (not (entry_word on == 0)) (is_untraced s (readable_generations s.progress) at.area.serial at.function) (not_from_false (entry_word on == 0) other)
        | inl none ↦ or_right (not (entry_word on == 0)) (is_untraced s (readable_generations s.progress) at.area.serial at.function)
            (each_generation s.published (readable_generations s.progress) (λ g p. not (is_traced_function p at.area.serial at.function)) (λ g p readable published.
            not_from_false (is_traced_function p at.area.serial at.function)
            (subst (λ (x : ℕ). is_traced_function p x at.function ≡ false) own.serial
            ((both.1.areas_stand g p (held_readable s.progress sound.progress g readable) published k own.among).entries at.function own.has (stored ∙ eqb-true (entry_word on) 0 none)))))
      ]

  entry_kept : after s (StoreEntry at on) ≡ Some (with_entry s at on) → ((k : KeptArea) × IsFunctionOfBlock s.kept at k) × BlocksStand (with_entry s at on)
  entry_kept e =
      let stored = enabled (may_store_entry s (readable_generations s.progress) at on) (with_entry s at on) (with_entry s at on) e in
      let tests = and_parts (list_any (is_function_of at) s.kept) (may_be_entry s (readable_generations s.progress) at.area.serial at.function (entry_word on)) stored.0 in
      let found = passed_by (is_function_of at) s.kept tests.0 in
      let parts = three_hold (found.0.area.serial == at.area.serial) (found.0.area.block == at.area.block) (has_function found.0 at.function) found.3 in
      ((found.0, record { among = (found.1, found.2); serial = eqb-true found.0.area.serial at.area.serial parts.0; block = eqb-true found.0.area.block at.area.block parts.1; has = parts.2 }), (entry_store_keeps s (with_entry s at on) at on sound e).blocks)

  pub entry_decided : (after s (StoreEntry at on) ≡ Some (with_entry s at on)) ↔ (((k : KeptArea) × IsFunctionOfBlock s.kept at k) × BlocksStand (with_entry s at on))
  entry_decided = (entry_kept, entry_enabled)

-- A word of a block that a seat may read is not stored.
use Rattle.std.proofs.Common.{◌≡◌, ℕ, zero, suc, ◌/◌, Bool, true, false, not, ◌&&◌, ◌||◌, List, length, Option, Some, None, inl, inr, refl, sym, ap, ◌∙◌}
use Rattle.std.specs.Prelude.{◌==◌, slice_get}
use Rattle.std.specs.List.{list_any, flat_map}
use Rattle.std.specs.Option.{option_to_list}
use Rattle.std.proofs.lemmas.Bool.{and_parts, and_from, or_cases, or_left, or_right, eq-eqb, not-true, true≢false}
use Rattle.prgr_core.specs.declared.progress.Progress.{Progress}
use Rattle.prgr_core.proofs.Parts.{and_then_some, some_same}
use Rattle.area_core.specs.declared.map.TheConstants.{ANCHORS}
use Rattle.area_core.specs.declared.map.WordKind.{WordKind}
use Rattle.area_core.specs.declared.map.WordKind.TheVariants.{InBlock}
use Rattle.area_core.specs.declared.readers.Slots.{Slots}
use Rattle.area_core.specs.declared.readers.Slots.TheVariants.{All, OfMember}
use Rattle.area_core.specs.declared.event.SeatName.{SeatName}
use Rattle.area_core.specs.declared.event.SeatName.TheVariants as seats
use Rattle.area_core.specs.declared.event.AreaEvent.TheVariants.{StoreWord}
use Rattle.area_core.specs.declared.table.KeptArea.{KeptArea}
use Rattle.area_core.specs.declared.table.Table.{Table}
use Rattle.area_core.specs.Map.{word_at, anchor_place, kind_at}
use Rattle.area_core.specs.Generations.{anchor_names_area}
use Rattle.area_core.specs.Readers.{held_by, held_by_member, held_by_watcher, in_member, in_watcher, held_generations, readable_generations, is_slot_of, is_named_before, is_named_area, all_anchors, slots_read, own_slots_read, is_read_under, may_read_holding, MayRead, is_read}
use Rattle.area_core.specs.Stores.{with_word, holds_in_block, may_be_in_image, may_store_in_block}
use Rattle.area_core.specs.Step.{after, word_stored, if_enabled, IsSound}
use Rattle.area_core.proofs.Counted.{named_none, named_suc}
use Rattle.area_core.proofs.Joined.{any_joined}
use Rattle.area_core.proofs.Held.{in_all}
use Rattle.area_core.proofs.Tests.{some_passes, passed_by, number_found}

-- what is left where something was enabled
pub enabled : (b : Bool) (t left : Table) → if_enabled b t ≡ Some left → (b ≡ true) × (t ≡ left)
enabled true t left e = (refl, cc)
enabled false t left e = absurd (cc)

-- ---- the generation of a seat

-- a number stands in the list of at most that one
alone : (held : Option ℕ) (g : ℕ) → held ≡ Some g → list_any (λ x. x == g) (option_to_list held) ≡ true
alone held g is = ap (λ (o : Option ℕ). list_any (λ x. x == g) (option_to_list o)) is ∙ or_left (g == g) false (eq-eqb g g refl)

-- the generation that a seat holds is among those that the tests go through
pub seat_held : (s : Progress) (seat : SeatName) (g : ℕ) → held_by s seat ≡ Some g → list_any (λ x. x == g) (readable_generations s) ≡ true
seat_held s seats.Writer g is = or_left (s.generation == g) (list_any (λ x. x == g) (held_generations s)) (eq-eqb s.generation g (some_same s.generation g is))
seat_held s (seats.Member k) g is =
    let found = and_then_some held_by_member (slice_get s.members k) g is in
    or_right (s.generation == g) (list_any (λ x. x == g) (held_generations s))
    (any_joined (λ x. x == g) (flat_map in_member s.members) (flat_map in_watcher s.watchers)
    ∙ or_left (list_any (λ x. x == g) (flat_map in_member s.members)) (list_any (λ x. x == g) (flat_map in_watcher s.watchers)) (in_all (λ x. x == g) in_member s.members k found.0 found.1 (alone (held_by_member found.0) g found.2)))
seat_held s (seats.Watcher k) g is =
    let found = and_then_some held_by_watcher (slice_get s.watchers k) g is in
    or_right (s.generation == g) (list_any (λ x. x == g) (held_generations s))
    (any_joined (λ x. x == g) (flat_map in_member s.members) (flat_map in_watcher s.watchers)
    ∙ or_right (list_any (λ x. x == g) (flat_map in_member s.members)) (list_any (λ x. x == g) (flat_map in_watcher s.watchers)) (in_all (λ x. x == g) in_watcher s.watchers k found.0 found.1 (alone (held_by_watcher found.0) g found.2)))

-- ---- the slots of a seat

-- what an anchor of some slots names, one of all slots names
named_by_all : (slots : Slots) (words : List ℕ) (serial n : ℕ) → is_named_before slots words serial n ≡ true → is_named_before All words serial n ≡ true
named_by_all slots words serial zero e = absurd (true≢false (sym e ∙ named_none slots words serial))
named_by_all slots words serial (suc n) e =
    named_suc All words serial n
    ∙ elim (or_cases (is_named_before slots words serial n) (is_slot_of slots (n / ANCHORS) && anchor_names_area (word_at words (anchor_place n)) serial) (sym (named_suc slots words serial n) ∙ e)) as (λ _. (is_named_before All words serial n || anchor_names_area (word_at words (anchor_place n)) serial) ≡ true) [
      | inl before ↦ or_left (is_named_before All words serial n) (anchor_names_area (word_at words (anchor_place n)) serial) (named_by_all slots words serial n before)
      | inr here ↦ or_right (is_named_before All words serial n) (anchor_names_area (word_at words (anchor_place n)) serial) (and_parts (is_slot_of slots (n / ANCHORS)) (anchor_names_area (word_at words (anchor_place n)) serial) here).1
    ]

-- what the slots of a seat read of a block, all slots do
own_by_all : (s : Table) (seat : SeatName) (block at : ℕ) → own_slots_read s seat (InBlock block at) ≡ true → slots_read All s (InBlock block at) ≡ true
own_by_all s seats.Writer block at e = absurd (cc)
own_by_all s (seats.Watcher k) block at e = absurd (cc)
own_by_all s (seats.Member k) block at e =
    let found = passed_by (λ (x : KeptArea). (x.area.block == block) && is_named_area (OfMember k (length s.progress.members)) s.words x.area.serial) s.kept e in
    let parts = and_parts (found.0.area.block == block) (is_named_area (OfMember k (length s.progress.members)) s.words found.0.area.serial) found.3 in
    some_passes (λ (x : KeptArea). (x.area.block == block) && is_named_area All s.words x.area.serial) s.kept found.1 found.0 found.2
    (and_from (found.0.area.block == block) (is_named_area All s.words found.0.area.serial) parts.0 (named_by_all (OfMember k (length s.progress.members)) s.words found.0.area.serial all_anchors parts.1))

-- ---- the store

-- what a seat may read some thread may read, by what the test asks
reads_some : (s : Table) (seat : SeatName) (block at : ℕ) (holding : Option ℕ) → held_by s.progress seat ≡ holding → may_read_holding s seat (InBlock block at) holding ≡ true → is_read s (readable_generations s.progress) (InBlock block at) ≡ true
reads_some s seat block at None holds may = absurd (cc)
reads_some s seat block at (Some g) holds may =
    elim (or_cases (is_read_under (InBlock block at) (slice_get s.published g)) (own_slots_read s seat (InBlock block at)) may) as (λ _. is_read s (readable_generations s.progress) (InBlock block at) ≡ true) [
      | inl under ↦ or_left (list_any (λ g. is_read_under (InBlock block at) (slice_get s.published g)) (readable_generations s.progress)) (slots_read All s (InBlock block at)) (number_found (λ g. is_read_under (InBlock block at) (slice_get s.published g)) (readable_generations s.progress) g (seat_held s.progress seat g holds) under)
      | inr own ↦ or_right (list_any (λ g. is_read_under (InBlock block at) (slice_get s.published g)) (readable_generations s.progress)) (slots_read All s (InBlock block at)) (own_by_all s seat block at own)
    ]

-- what a seat may read of a block is not stored
pub unread_stays : (s t : Table) (word value : ℕ) (seat : SeatName) (block at : ℕ) → IsSound s → kind_at word ≡ InBlock block at → after s (StoreWord word value) ≡ Some t → MayRead s seat word → ⊥
unread_stays s t word value seat block at sound is e may =
    let stored = enabled (may_store_in_block s (readable_generations s.progress) block at value) (with_word s word value) t (ap (word_stored s word value) (sym is) ∙ e) in
    let unread = not-true (is_read s (readable_generations s.progress) (InBlock block at)) (and_parts (not (is_read s (readable_generations s.progress) (InBlock block at))) (holds_in_block s.kept block (may_be_in_image s (readable_generations s.progress) at value)) stored.0).0 in
    let reads = reads_some s seat block at (held_by s.progress seat) refl (ap (λ (kind : WordKind). may_read_holding s seat kind (held_by s.progress seat)) (sym is) ∙ may) in
    true≢false (sym reads ∙ unread)

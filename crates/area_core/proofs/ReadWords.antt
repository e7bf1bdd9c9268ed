-- No event changes a word of a block that a seat may read, unless it stores an entry word.
use Rattle.std.proofs.Common.{◌≡◌, ℕ, ◌+◌, ◌%◌, Bool, ◌&&◌, ◌⊎◌, inl, inr, length, Some, None, refl, sym, ap, ◌∙◌}
use Rattle.std.specs.Prelude.{◌==◌, slice_get, slice_set, nat_lt, nat_le, if◌then◌else◌}
use Rattle.std.proofs.lemmas.Bool.{and_parts, ltb-true, leb-true, cases_eq}
use Rattle.std.proofs.lemmas.Option.{cond_some}
use Rattle.prgr_core.specs.declared.member.Member.{Member}
use Rattle.prgr_core.specs.declared.event.PrgrEvent.{PrgrEvent}
use Rattle.prgr_core.specs.declared.event.PrgrEvent.TheVariants as prgr
use Rattle.prgr_core.specs.Members.{is_value}
use Rattle.prgr_core.specs.Step.{after as progress_after, with_pair}
use Rattle.prgr_core.proofs.Parts.{and_then_some, some_same}
use Rattle.term_core.specs.declared.area.CodeRef.{CodeRef}
use Rattle.area_core.specs.declared.map.TheConstants.{PROCESSES, ANCHORS}
use Rattle.area_core.specs.declared.map.WordKind.{WordKind}
use Rattle.area_core.specs.declared.map.WordKind.TheVariants.{Machine, Slot, Retire, Doom, InBlock, Nowhere}
use Rattle.area_core.specs.declared.readers.Slots.TheVariants.{OfMember}
use Rattle.area_core.specs.declared.event.SeatName.{SeatName}
use Rattle.area_core.specs.declared.event.SeatName.TheVariants as seats
use Rattle.area_core.specs.declared.event.AreaEvent.{AreaEvent}
use Rattle.area_core.specs.declared.event.AreaEvent.TheVariants.{LoadCounter, LoadRoot, Confirm, LoadConfirmed, StoreCounter, TakeLead, DropLead, LoadWord, StoreWord, StoreRoot, StoreWaiting, StoreEntering, SplitNote, JoinNote, StoreSlot, LoadSlot, StoreEntry, AddDelay, SubDelay, LoadDelay}
use Rattle.area_core.specs.declared.table.Published.{Published}
use Rattle.area_core.specs.declared.table.Table.{Table}
use Rattle.area_core.specs.Map.{word_at, slot_place, block_place, image_entry_at, kind_at}
use Rattle.area_core.specs.Readers.{readable_generations, is_slot_of, may_read, MayRead}
use Rattle.area_core.specs.Roots.{fresh_areas}
use Rattle.area_core.specs.Stores.{with_word, holds_in_block, may_store_in_block, may_be_retire, may_be_doom, may_store_entry, entry_word, may_store_slot}
use Rattle.area_core.specs.Step.{after, with_progress, after_progress, if_enabled, progress_if, has_seat, root_event, confirms, counter_loaded, word_stored, slot_stored_by, may_write_slot, to_publish, may_publish_in, published_in, appended, root_stored, IsSound}
use Rattle.area_core.specs.Enabled.{with_retire}
use Rattle.area_core.specs.Grace.{IsEntryStore}
use Rattle.area_core.proofs.Places.{kind_slot, word_there}
use Rattle.area_core.proofs.Tests.{four_hold}
use Rattle.area_core.proofs.SoundLoads.{mapped_some, chosen_some}
use Rattle.area_core.proofs.UnreadStores.{enabled, unread_stays}

-- the words are as they were
abbrev Stays : ℕ → Table → Table → Type 0
Stays word s t = word_at t.words word ≡ word_at s.words word

module _ (s t : Table) (word : ℕ) where
  -- what leaves a state in which the word stays leaves the word
  left : (u : Table) → u ≡ t → Stays word s u → Stays word s t
  left u same stays = ap (λ (x : Table). word_at x.words word) (sym same) ∙ stays

  progress_left : (event : PrgrEvent) → after_progress s event ≡ Some t → Stays word s t
  progress_left event e =
      let made = mapped_some (with_progress s) (progress_after s.progress event) t e in
      left (with_progress s made.0) made.2 refl

  counter_left : (seat : SeatName) → counter_loaded s seat ≡ Some t → Stays word s t
  counter_left seats.Writer e = left (with_progress s (with_pair s.progress)) (some_same (with_progress s (with_pair s.progress)) t e) refl
  counter_left (seats.Member k) e = progress_left (prgr.LoadCounter k) e
  counter_left (seats.Watcher k) e = progress_left (prgr.WatchLoad k) e

  unchanged_left : (b : Bool) → if_enabled b s ≡ Some t → Stays word s t
  unchanged_left b e = left s (cond_some b s t e).1 refl

  confirm_left : (k value : ℕ) → after s (Confirm k value) ≡ Some t → Stays word s t
  confirm_left k value e =
      let found = and_then_some (λ (member : Member). if confirms value member.loaded then after_progress s (prgr.Report k) else None) (slice_get s.progress.members k) t e in
      progress_left (prgr.Report k) (chosen_some (confirms value found.0.loaded) (after_progress s (prgr.Report k)) t found.2)

  published_left : (p : Published) → root_stored s p ≡ Some t → Stays word s t
  published_left p e =
      let made = mapped_some (published_in s p (fresh_areas s.kept p)) (progress_after s.progress prgr.Publish) t (chosen_some (may_publish_in s p) (appended s p (fresh_areas s.kept p)) t e) in
      left (published_in s p (fresh_areas s.kept p) made.0) made.2 refl

  root_left : (seat : SeatName) → after s (LoadRoot seat) ≡ Some t → Stays word s t
  root_left seat e = left (with_progress s (progress_if s.progress (root_event s.progress seat))) (cond_some (has_seat s.progress seat) (with_progress s (progress_if s.progress (root_event s.progress seat))) t e).1 refl

  module _ (sound : IsSound s) (block at : ℕ) (is : kind_at word ≡ InBlock block at) where
    -- a store into another word
    other_left : (place value : ℕ) (kind : WordKind) → kind_at place ≡ kind → (kind ≡ InBlock block at → ⊥) → with_word s place value ≡ t → Stays word s t
    other_left place value kind of differ made = left (with_word s place value) made (word_there s.words place value word (λ same. differ (sym of ∙ ap kind_at (sym same) ∙ is)))

    word_left : (seat : SeatName) → MayRead s seat word → (place value : ℕ) → after s (StoreWord place value) ≡ Some t → Stays word s t
    word_left seat may place value e =
        elim (cases_eq word place) as (λ _. Stays word s t) [
          | inl same ↦ absurd (unread_stays s t word value seat block at sound is (ap (λ (x : ℕ). after s (StoreWord x value)) same ∙ e) may)
          | inr other ↦ by_kind other (kind_at place) e
        ]
      where
        there : (word ≡ place → ⊥) → word_at (slice_set s.words place value) word ≡ word_at s.words word
        there other = word_there s.words place value word other

        by_kind : (word ≡ place → ⊥) → (kind : WordKind) → word_stored s place value kind ≡ Some t → Stays word s t
        by_kind other (InBlock own row) made = left (with_word s place value) (enabled (may_store_in_block s (readable_generations s.progress) own row value) (with_word s place value) t made).1 (there other)
        by_kind other (Retire own) made = left (with_retire s place own value) (enabled (holds_in_block s.kept own (may_be_retire s (readable_generations s.progress) value)) (with_retire s place own value) t made).1 (there other)
        by_kind other (Doom own) made = left (with_word s place value) (enabled (holds_in_block s.kept own (may_be_doom s (readable_generations s.progress) value)) (with_word s place value) t made).1 (there other)
        by_kind other Machine made = absurd (cc)
        by_kind other Slot made = absurd (cc)
        by_kind other Nowhere made = absurd (cc)

    slot_left : (k process place value : ℕ) → after s (StoreSlot k process place value) ≡ Some t → Stays word s t
    slot_left k process place value e =
        let found = and_then_some (slot_stored_by s k process place value) (slice_get s.progress.members k) t e in
        let made = enabled (may_write_slot s found.0 k process place && may_store_slot s process place value (slice_get s.published found.0.generation)) (with_word s (slot_place process place) value) t found.2 in
        let both = and_parts (may_write_slot s found.0 k process place) (may_store_slot s process place value (slice_get s.published found.0.generation)) made.0 in
        let four = four_hold (is_value found.0.word) (nat_lt process PROCESSES) (is_slot_of (OfMember k (length s.progress.members)) process) (nat_le place ANCHORS) both.0 in
        other_left (slot_place process place) value Slot (kind_slot process place (ltb-true process PROCESSES four.1) (leb-true place ANCHORS four.3)) (λ same. absurd (cc)) made.1

    entry_left : (c : CodeRef) (on : Bool) → after s (StoreEntry c on) ≡ Some t → IsEntryStore (StoreEntry c on) word ⊎ Stays word s t
    entry_left c on e =
        elim (cases_eq word (block_place c.area.block (image_entry_at c.function))) as (λ _. IsEntryStore (StoreEntry c on) word ⊎ Stays word s t) [
          | inl same ↦ inl (c, on, refl, same)
          | inr other ↦
              let made = enabled (may_store_entry s (readable_generations s.progress) c on) (with_word s (block_place c.area.block (image_entry_at c.function)) (entry_word on)) t e in
              inr (left (with_word s (block_place c.area.block (image_entry_at c.function)) (entry_word on)) made.1 (word_there s.words (block_place c.area.block (image_entry_at c.function)) (entry_word on) word other))
        ]

    pub read_words_stay : (event : AreaEvent) (seat : SeatName) → MayRead s seat word → after s event ≡ Some t → IsEntryStore event word ⊎ Stays word s t
    read_words_stay (LoadCounter own) seat may e = inr (counter_left own e)
    read_words_stay (LoadRoot own) seat may e = inr (root_left own e)
    read_words_stay (Confirm k value) seat may e = inr (confirm_left k value e)
    read_words_stay (LoadConfirmed k j) seat may e = inr (progress_left (prgr.Scan k j) e)
    read_words_stay (StoreCounter k) seat may e = inr (progress_left (prgr.Advance k) e)
    read_words_stay (TakeLead k) seat may e = inr (progress_left (prgr.Lead k) e)
    read_words_stay (DropLead k) seat may e = inr (progress_left (prgr.GiveUp k) e)
    read_words_stay (LoadWord own place) seat may e = inr (unchanged_left (may_read s own place) e)
    read_words_stay (StoreWord place value) seat may e = inr (word_left seat may place value e)
    read_words_stay (StoreRoot code bp term next areas) seat may e = inr (published_left (to_publish code bp term next areas) e)
    read_words_stay (StoreWaiting k) seat may e = inr (progress_left (prgr.Wait k) e)
    read_words_stay (StoreEntering k) seat may e = inr (progress_left (prgr.Enter k) e)
    read_words_stay (SplitNote process) seat may e = inr (unchanged_left (nat_lt process PROCESSES) e)
    read_words_stay (JoinNote k) seat may e = inr (unchanged_left (nat_lt k (length s.progress.members)) e)
    read_words_stay (StoreSlot k process place value) seat may e = inr (slot_left k process place value e)
    read_words_stay (LoadSlot process place) seat may e = inr (unchanged_left (nat_lt process PROCESSES && nat_le place ANCHORS) e)
    read_words_stay (StoreEntry c on) seat may e = entry_left c on e
    read_words_stay (AddDelay w which) seat may e = inr (progress_left (prgr.WatchAdd w which) e)
    read_words_stay (SubDelay w which) seat may e = inr (progress_left (prgr.WatchSub w which) e)
    read_words_stay (LoadDelay k which) seat may e = inr (progress_left (prgr.ScanDelay k) (chosen_some (which == (s.progress.counter + 1) % 2) (after_progress s (prgr.ScanDelay k)) t e))

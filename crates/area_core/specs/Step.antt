-- The events of blocks and slots, one for each kind of atomic step: where each is enabled, and what it leaves.
-- Lists and single events; the running program has words and threads.
-- Source: Erlang/OTP erts internal documentation, ThreadProgress, CodeLoading and Tracing; the words, the rules and
-- their order are this project's own.
use Rattle.std.specs.Prelude.{◌≡◌, ℕ, ◌+◌, ◌%◌, ◌==◌, Bool, true, false, ◌&&◌, nat_lt, nat_le, if◌then◌else◌, List, [], ◌∷◌, ◌++◌, length, Option, Some, None, slice_get}
use Rattle.std.specs.Option.{option_and_then, option_map}
use Rattle.prgr_core.specs.declared.member.Loaded.{Loaded}
use Rattle.prgr_core.specs.declared.member.Loaded.TheVariants.{Nothing, Counter, CounterAndRoot}
use Rattle.prgr_core.specs.declared.member.Member.{Member}
use Rattle.prgr_core.specs.declared.progress.Progress.{Progress}
use Rattle.prgr_core.specs.declared.event.PrgrEvent.{PrgrEvent}
use Rattle.prgr_core.specs.declared.event.PrgrEvent.TheVariants as prgr
use Rattle.prgr_core.specs.Members.{is_value}
use Rattle.prgr_core.specs.Machine.{machine_of, Readable}
use Rattle.prgr_core.specs.Step.{after as progress_after, progress_opening as opening_progress, with_pair, IsSound as IsProgressSound}
use Rattle.term_core.specs.declared.area.AreaRef.{AreaRef}
use Rattle.term_core.specs.declared.area.CodeRef.{CodeRef}
use Rattle.term_core.specs.declared.generation.Generation.{Generation}
use Rattle.area_core.specs.declared.map.TheConstants.{TABLE_WORDS, PROCESSES, ANCHORS}
use Rattle.area_core.specs.declared.map.WordKind.{WordKind}
use Rattle.area_core.specs.declared.map.WordKind.TheVariants.{Machine, Slot, Retire, Doom, InBlock, Nowhere}
use Rattle.area_core.specs.declared.readers.Slots.TheVariants.{OfMember}
use Rattle.area_core.specs.declared.event.SeatName.{SeatName}
use Rattle.area_core.specs.declared.event.SeatName.TheVariants as seats
use Rattle.area_core.specs.declared.event.AreaEvent.{AreaEvent}
use Rattle.area_core.specs.declared.event.AreaEvent.TheVariants.{LoadCounter, LoadRoot, Confirm, LoadConfirmed, StoreCounter, TakeLead, DropLead, LoadWord, StoreWord, StoreRoot, StoreWaiting, StoreEntering, SplitNote, JoinNote, StoreSlot, LoadSlot, StoreEntry, AddDelay, SubDelay, LoadDelay}
use Rattle.area_core.specs.declared.table.Published.{Published}
use Rattle.area_core.specs.declared.table.KeptArea.{KeptArea}
use Rattle.area_core.specs.declared.table.Table.{Table}
use Rattle.area_core.specs.Map.{word_at, opening_words, slot_place, block_place, image_entry_at, kind_at}
use Rattle.area_core.specs.Blocks.{Blocks, BlockInvariant}
use Rattle.area_core.specs.Readers.{is_slot_of, held_generations, readable_generations, may_read, MayRead}
use Rattle.area_core.specs.Stores.{with_word, holds_in_block, may_store_in_block, may_be_retire, kept_after, may_be_doom, may_store_entry, entry_word, may_store_slot}
use Rattle.area_core.specs.Roots.{fresh_areas, may_publish}

-- ---- events of the progress machine

-- the table with this state of the progress machine
abbrev pub with_progress : Table → Progress → Table
with_progress s progress = record s { progress = progress }

-- what an event of the progress machine leaves
abbrev pub after_progress : Table → PrgrEvent → Option Table
after_progress s event = option_map (with_progress s) (progress_after s.progress event)

-- what is left of a choice
abbrev pub if_enabled : Bool → Table → Option Table
if_enabled enabled t = if enabled then Some t else None

-- an event of the progress machine where it has one, and else nothing
abbrev pub progress_if : Progress → Option Progress → Progress
progress_if old None = old
progress_if old (Some new) = new

-- the state has such a seat
abbrev pub has_seat : Progress → SeatName → Bool
has_seat s seats.Writer = true
has_seat s (seats.Member k) = nat_lt k (length s.members)
has_seat s (seats.Watcher k) = nat_lt k (length s.watchers)

-- a load of the counter; that of the writer tells from when on what is no longer read may be used again
abbrev pub counter_loaded : Table → SeatName → Option Table
counter_loaded s seats.Writer = Some (with_progress s (with_pair s.progress))
counter_loaded s (seats.Member k) = after_progress s (prgr.LoadCounter k)
counter_loaded s (seats.Watcher k) = after_progress s (prgr.WatchLoad k)

-- the event of a seat that has loaded the root
abbrev pub root_event : Progress → SeatName → Option Progress
root_event s seats.Writer = None
root_event s (seats.Member k) = progress_after s (prgr.LoadRoot k)
root_event s (seats.Watcher k) = progress_after s (prgr.WatchRoot k)

-- a load of the root; where it is no event of the progress machine, it changes nothing
abbrev pub root_loaded : Table → SeatName → Option Table
root_loaded s seat = if_enabled (has_seat s.progress seat) (with_progress s (progress_if s.progress (root_event s.progress seat)))

-- the member confirms this value, which must be that after the counter it has loaded
abbrev pub confirms : ℕ → Loaded → Bool
confirms value Nothing = false
confirms value (Counter c) = false
confirms value (CounterAndRoot c) = value == c + 1

-- member k confirms a value
abbrev pub confirmed : Table → ℕ → ℕ → Option Table
confirmed s k value =
    option_and_then (λ member. if confirms value member.loaded then after_progress s (prgr.Report k) else None) (slice_get s.progress.members k)

-- the leader loads the delay count of the next value of the counter
abbrev pub delay_loaded : Table → ℕ → ℕ → Option Table
delay_loaded s k which = if which == (s.progress.counter + 1) % 2 then after_progress s (prgr.ScanDelay k) else None

-- ---- stores

-- a store of the writer, by what the word is for
abbrev pub word_stored : Table → ℕ → ℕ → WordKind → Option Table
word_stored s word value (InBlock block at) =
    if_enabled (may_store_in_block s (readable_generations s.progress) block at value) (with_word s word value)
word_stored s word value (Retire block) =
    if_enabled (holds_in_block s.kept block (may_be_retire s (readable_generations s.progress) value)) (record (with_word s word value) { kept = kept_after s block value })
word_stored s word value (Doom block) =
    if_enabled (holds_in_block s.kept block (may_be_doom s (readable_generations s.progress) value)) (with_word s word value)
word_stored s word value Machine = None
word_stored s word value Slot = None
word_stored s word value Nowhere = None

-- a store of an entry word
abbrev pub entry_stored : Table → CodeRef → Bool → Option Table
entry_stored s at on =
    if_enabled (may_store_entry s (readable_generations s.progress) at on) (with_word s (block_place at.area.block (image_entry_at at.function)) (entry_word on))

-- the slot is one of the member's, whose word is a value, and has this place
abbrev pub may_write_slot : Table → Member → ℕ → ℕ → ℕ → Bool
may_write_slot s member k process place =
    is_value member.word && nat_lt process PROCESSES && is_slot_of (OfMember k (length s.progress.members)) process && nat_le place ANCHORS

-- a store of member k into a slot
abbrev pub slot_stored_by : Table → ℕ → ℕ → ℕ → ℕ → Member → Option Table
slot_stored_by s k process place value member =
    if_enabled (may_write_slot s member k process place && may_store_slot s process place value (slice_get s.published member.generation)) (with_word s (slot_place process place) value)

-- a store into a slot
abbrev pub slot_stored : Table → ℕ → ℕ → ℕ → ℕ → Option Table
slot_stored s k process place value = option_and_then (slot_stored_by s k process place value) (slice_get s.progress.members k)

-- what a store of the root publishes
abbrev pub to_publish : ℕ → ℕ → ℕ → Generation → List AreaRef → Published
to_publish code bp term next areas = record { root = record { code = code; bp = bp; term = term }; state = next; areas = areas }

-- the words stand for what is published next
abbrev pub may_publish_in : Table → Published → Bool
may_publish_in s p = may_publish s.words s.published (held_generations s.progress) s.kept (s.progress.generation + 1) p

-- the table in which this is published next, and these areas are kept from now on
abbrev pub published_in : Table → Published → List KeptArea → Progress → Table
published_in s p fresh progress = record s { progress = progress; published = s.published ++ p ∷ []; kept = s.kept ++ fresh }

-- what is left where this is published next
abbrev pub appended : Table → Published → List KeptArea → Option Table
appended s p fresh = option_map (published_in s p fresh) (progress_after s.progress prgr.Publish)

-- a store of the root
abbrev pub root_stored : Table → Published → Option Table
root_stored s p = if may_publish_in s p then appended s p (fresh_areas s.kept p) else None

-- ---- events

-- the state after an event, or none where the event is not enabled
abbrev pub after : Table → AreaEvent → Option Table
after s (LoadCounter seat) = counter_loaded s seat
after s (LoadRoot seat) = root_loaded s seat
after s (Confirm k value) = confirmed s k value
after s (LoadConfirmed k j) = after_progress s (prgr.Scan k j)
after s (StoreCounter k) = after_progress s (prgr.Advance k)
after s (TakeLead k) = after_progress s (prgr.Lead k)
after s (DropLead k) = after_progress s (prgr.GiveUp k)
after s (LoadWord seat word) = if_enabled (may_read s seat word) s
after s (StoreWord word value) = word_stored s word value (kind_at word)
after s (StoreRoot code bp term next areas) = root_stored s (to_publish code bp term next areas)
after s (StoreWaiting k) = after_progress s (prgr.Wait k)
after s (StoreEntering k) = after_progress s (prgr.Enter k)
after s (SplitNote process) = if_enabled (nat_lt process PROCESSES) s
after s (JoinNote k) = if_enabled (nat_lt k (length s.progress.members)) s
after s (StoreSlot k process place value) = slot_stored s k process place value
after s (LoadSlot process place) = if_enabled (nat_lt process PROCESSES && nat_le place ANCHORS) s
after s (StoreEntry at on) = entry_stored s at on
after s (AddDelay w which) = after_progress s (prgr.WatchAdd w which)
after s (SubDelay w which) = after_progress s (prgr.WatchSub w which)
after s (LoadDelay k which) = delay_loaded s k which

-- ---- states

-- generation 0, in which nothing is loaded and no key is held
abbrev pub empty_generation : Generation
empty_generation = record { exports = []; traced = []; keys = []; current = []; old = []; doomed = []; retired = []; areas = [] }

-- what stands published at first: the empty generation, over the first block of each sort
abbrev pub opening_published : Published
opening_published = to_publish 0 0 0 empty_generation []

-- the state in which events begin, of so many members and watchers, and words
abbrev pub opening_of : ℕ → ℕ → ℕ → Table
opening_of members watchers count = record {
  progress = opening_progress members watchers;
  words = opening_words count;
  published = opening_published ∷ [];
  kept = [];
}

-- the blocks of a state
abbrev pub blocks_of : Table → Blocks
blocks_of s = record { word = word_at s.words; published = s.published; kept = s.kept }

-- a generation counts where some thread may read it
abbrev pub IsReadable : Table → ℕ → Type 0
IsReadable s g = Readable (machine_of s.progress) g

-- the state meets the progress invariant and the block invariant, has all words, and keeps each generation
pub record IsSound (s : Table) : Type 0 where
  pub progress : IsProgressSound s.progress
  pub blocks : BlockInvariant (blocks_of s) (IsReadable s)
  pub words : length s.words ≡ TABLE_WORDS
  pub published : length s.published ≡ s.progress.generation + 1

-- each enabled event keeps a sound state sound
abbrev pub KeepsSound : Type 0
KeepsSound = (s t : Table) (event : AreaEvent) → IsSound s → after s event ≡ Some t → IsSound t

-- where a seat may read a word of a block, no store into that word is enabled
abbrev pub KeepsWhatIsRead : Type 0
KeepsWhatIsRead = (s t : Table) (word value : ℕ) (seat : SeatName) (block at : ℕ) → IsSound s → kind_at word ≡ InBlock block at → after s (StoreWord word value) ≡ Some t → MayRead s seat word → ⊥

-- Which words a thread may read: those of the blocks that the root of its generation names, and those of the areas
-- that its generation reaches or that the slots of its processes name, with their retire and doom words.
use Rattle.std.specs.Prelude.{ℕ, zero, suc, ◌+◌, ◌*◌, ◌/◌, ◌%◌, ◌==◌, Bool, true, false, not, ◌&&◌, ◌||◌, nat_lt, if◌then◌else◌, List, ◌∷◌, ◌++◌, length, Option, Some, None, slice_get, IsTrue}
use Rattle.std.specs.List.{list_any, list_all, flat_map}
use Rattle.std.specs.Option.{option_and_then, option_to_list}
use Rattle.prgr_core.specs.declared.member.TheConstants.{ENTERING}
use Rattle.prgr_core.specs.declared.member.Loaded.{Loaded}
use Rattle.prgr_core.specs.declared.member.Loaded.TheVariants.{Nothing, Counter, CounterAndRoot}
use Rattle.prgr_core.specs.declared.member.Member.{Member}
use Rattle.prgr_core.specs.declared.watcher.Watcher.{Watcher}
use Rattle.prgr_core.specs.declared.progress.Progress.{Progress}
use Rattle.prgr_core.specs.Members.{is_value}
use Rattle.prgr_core.specs.Watchers.{is_claimed}
use Rattle.area_core.specs.declared.map.TheConstants.{PROCESSES, ANCHORS, BREAKPOINTS_START, TERMS_START, AREAS_START, FUNCTIONS}
use Rattle.area_core.specs.declared.map.WordKind.{WordKind}
use Rattle.area_core.specs.declared.map.WordKind.TheVariants.{Machine, Slot, Retire, Doom, InBlock, Nowhere}
use Rattle.area_core.specs.declared.readers.Slots.{Slots}
use Rattle.area_core.specs.declared.readers.Slots.TheVariants.{All, OfMember}
use Rattle.area_core.specs.declared.event.SeatName.{SeatName}
use Rattle.area_core.specs.declared.event.SeatName.TheVariants as seats
use Rattle.area_core.specs.declared.table.Published.{Published}
use Rattle.area_core.specs.declared.table.Table.{Table}
use Rattle.area_core.specs.Map.{word_at, anchor_place, kind_at}
use Rattle.area_core.specs.Generations.{is_instance, is_reached, anchor_names_area}

-- ---- generations

-- the member has loaded the root since it loaded the counter
abbrev pub has_root : Loaded → Bool
has_root Nothing = false
has_root (Counter c) = false
has_root (CounterAndRoot c) = true

-- the generation that a member may read, if it may read one
abbrev pub held_by_member : Member → Option ℕ
held_by_member m = if is_value m.word || ((m.word == ENTERING) && has_root m.loaded) then Some m.generation else None

-- the generation that a watcher may read, if it may read one
abbrev pub held_by_watcher : Watcher → Option ℕ
held_by_watcher w = if is_claimed w.phase then w.generation else None

-- the same as a list of at most one
abbrev pub in_member : Member → List ℕ
in_member m = option_to_list (held_by_member m)

-- the same of a watcher
abbrev pub in_watcher : Watcher → List ℕ
in_watcher w = option_to_list (held_by_watcher w)

-- the generations that members and watchers hold
abbrev pub held_generations : Progress → List ℕ
held_generations s = flat_map in_member s.members ++ flat_map in_watcher s.watchers

-- the generations that some thread may read, or may come to by one load of the root
abbrev pub readable_generations : Progress → List ℕ
readable_generations s = s.generation ∷ held_generations s

-- the generation that a seat holds, if there is such a seat and it holds one; the writer always holds the newest
abbrev pub held_by : Progress → SeatName → Option ℕ
held_by s seats.Writer = Some s.generation
held_by s (seats.Member k) = option_and_then held_by_member (slice_get s.members k)
held_by s (seats.Watcher k) = option_and_then held_by_watcher (slice_get s.watchers k)

-- a test holds of what was published under this number, if anything was
abbrev pub holds_of : (ℕ → Published → Bool) → ℕ → Option Published → Bool
holds_of test g None = true
holds_of test g (Some p) = test g p

-- a test holds of the generation of this number, if it was published
abbrev pub holds_at : List Published → (ℕ → Published → Bool) → ℕ → Bool
holds_at published test g = holds_of test g (slice_get published g)

-- a test holds of each of these generations
abbrev pub holds_of_each : List Published → List ℕ → (ℕ → Published → Bool) → Bool
holds_of_each published generations test = list_all (holds_at published test) generations

-- ---- words of a generation

-- the generation reaches an area in this block
abbrev pub reaches_block : Published → ℕ → Bool
reaches_block p block = list_any (λ a. (a.block == block) && is_reached p a.serial) p.areas

-- a current or old instance of the generation is in this block
abbrev pub has_instance_in : Published → ℕ → Bool
has_instance_in p block = list_any (λ a. (a.block == block) && is_instance p a.serial) p.areas

-- a turn under the generation may read this word of a block
abbrev pub reads_in_block : Published → ℕ → ℕ → Bool
reads_in_block p block at =
    if nat_lt block BREAKPOINTS_START then block == p.root.code else if nat_lt block TERMS_START then (block == BREAKPOINTS_START + p.root.bp) && has_instance_in p (AREAS_START + at / FUNCTIONS) else if nat_lt block AREAS_START then block == TERMS_START + p.root.term else reaches_block p block

-- a turn under the generation may read this word
abbrev pub reads_word : WordKind → Published → Bool
reads_word Machine p = false
reads_word Slot p = false
reads_word (Retire block) p = reaches_block p block
reads_word (Doom block) p = reaches_block p block
reads_word (InBlock block at) p = reads_in_block p block at
reads_word Nowhere p = false

-- ---- words of the areas that slots name

-- the slots of all processes, or those of a member's processes, which are dealt out in turn
abbrev pub is_slot_of : Slots → ℕ → Bool
is_slot_of All process = true
is_slot_of (OfMember member members) process = not (members == 0) && (process % members == member)

-- one of the first so many anchors of these slots names the area
unfoldable pub is_named_before : Slots → List ℕ → ℕ → ℕ → Bool
is_named_before slots words serial zero = false
is_named_before slots words serial (suc n) =
    is_named_before slots words serial n || (is_slot_of slots (n / ANCHORS) && anchor_names_area (word_at words (anchor_place n)) serial)

-- how many anchors all slots have
abbrev pub all_anchors : ℕ
all_anchors = PROCESSES * ANCHORS

-- an anchor of these slots names the area
abbrev pub is_named_area : Slots → List ℕ → ℕ → Bool
is_named_area slots words serial = is_named_before slots words serial all_anchors

-- an anchor of these slots names the kept area in this block
abbrev pub is_block_named : Slots → Table → ℕ → Bool
is_block_named slots s block = list_any (λ k. (k.area.block == block) && is_named_area slots s.words k.area.serial) s.kept

-- the word is one of an area that these slots name
abbrev pub slots_read : Slots → Table → WordKind → Bool
slots_read slots s Machine = false
slots_read slots s Slot = false
slots_read slots s (Retire block) = is_block_named slots s block
slots_read slots s (Doom block) = is_block_named slots s block
slots_read slots s (InBlock block at) = is_block_named slots s block
slots_read slots s Nowhere = false

-- ---- who may read

-- the slots of a seat: a member's are those of its processes, and no other seat has any
abbrev pub own_slots_read : Table → SeatName → WordKind → Bool
own_slots_read s seats.Writer kind = false
own_slots_read s (seats.Member k) kind = slots_read (OfMember k (length s.progress.members)) s kind
own_slots_read s (seats.Watcher k) kind = false

-- what stands at a number was published, and a turn under it may read this word
abbrev pub is_read_under : WordKind → Option Published → Bool
is_read_under kind None = false
is_read_under kind (Some p) = reads_word kind p

-- a seat that holds this generation may read this word
abbrev pub may_read_holding : Table → SeatName → WordKind → Option ℕ → Bool
may_read_holding s seat kind None = false
may_read_holding s seat kind (Some g) = is_read_under kind (slice_get s.published g) || own_slots_read s seat kind

-- the seat may read this word
abbrev pub may_read : Table → SeatName → ℕ → Bool
may_read s seat word = may_read_holding s seat (kind_at word) (held_by s.progress seat)

-- the same as a fact
abbrev pub MayRead : Table → SeatName → ℕ → Type 0
MayRead s seat word = IsTrue (may_read s seat word)

-- some thread may read the word, under one of these generations or by a slot
abbrev pub is_read : Table → List ℕ → WordKind → Bool
is_read s generations kind = list_any (λ g. is_read_under kind (slice_get s.published g)) generations || slots_read All s kind

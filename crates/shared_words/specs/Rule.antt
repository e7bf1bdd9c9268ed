-- What holds between any two steps of any threads, of the words and of what all seats know.
-- Source: Erlang/OTP erts internal documentation, ThreadProgress and CodeLoading. The words and the clauses are this
-- project's own. The clauses are grouped by what they read: the writer's view alone, the words and the writer's view,
-- the view of each seat, and the state of the progress machine.
use Rattle.std.specs.Prelude.{◌≡◌, ℕ, ◌+◌, ◌%◌, ◌^◌, ◌<◌, ◌≤◌, Bool, ◌||◌, List, ◌∷◌, ◌++◌, length, slice_index, slice_get, Some, false, IsTrue}
use mathlib.Core.Option.{some}
use lib.ListN.{get_elem?}
use Rattle.atomic_table.specs.Table.{State}
use Rattle.prgr_core.specs.declared.member.TheConstants.{WAITING, MOST_MEMBERS}
use Rattle.prgr_core.specs.declared.member.Member as machines
use Rattle.prgr_core.specs.declared.member.Retirement.{Retirement}
use Rattle.prgr_core.specs.Step.{IsSound}
use Rattle.term_core.specs.declared.area.AreaRef.{AreaRef}
use Rattle.area_core.specs.declared.map.TheConstants.{TABLE_WORDS, PROCESSES, RETIRE_START}
use Rattle.area_core.specs.declared.map.WordKind.TheVariants.{InBlock}
use Rattle.area_core.specs.declared.table.KeptArea.{KeptArea}
use Rattle.area_core.specs.declared.table.Published.{Published}
use Rattle.area_core.specs.Generations.{is_current, is_used, is_retired_area, has_serial, is_entry_word}
use Rattle.area_core.specs.Map.{word_at, slot_place, kind_at}
use Rattle.area_core.specs.Readers.{reads_word}
use Rattle.area_core.specs.Blocks.{Blocks, BlockInvariant, Among}
use Rattle.area_core.specs.Roots.{serial_image}
use Rattle.marks.specs.declared.kept.LookKind.{LookKind}
use Rattle.marks.specs.declared.kept.LookKind.TheVariants.{Frame, Both}
use Rattle.marks.specs.declared.kept.EndedWait.{EndedWait}
use Rattle.marks.specs.declared.kept.WriterKept.{WriterKept}
use Rattle.marks.specs.declared.mark.ProcessView.{ProcessView}
use Rattle.marks.specs.Kept.{Under, IsKnown, IsBacked}
use Rattle.shared_words.specs.declared.table.TheConstants.{ROOT, COUNTER, LEAD, CONFIRMED}
use Rattle.shared_words.specs.declared.opening.Opening.{Opening}
use Rattle.shared_words.specs.declared.view.BlockWord.{BlockWord}
use Rattle.shared_words.specs.declared.view.NoteNumber.{NoteNumber}
use Rattle.shared_words.specs.declared.view.NoteView.{NoteView}
use Rattle.shared_words.specs.declared.view.MemberView.{MemberView}
use Rattle.shared_words.specs.declared.view.WatcherView.{WatcherView}
use Rattle.shared_words.specs.declared.view.WriterView.{WriterView}
use Rattle.shared_words.specs.declared.view.View.{View}
use Rattle.shared_words.specs.declared.view.View.TheVariants.{Writer, Member, Watcher, Note, Spent}
use Rattle.shared_words.specs.Views.{newest_root}
use Rattle.shared_words.specs.Shown.{members_shown, views_shown, progress_of, block_words}
use Rattle.shared_words.specs.Processes.{process_of, slot_in, opening_slot, under_of}

-- ---- the writer's view alone

-- the first generations of those that were published
abbrev pub IsBeginning : List Published → List Published → Type 0
IsBeginning seen published = (rest : List Published) × (published ≡ seen ++ rest)

-- an instance that is old in a generation is current in no later one, nor in that one
abbrev pub OldStays : List Published → Type 0
OldStays published =
    (g later : ℕ) (p q : Published) (serial : ℕ) → g ≤ later → slice_get published g ≡ Some p → slice_get published later ≡ Some q → IsTrue (has_serial p.state.old serial) → is_current q serial ≡ false

-- an area that is retired in a generation is neither current nor old nor a key's in that one or a later one
abbrev pub RetiredStays : List Published → Type 0
RetiredStays published =
    (g later : ℕ) (p q : Published) (serial : ℕ) → g ≤ later → slice_get published g ≡ Some p → slice_get published later ≡ Some q → IsTrue (is_retired_area p serial) → is_used q serial ≡ false

-- a note tells of a process that has a slot, and of no more generations than were published
pub record NoteFits (published : List Published) (note : NoteNumber) : Type 0 where
  pub process : note.process < PROCESSES
  pub counted : note.published < length published

-- a generation has a kept area: in its block, and with its image
pub record HasArea (p : Published) (k : KeptArea) : Type 0 where
  pub listed : Among p.areas k.area
  pub image : serial_image p.state.areas k.area.serial ≡ Some k.words

-- the area is kept as the generation has it
pub record IsKeptIn (kept : List KeptArea) (p : Published) (a : AreaRef) : Type 0 where
  pub area : KeptArea
  pub among : Among kept area
  pub is : area.area ≡ a
  pub has : HasArea p area

-- no two areas of a generation have one serial
abbrev pub AreAreasApart : Published → Type 0
AreAreasApart p = (a b : AreaRef) → Among p.areas a → Among p.areas b → a.serial ≡ b.serial → a ≡ b

-- a generation has one area of each serial that it uses
pub record HasItsAreas (p : Published) : Type 0 where
  pub apart : AreAreasApart p
  pub listed : (serial : ℕ) → IsTrue (is_used p serial) → (a : AreaRef) × Among p.areas a × (a.serial ≡ serial)

-- an area that is kept is the same in all generations that have one of its serial, from the first of these on
pub record AreasStay (published : List Published) (kept : List KeptArea) : Type 0 where
  -- no generation has two areas of one serial
  pub apart : (p : Published) → Among published p → AreAreasApart p
  -- what has the serial of a kept area is that area
  pub same : (p : Published) (k : KeptArea) (a : AreaRef) → Among published p → Among kept k → Among p.areas a → a.serial ≡ k.area.serial → HasArea p k
  -- and later generations have it too
  pub stay : (g later : ℕ) (p q : Published) (k : KeptArea) → g ≤ later → slice_get published g ≡ Some p → slice_get published later ≡ Some q → Among kept k → HasArea p k → HasArea q k

-- what was published, and what the writer keeps beside it
pub record PublishedKept (Served : Published → Type 0) (opening : Opening) (w : WriterView) : Type 0 where
  -- so many members were made
  pub made : length w.members ≡ opening.members
  -- at least one
  pub staffed : 0 < length w.members
  -- so many watchers were made
  pub watched : length w.watchers ≡ opening.watchers
  -- generation 0 is there
  pub some : 0 < length w.published
  -- each generation is one that the code server has made
  pub served : (p : Published) → Among w.published p → Served p
  -- old instances do not become current again
  pub old_stays : OldStays w.published
  -- retired areas are not used again
  pub retired_stays : RetiredStays w.published
  -- kept areas stay as they are
  pub areas_stay : AreasStay w.published w.kept
  -- notes tell of processes and of published generations
  pub notes_fit : (note : NoteNumber) → Among w.notes note → NoteFits w.published note

-- ---- what the writer keeps of waits and looks

-- no turn under this generation or a later one comes to the area in the kind: it is retired, or for frames an old instance
abbrev pub is_gone : Published → LookKind → ℕ → Bool
is_gone p Frame serial = is_retired_area p serial || has_serial p.state.old serial
is_gone p Both serial = is_retired_area p serial

-- a wait is over: the counter that the writer has loaded reached what it took at a generation in which the area is gone
pub record HasEnded (w : WriterView) (wait : EndedWait) : Type 0 where
  pub need : ℕ
  pub kept : Among w.pairs (record { generation = wait.generation; need = need })
  pub reached : need ≤ w.counter
  pub published : Published
  pub at : slice_get w.published wait.generation ≡ Some published
  pub gone : IsTrue (is_gone published wait.kind wait.serial)

-- what is kept of looks stands on waits that are over
pub record LooksKept (w : WriterView) : Type 0 where
  pub backed : IsBacked w.looks
  pub over : (wait : EndedWait) → Among w.looks.waits wait → HasEnded w wait

-- ---- the words and the writer's view

-- the writer does not know of this generation that no thread reads it any more: the need of no later one is reached by
-- the counter that it has loaded
abbrev pub MayBeRead : WriterView → ℕ → Type 0
MayBeRead w g = (pair : Retirement) → Among w.pairs pair → pair.need ≤ w.counter → pair.generation ≤ g

-- the blocks as the words stand
abbrev pub blocks_shown : List ℕ → WriterView → Blocks
blocks_shown words w = record { word = word_at (block_words words); published = w.published; kept = w.kept }

-- what the words are, by what the writer knows
pub record WordsAgree (words : List ℕ) (w : WriterView) : Type 0 where
  -- all words are there
  pub all : length words ≡ TABLE_WORDS
  -- the root is that of the newest generation
  pub root : slice_index words ROOT ≡ newest_root w.published
  -- the words behind the slots are those that the writer has stored
  pub mirror : length w.words ≡ TABLE_WORDS
  pub mirrored : (place : ℕ) → RETIRE_START ≤ place → slice_index words place ≡ word_at w.words place
  -- the counter has reached what the writer loaded
  pub reached : w.counter ≤ slice_index words COUNTER
  -- blocks, areas and entry words are those of the generations that may be read
  pub blocks : BlockInvariant (blocks_shown words w) (MayBeRead w)

-- ---- each view

-- the process is dealt out to the member of this number
pub record IsOwn (members number process : ℕ) : Type 0 where
  pub below : process < PROCESSES
  pub own : process % members ≡ number

-- no area that is kept in the block has an entry word at this place of it
abbrev pub IsPlain : List KeptArea → ℕ → ℕ → Type 0
IsPlain kept block at = (k : KeptArea) → Among kept k → k.area.block ≡ block → is_entry_word k at ≡ false

-- a word of blocks that was found under a generation: where that reads it, and a thread may read that, a word of a block
-- stands as it was found, but for entry words
pub record WordKept (w : WriterView) (f : BlockWord) : Type 0 where
  pub published : Published
  pub at : slice_get w.published f.generation ≡ Some published
  pub stands : IsTrue (reads_word (kind_at f.word) published) → MayBeRead w f.generation → (block at : ℕ) → kind_at f.word ≡ InBlock block at → IsPlain w.kept block at → word_at w.words f.word ≡ f.value

-- what a member in the seat at this place, counted behind the writer's, knows
pub record MemberKnows (w : WriterView) (place : ℕ) (m : MemberView) : Type 0 where
  -- it has the number of its place
  pub numbered : m.member.number ≡ place
  pub made : place < length w.members
  -- what it has learnt of are the first generations
  pub seen : IsBeginning m.seen w.published
  -- it has learnt of the generation that its record tells
  pub holds : m.member.generation < length m.seen
  -- the notes that it joined are those that the writer made
  pub noted : (note : NoteNumber) → Among m.notes note → Among w.notes note
  -- the slots that it has stored are those of its processes
  pub own_slots : (process : ℕ) → (IsOwn (length w.members) place process → ⊥) → slot_in m.slots process ≡ opening_slot process
  -- the words of blocks that it found stand while their generations may be read
  pub words : (f : BlockWord) → Among m.blocks f → WordKept w f

-- what a watcher in the seat at this place knows
pub record WatcherKnows (w : WriterView) (place : ℕ) (v : WatcherView) : Type 0 where
  -- its seat stands behind those of the members, in the order of the numbers
  pub numbered : length w.members + v.watcher.number ≡ place
  pub made : v.watcher.number < length w.watchers
  pub seen : IsBeginning v.seen w.published
  -- the words of blocks that it found stand while their generations may be read
  pub words : (f : BlockWord) → Among v.blocks f → WordKept w f

-- what a note knows
pub record NoteKnows (w : WriterView) (place : ℕ) (n : NoteView) : Type 0 where
  -- its seat stands behind those of members and watchers
  pub behind : length w.members + length w.watchers ≤ place
  pub seen : IsBeginning n.seen w.published
  -- the writer made it, and it has learnt of the generations that were published then
  pub noted : Among w.notes n.note
  pub learnt : n.note.published < length n.seen

-- what the seat at this place knows
abbrev pub Knows : WriterView → ℕ → View → Type 0
Knows w place (Writer other) = ⊥
Knows w place (Member m) = MemberKnows w place m
Knows w place (Watcher v) = WatcherKnows w place v
Knows w place (Note n) = NoteKnows w place n
Knows w place Spent = Unit {0}

-- ---- the slots

-- what is known of a process, by what its member knows of it, and what the writer keeps
pub record SlotStands (words : List ℕ) (k : WriterKept) (u : Under) (process : ℕ) (p : ProcessView) : Type 0 where
  -- the words of its slot are those that the member has stored
  pub turns : slice_index words (slot_place process 0) ≡ p.slot.turns
  pub anchors : (place word : ℕ) → slice_get p.slot.anchors place ≡ Some word → slice_index words (slot_place process (place + 1)) ≡ word
  -- its turn word ends at the end of a u32
  pub narrow : p.slot.turns < 2 ^ 32
  -- its marks, and what the writer keeps of looks and answers
  pub known : IsKnown u process p k

-- the same of a process of this member
abbrev pub SlotKnown : List ℕ → WriterView → MemberView → ℕ → Type 0
SlotKnown words w m process = SlotStands words w.looks (under_of m) process (process_of m process)

-- so it is of each process
abbrev pub MarksKept : List ℕ → WriterView → List View → Type 0
MarksKept words w seats =
    (process k : ℕ) (m : MemberView) → process < PROCESSES → process % length w.members ≡ k → slice_get (views_shown w.members seats) k ≡ Some m → SlotKnown words w m process

-- the seat of a member that came in is spent
pub record HasCome (w : WriterView) (seats : List View) (number : ℕ) : Type 0 where
  pub made : number < length w.members
  pub spent : get_elem? seats number ≡ some Spent

-- ---- the machine

-- the state of the progress machine, and the words of its members
pub record MachineHolds (words : List ℕ) (w : WriterView) (seats : List View) : Type 0 where
  -- it meets the progress invariant
  pub progress : IsSound (progress_of words w seats)
  -- the word of each member is the one in its record
  pub own_words : (k : ℕ) (a : machines.Member) → slice_get (members_shown w.members seats) k ≡ Some a → slice_index words (CONFIRMED + k) ≡ a.word
  -- the words of members that were not made are as if they waited
  pub others_wait : (k : ℕ) → length w.members ≤ k → k < MOST_MEMBERS → slice_index words (CONFIRMED + k) ≡ WAITING
  -- who leads is a member that was made
  pub leader_made : slice_index words LEAD ≤ length w.members

-- ---- the whole

-- the rule of a table that was made for so many members and watchers; seat 0 is the writer's
pub record RunningRule (Served : Published → Type 0) (opening : Opening) (s : State (Unit {0}) View) : Type 0 where
  pub writer : WriterView
  pub seats : List View
  pub views : s.views ≡ Writer writer ∷ seats
  pub published : PublishedKept Served opening writer
  pub words : WordsAgree s.words writer
  pub each_seat : (place : ℕ) (v : View) → get_elem? seats place ≡ some v → Knows writer place v
  pub machine : MachineHolds s.words writer seats
  -- while seats of members or watchers are at home, there are just those that were handed out
  pub handed : writer.handed < length writer.members + length writer.watchers → length seats ≡ writer.handed
  -- there are at least those that were handed out
  pub out : writer.handed ≤ length seats
  -- a member knows what it must also while its seat is at home
  pub at_home : (k : ℕ) (m : MemberView) → slice_get writer.members k ≡ Some m → MemberKnows writer k m
  -- what a watcher had learnt of while its seat is at home, and once it came in, are the first generations
  pub watchers_home : (k : ℕ) (v : WatcherView) → slice_get writer.watchers k ≡ Some v → IsBeginning v.seen writer.published
  pub looks : LooksKept writer
  pub marks : MarksKept s.words writer seats
  -- who came in has no seat of its own
  pub come : (number : ℕ) → Among writer.taken number → HasCome writer seats number

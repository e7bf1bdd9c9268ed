-- The end of a table: the seats of all members and watchers come in to the writer's, which then knows what each of them knew.
use Rattle.std.specs.Prelude.{◌≡◌, ℕ, zero, suc, ◌+◌, ◌%◌, ◌<◌, ◌≤◌, List, [], ◌∷◌, length, slice_get, slice_set, Some}
use Rattle.atomic_table.specs.Table.{Step}
use Rattle.atomic_table.specs.Seated.{TableId}
use Rattle.area_core.specs.declared.map.TheConstants.{RETIRE_START, TABLE_WORDS, PROCESSES}
use Rattle.area_core.specs.Map.{word_at, slot_place}
use Rattle.area_core.specs.Blocks.{Among}
use Rattle.marks.specs.declared.mark.ProcessView.{ProcessView}
use Rattle.marks.specs.Kept.{IsKnown}
use Rattle.shared_words.specs.declared.table.TheConstants.{ROOT}
use Rattle.shared_words.specs.declared.seats.Member as tokens
use Rattle.shared_words.specs.declared.seats.Watcher as watching
use Rattle.shared_words.specs.declared.view.MemberView.{MemberView}
use Rattle.shared_words.specs.declared.view.WatcherView.{WatcherView}
use Rattle.shared_words.specs.declared.view.WriterView.{WriterView}
use Rattle.shared_words.specs.declared.view.View.{View}
use Rattle.shared_words.specs.declared.view.View.TheVariants.{Writer, Member, Watcher}
use Rattle.shared_words.specs.Views.{newest_root}
use Rattle.shared_words.specs.Seats.{IsMemberSeat, IsWatcherSeat, member_of, watcher_of}
use Rattle.shared_words.specs.Kinds.{Sat}
use Rattle.shared_words.specs.Processes.{process_of, under_of}
use Rattle.shared_words.specs.Rule.{IsBeginning, MemberKnows}

-- the tokens are those of all members, in the order of their numbers
pub record AreAllMembers (table : TableId) (count : ℕ) (members : List tokens.Member) : Type 0 where
  pub all : length members ≡ count
  pub each : (k : ℕ) (token : tokens.Member) → slice_get members k ≡ Some token → IsMemberSeat table k token.seat

-- the writer with what this member knows
abbrev pub with_member : MemberView → WriterView → WriterView
with_member m w = record w { members = slice_set w.members m.member.number m; taken = m.member.number ∷ w.taken }

-- what is known once a member's seat is joined to the writer's
abbrev pub taken_with : View → View → View
taken_with (Member m) (Writer w) = Writer (with_member m w)
taken_with other v = v

-- the same, as the join of two seats asks for it: what was known first, then of the seat that comes in
abbrev pub member_taken : View → View → View
member_taken v other = taken_with other v

-- the writer knows what it knew, and of each member what its token knew
pub record HasAllMembers (members : List tokens.Member) (old new : WriterView) : Type 0 where
  pub same : new ≡ record old { members = new.members; taken = new.taken; watchers = new.watchers }
  pub long : length new.members ≡ length old.members
  pub each : (k : ℕ) (token : tokens.Member) → slice_get members k ≡ Some token → slice_get new.members k ≡ Some (member_of token.seat.me.0)
  pub come : (k : ℕ) (token : tokens.Member) → slice_get members k ≡ Some token → Among new.taken k

-- what the last load tells: of each member that came in the writer knows what a member must
abbrev pub AreKnown : WriterView → Type 0
AreKnown w = (k : ℕ) (m : MemberView) → slice_get w.members k ≡ Some m → MemberKnows w k m

-- the process is one of this member, which came in and knew this
pub record HasBrought (w : WriterView) (process : ℕ) (m : MemberView) : Type 0 where
  pub below : process < PROCESSES
  pub come : Among w.taken (process % length w.members)
  pub knew : slice_get w.members (process % length w.members) ≡ Some m

-- and of each of its processes the marks, and what the writer keeps of looks and answers, are as they must be
abbrev pub AreMarked : WriterView → Type 0
AreMarked w = (process : ℕ) (m : MemberView) → HasBrought w process m → IsKnown (under_of m) process (process_of m process) w.looks

-- the same of the processes of these members, at their places
abbrev pub HaveMarks : List tokens.Member → WriterView → Type 0
HaveMarks members w =
    (process : ℕ) (token : tokens.Member) → process < PROCESSES → slice_get members (process % length members) ≡ Some token → IsKnown (under_of (member_of token.seat.me.0)) process (process_of (member_of token.seat.me.0) process) w.looks

-- what the last load tells the writer, who knows the same behind it
pub record members_seen (st : Step (Unit {0})) (me : Sat) (found : ℕ) (me' : Sat) : Type 0 where
  pub same : me' ≡ me
  pub known : (w : WriterView) → me.0 ≡ Writer w → AreKnown w
  pub marked : (w : WriterView) → me.0 ≡ Writer w → AreMarked w

-- ---- watchers

-- each token is that of a watcher of the table
abbrev pub AreWatchers : TableId → List watching.Watcher → Type 0
AreWatchers table watchers = (k : ℕ) (token : watching.Watcher) → slice_get watchers k ≡ Some token → IsWatcherSeat table token.holds token.seat

-- the list with this watcher at this place; a list that ends in front of the place is filled up with it
abbrev pub watcher_put : ℕ → WatcherView → List WatcherView → List WatcherView
watcher_put zero v [] = v ∷ []
watcher_put zero v (kept ∷ watchers) = v ∷ watchers
watcher_put (suc k) v [] = v ∷ watcher_put k v []
watcher_put (suc k) v (kept ∷ watchers) = kept ∷ watcher_put k v watchers

-- the writer with what this watcher knows
abbrev pub with_watcher : WatcherView → WriterView → WriterView
with_watcher v w = record w { watchers = watcher_put v.watcher.number v w.watchers }

-- what is known once a watcher's seat is joined to the writer's
abbrev pub taken_with_watcher : View → View → View
taken_with_watcher (Watcher v) (Writer w) = Writer (with_watcher v w)
taken_with_watcher other v = v

-- the same, as the join of two seats asks for it
abbrev pub watcher_taken : View → View → View
watcher_taken v other = taken_with_watcher other v

-- what a load tells: of each watcher that came in, what it had learnt of are the first generations
abbrev pub HaveLearnt : WriterView → Type 0
HaveLearnt w = (k : ℕ) (v : WatcherView) → slice_get w.watchers k ≡ Some v → IsBeginning v.seen w.published

-- what that load tells the writer, who knows the same behind it
pub record watchers_seen (st : Step (Unit {0})) (me : Sat) (found : ℕ) (me' : Sat) : Type 0 where
  pub same : me' ≡ me
  pub learnt : (w : WriterView) → me.0 ≡ Writer w → HaveLearnt w

-- the writer knows what it knew, and what each of these watchers had learnt of are the first generations
pub record HasAllWatchers (watchers : List watching.Watcher) (old new : WriterView) : Type 0 where
  pub same : new ≡ record old { watchers = new.watchers }
  pub learnt : (k : ℕ) (token : watching.Watcher) → slice_get watchers k ≡ Some token → IsBeginning (watcher_of token.seat.me.0).seen new.published

-- ---- words

-- a word of the slot of a process is the one that is known, by its place
pub record IsSlotWord (p : ProcessView) (process place word : ℕ) : Type 0 where
  pub turns : place ≡ slot_place process 0 → word ≡ p.slot.turns
  pub anchors : (anchor known : ℕ) → slice_get p.slot.anchors anchor ≡ Some known → place ≡ slot_place process (anchor + 1) → word ≡ known

-- a word is the root of the newest generation, a word of the slot of a process as its member knew it, or one behind the
-- slots as the writer knows it, by its place
pub record IsLastWord (w : WriterView) (place word : ℕ) : Type 0 where
  pub root : place ≡ ROOT → word ≡ newest_root w.published
  pub slots : (process : ℕ) (m : MemberView) → HasBrought w process m → IsSlotWord (process_of m process) process place word
  pub behind : RETIRE_START ≤ place → word ≡ word_at w.words place

-- what the load of a word tells at the end
pub record word_seen (st : Step (Unit {0})) (me : Sat) (found : ℕ) (me' : Sat) : Type 0 where
  pub same : me' ≡ me
  pub told : (w : WriterView) → me.0 ≡ Writer w → IsLastWord w st.word found

-- the words of the table at its end
pub record AreLastWords (w : WriterView) (words : List ℕ) : Type 0 where
  pub all : length words ≡ TABLE_WORDS
  pub each : (place word : ℕ) → slice_get words place ≡ Some word → IsLastWord w place word

-- What is true of the seat in each token: it is of one table, has no slot, and its view is of the token's sort.
use Rattle.std.specs.Prelude.{◌≡◌, ℕ, ◌+◌, ◌<◌, ◌≤◌, Bool, if◌then◌else◌, [], length, Some, unwrap_or}
use Rattle.atomic_table.specs.Seated.{TableId}
use Rattle.atomic_table.specs.declared.shared.Seat.{Seat}
use Rattle.prgr_core.specs.declared.member.TheConstants.{MOST_MEMBERS}
use Rattle.area_core.specs.Blocks.{RootFits}
use Rattle.shared_words.specs.declared.view.MemberView.{MemberView}
use Rattle.shared_words.specs.declared.view.View.{View}
use Rattle.shared_words.specs.declared.opening.Opening.{Opening}
use Rattle.shared_words.specs.declared.view.NoteView.{NoteView}
use Rattle.shared_words.specs.declared.view.WatcherView.{WatcherView}
use Rattle.shared_words.specs.declared.view.WriterView.{WriterView}
use Rattle.shared_words.specs.declared.view.View.TheVariants.{Writer, Member, Watcher, Note}
use Rattle.shared_words.specs.Views.{published_at, root_word}
use Rattle.shared_words.specs.Opening.{member_begun, watcher_begun, writer_begun}

-- a seat as a token has it, with the view of the table's sort
abbrev pub SeatPlace : Type 0
SeatPlace = Seat (Unit {0}) View

-- what the member of a view knows; that of another view is of no account
abbrev pub member_of : View → MemberView
member_of (Member m) = m
member_of _ = member_begun 0

-- the seat is one of this table, and has no slot
pub record IsSeatOf (table : TableId) (seat : SeatPlace) : Type 0 where
  pub same_table : seat.table_id ≡ table
  pub no_slots : seat.me.1 ≡ []

-- the same seat of the same table, with or without a new view
pub record IsSameSeat (old new : SeatPlace) : Type 0 where
  pub same_table : new.table_id ≡ old.table_id
  pub same_number : new.id ≡ old.id
  pub same_slots : new.me.1 ≡ old.me.1

-- what the writer of a view knows; that of another view is of no account
abbrev pub writer_of : View → WriterView
writer_of (Writer w) = w
writer_of _ = writer_begun 0 0

-- the seat is the writer's, who has handed out the seats of all members and watchers, and this is its newest generation
pub record IsWriterSeat (table : TableId) (opening : Opening) (generation : ℕ) (seat : SeatPlace) : Type 0 where
  pub of_table : IsSeatOf table seat
  pub view : seat.me.0 ≡ Writer (writer_of seat.me.0)
  pub published : length (writer_of seat.me.0).published ≡ generation + 1
  pub made : length (writer_of seat.me.0).members ≡ opening.members
  pub out : opening.members + opening.watchers ≤ (writer_of seat.me.0).handed

-- what the note of a view knows; that of another view is of no account
abbrev pub note_of : View → NoteView
note_of (Note n) = n
note_of _ = record { note = record { process = 0; published = 0 }; seen = [] }

-- the seat is that of a note for this process
pub record IsNoteSeat (table : TableId) (process : ℕ) (seat : SeatPlace) : Type 0 where
  pub of_table : IsSeatOf table seat
  pub view : seat.me.0 ≡ Note (note_of seat.me.0)
  pub process_is : (note_of seat.me.0).note.process ≡ process

-- the seat is that of the member of this number
pub record IsMemberSeat (table : TableId) (number : ℕ) (seat : SeatPlace) : Type 0 where
  pub few : number < MOST_MEMBERS
  pub of_table : IsSeatOf table seat
  pub view : seat.me.0 ≡ Member (member_of seat.me.0)
  pub numbered : (member_of seat.me.0).member.number ≡ number

-- the root word of the generation that the member's record tells
abbrev pub root_held : MemberView → ℕ
root_held m = root_word (published_at m.seen m.member.generation).root m.member.generation

-- this is that root word, and the member has learnt of the generation, whose blocks there are
pub record IsRooted (root : ℕ) (m : MemberView) : Type 0 where
  pub learnt : m.member.generation < length m.seen
  pub fits : RootFits (published_at m.seen m.member.generation).root
  pub held : root ≡ root_held m

-- ---- watchers

-- what the watcher of a view knows; that of another view is of no account
abbrev pub watcher_of : View → WatcherView
watcher_of (Watcher v) = v
watcher_of _ = watcher_begun 0

-- delay counts as one number: 1 for that of even values, 2 for that of odd values, and their sum for both
abbrev pub counts_of : Bool → Bool → ℕ
counts_of even odd = (if even then 1 else 0) + (if odd then 2 else 0)

-- the delay counts that the watcher holds, as one number
abbrev pub counts_held : WatcherView → ℕ
counts_held v = counts_of v.watcher.holds_even v.watcher.holds_odd

-- the seat is that of a watcher, who holds these delay counts
pub record IsWatcherSeat (table : TableId) (holds : ℕ) (seat : SeatPlace) : Type 0 where
  pub of_table : IsSeatOf table seat
  pub view : seat.me.0 ≡ Watcher (watcher_of seat.me.0)
  pub counted : holds ≡ counts_held (watcher_of seat.me.0)

-- the generation that the watcher holds, or 0 where it holds none
abbrev pub generation_held : WatcherView → ℕ
generation_held v = unwrap_or v.watcher.generation 0

-- the root word of that generation
abbrev pub root_watched : WatcherView → ℕ
root_watched v = root_word (published_at v.seen (generation_held v)).root (generation_held v)

-- the watcher holds a generation, of which it has learnt and whose blocks there are, and this is its root word
pub record HoldsRoot (root : ℕ) (v : WatcherView) : Type 0 where
  pub holds : v.watcher.generation ≡ Some (generation_held v)
  pub learnt : generation_held v < length v.seen
  pub fits : RootFits (published_at v.seen (generation_held v)).root
  pub held : root ≡ root_watched v

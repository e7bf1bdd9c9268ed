-- The tokens of members, of watchers, of the writer and of notes as the calls of thread progress see them: each is of the table, and has a
-- view of its own sort.
use Rattle.std.specs.Prelude.{◌≡◌, ℕ}
use Rattle.atomic_table.specs.Seated.{TableId}
use Rattle.shared_words.specs.declared.seats.Member as members
use Rattle.shared_words.specs.declared.seats.Writer as writers
use Rattle.shared_words.specs.declared.seats.Note as notes
use Rattle.shared_words.specs.declared.seats.Watcher as watching
use Rattle.shared_words.specs.declared.view.MemberView.{MemberView}
use Rattle.shared_words.specs.declared.view.WriterView.{WriterView}
use Rattle.shared_words.specs.declared.view.NoteView.{NoteView}
use Rattle.shared_words.specs.declared.view.WatcherView.{WatcherView}
use Rattle.shared_words.specs.declared.opening.Opening.{Opening}
use Rattle.shared_words.specs.Seats.{IsSameSeat, IsMemberSeat, IsWatcherSeat, IsWriterSeat, IsNoteSeat, member_of, watcher_of, writer_of, note_of}

-- what a member knows
abbrev pub view_of : members.Member → MemberView
view_of token = member_of token.seat.me.0

-- the token is that of a member of this table
abbrev pub IsMemberOf : TableId → members.Member → Type 0
IsMemberOf table token = IsMemberSeat table token.number token.seat

-- the same token, with or without a new view; its copy of the anchors is as before
pub record IsSameMember (old new : members.Member) : Type 0 where
  pub seat : IsSameSeat old.seat new.seat
  pub number : new.number ≡ old.number
  pub anchors : new.anchors.items ≡ old.anchors.items

-- what a watcher knows
abbrev pub watched_by : watching.Watcher → WatcherView
watched_by token = watcher_of token.seat.me.0

-- the token is that of a watcher of this table
abbrev pub IsWatcherOf : TableId → watching.Watcher → Type 0
IsWatcherOf table token = IsWatcherSeat table token.holds token.seat

-- what the writer knows
abbrev pub written_by : writers.Writer → WriterView
written_by token = writer_of token.seat.me.0

-- the token is that of the writer of this table, all of whose members and watchers have their tokens
abbrev pub IsWriterOf : TableId → Opening → writers.Writer → Type 0
IsWriterOf table opening token = IsWriterSeat table opening token.generation token.seat

-- the same token, with or without a new view
pub record IsSameWriter (old new : writers.Writer) : Type 0 where
  pub seat : IsSameSeat old.seat new.seat
  pub generation : new.generation ≡ old.generation

-- what a note knows
abbrev pub noted_by : notes.Note → NoteView
noted_by token = note_of token.seat.me.0

-- the token is that of a note of this table, made for this process
pub record IsNoteOf (table : TableId) (number : ℕ) (token : notes.Note) : Type 0 where
  pub process : token.process ≡ number
  pub seat : IsNoteSeat table token.process token.seat

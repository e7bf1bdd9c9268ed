-- Notes: what a process that is spawned takes along. The writer splits a note for a process, and the member whose process
-- it is joins it: that member has then learnt of at least the generations that were published at the spawn.
use Rattle.std.specs.Prelude.{◌≢◌, ℕ, ◌+◌, ◌<◌, ◌≤◌, nat_lt, if◌then◌else◌, List, [], ◌∷◌, ◌++◌, length}
use Rattle.area_core.specs.declared.map.TheConstants.{PROCESSES}
use Rattle.area_core.specs.declared.table.Published.{Published}
use Rattle.area_core.specs.Blocks.{Among}
use Rattle.shared_words.specs.declared.opening.Opening.{Opening}
use Rattle.shared_words.specs.declared.view.NoteNumber.{NoteNumber}
use Rattle.shared_words.specs.declared.view.NoteView.{NoteView}
use Rattle.shared_words.specs.declared.view.MemberView.{MemberView}
use Rattle.shared_words.specs.declared.view.WriterView.{WriterView}
use Rattle.shared_words.specs.declared.view.View.{View}
use Rattle.shared_words.specs.declared.view.View.TheVariants.{Writer, Member, Note}
use Rattle.shared_words.specs.Views.{newest_number}

-- ---- the split

-- a note may be made for the process: it has a slot, and no note was made for it yet
pub record MaySplitNote (w : WriterView) (process : ℕ) : Type 0 where
  pub below : process < PROCESSES
  pub first : (note : NoteNumber) → Among w.notes note → note.process ≢ process

-- the number that is kept for it
abbrev pub note_number : ℕ → WriterView → NoteNumber
note_number process w = record { process = process; published = newest_number w.published }

-- the writer keeps it
abbrev pub with_note : ℕ → WriterView → WriterView
with_note process w = record w { notes = w.notes ++ note_number process w ∷ [] }

-- the note has learnt of all that is published
abbrev pub note_begun : ℕ → WriterView → NoteView
note_begun process w = record { note = note_number process w; seen = w.published }

-- the view is the writer's, who has handed out all other seats, and may make a note for the process
pub record SplitsNote (opening : Opening) (process : ℕ) (w : WriterView) : Type 0 where
  pub out : opening.members + opening.watchers ≤ w.handed
  pub may : MaySplitNote w process

-- the same of any view: the writer's alone may make a note
abbrev pub IsSplittingNote : Opening → ℕ → View → Type 0
IsSplittingNote opening process (Writer w) = SplitsNote opening process w
IsSplittingNote opening process v = ⊥

-- what the writer knows after the split
abbrev pub note_left : ℕ → View → View
note_left process (Writer w) = Writer (with_note process w)
note_left process v = v

-- what the note knows
abbrev pub note_right : ℕ → View → View
note_right process (Writer w) = Note (note_begun process w)
note_right process v = v

-- ---- the join

-- the longer one of two beginnings of what was published
abbrev pub longer : List Published → List Published → List Published
longer mine other = if nat_lt (length mine) (length other) then other else mine

-- the member has learnt of what the note had, and keeps its number
abbrev pub note_joined : NoteView → MemberView → MemberView
note_joined n m = record m { seen = longer m.seen n.seen; notes = m.notes ++ n.note ∷ [] }

-- what is known once two seats are joined
abbrev pub joined_with : View → View → View
joined_with (Note n) (Member m) = Member (note_joined n m)
joined_with other v = v

-- the same, as the join of two seats asks for it: what was known first, then of the seat that comes in
abbrev pub note_join : View → View → View
note_join v other = joined_with other v

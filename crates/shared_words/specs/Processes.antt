-- What a member knows of its processes: their slots, marks and notes, and what a turn of theirs is under.
-- Source: Erlang/OTP, the manual pages of the module code (check_process_code, purge) and of persistent_term; the words
-- are this project's own.
use Rattle.std.specs.Prelude.{◌≡◌, ℕ, ◌+◌, ◌*◌, ◌<◌, ◌==◌, if◌then◌else◌, List, [], ◌∷◌, Option, Some, None, length}
use Rattle.prgr_core.specs.Members as members
use Rattle.area_core.specs.declared.map.TheConstants.{PROCESSES, ANCHORS}
use Rattle.area_core.specs.declared.table.Published.{Published}
use Rattle.area_core.specs.Map.{word_at}
use Rattle.area_core.specs.Generations.{anchor_names_area}
use Rattle.marks.specs.declared.mark.ProcessView.{ProcessView}
use Rattle.marks.specs.Names.{HasAnchor, IsAtRest}
use Rattle.marks.specs.Kept.{Under}
use Rattle.marks.specs.Steps.{opening_process, holding}
use Rattle.shared_words.specs.declared.view.NoteNumber.{NoteNumber}
use Rattle.shared_words.specs.declared.view.ProcessSlot.{ProcessSlot}
use Rattle.shared_words.specs.declared.view.MemberView.{MemberView}
use Rattle.shared_words.specs.Views.{published_at}

-- the slot of a process that names nothing, and has done no turn
abbrev pub opening_slot : ℕ → ProcessSlot
opening_slot process = record { process = process; slot = opening_process.slot; marks = [] }

-- the slot of a process, as it was stored last
abbrev pub slot_in : List ProcessSlot → ℕ → ProcessSlot
slot_in [] process = opening_slot process
slot_in (s ∷ slots) process = if s.process == process then s else slot_in slots process

-- what the note of a process carries, if it has come
abbrev pub note_in : List NoteNumber → ℕ → Option ℕ
note_in [] process = None
note_in (n ∷ notes) process = if n.process == process then Some n.published else note_in notes process

-- what the member knows of a process
abbrev pub process_of : MemberView → ℕ → ProcessView
process_of m process = record { slot = (slot_in m.slots process).slot; marks = (slot_in m.slots process).marks; note = note_in m.notes process }

-- what its turns are under
abbrev pub under_of : MemberView → Under
under_of m = holding (members.is_value m.member.word) m.member.generation (published_at m.seen m.member.generation)

-- what was published that the member holds
abbrev pub held_by_view : MemberView → Published
held_by_view m = published_at m.seen m.member.generation

-- the slot of a process of the member names the area
abbrev pub NamesArea : MemberView → ℕ → Type 0
NamesArea m serial = (process : ℕ) × HasAnchor anchor_names_area (process_of m process).slot.anchors serial

-- no turn of a process is under way
abbrev pub AreAtRest : MemberView → Type 0
AreAtRest m = (process : ℕ) → IsAtRest (process_of m process)

-- these are the anchors of all processes in a row, as the member knows them
pub record AreCopied (anchors : List ℕ) (m : MemberView) : Type 0 where
  pub all : length anchors ≡ PROCESSES * ANCHORS
  pub wide : (process : ℕ) → process < PROCESSES → length (process_of m process).slot.anchors ≡ ANCHORS
  pub each : (process place : ℕ) → process < PROCESSES → place < ANCHORS → word_at anchors (process * ANCHORS + place) ≡ word_at (process_of m process).slot.anchors place

-- What the turns of a lap leave of a scheduler's processes.
-- Source: Erlang/OTP erts internal documentation, CodeLoading: a turn sees one state of the code. Laps are this project's own.
use Rattle.std.specs.Prelude.{◌≡◌, ℕ, List, ◌∷◌, slice_get, Option, Some, None, IsSome}
use Rattle.term_core.specs.declared.atom.Mfa.{Mfa}
use Rattle.shared_words.specs.declared.opening.Opening.{Opening}
use Rattle.shared_words.specs.declared.view.MemberView.{MemberView}
use Rattle.shared_words.specs.Processes.{process_of}
use Rattle.machine_core.specs.Process.{names_of}
use Rattle.run_steps.specs.MadeTurns.{turned_by}
use Rattle.run_steps.specs.Stands.{Stand}
use Rattle.word_view.specs.Anchored.{holds_by}
use Rattle.run_law.specs.Newcomers.{SpawnedProcess}
use Rattle.word_lap.specs.declared.process_run.ProcessRun.{ProcessRun}
use Rattle.word_lap.specs.Reading.{stand_under}
use Rattle.word_lap.specs.Schedulers.{KeepsProcesses}
use Rattle.word_lap.specs.Turning.{HadItsTurn, IsReady, reads_held}

-- a process that goes on may have a turn, if one stands at this place
abbrev pub IsReadyAt : List Mfa → Opening → MemberView → Option ProcessRun → Type 0
IsReadyAt functions opening m None = Unit {0}
IsReadyAt functions opening m (Some run) = run.fin ≡ None → IsReady functions opening m run

-- none stands at this place that goes on
abbrev pub IsOverAt : Option ProcessRun → Type 0
IsOverAt None = Unit {0}
IsOverAt (Some run) = IsSome run.fin

-- what stands at a place goes on no more and is as it was, or it went on and had a turn
pub data HadTurnAt (functions : List Mfa) (opening : Opening) (old new : MemberView) (before after : Option ProcessRun) : Type 0 where
  rested : IsOverAt before → new ≡ old → after ≡ before → HadTurnAt functions opening old new before after
  turned : (run left : ProcessRun) → before ≡ Some run → run.fin ≡ None → after ≡ Some left → HadItsTurn functions opening old new run left
      → HadTurnAt functions opening old new before after

-- one mark joined those of a process, behind all others: of this generation, and of what the process names, which stands so
pub record HasOneMark (generation : ℕ) (old new : MemberView) (p : ℕ) (stands : Stand) : Type 0 where
  pub anchors : List ℕ
  pub joined : (process_of new p).marks ≡ record { generation = generation; anchors = anchors } ∷ (process_of old p).marks
  pub names_it : holds_by anchors ≡ names_of stands.process

-- the same over what the member holds throughout a lap: a process that went on stands where one turn under that generation has it, and has the mark of that
-- turn; one that has ended, or a place where none stands, has no mark more
pub data WentOnAt (functions : List Mfa) (m new : MemberView) (p : ℕ) (before after : Option ProcessRun) : Type 0 where
  stayed : IsOverAt before → after ≡ before → (process_of new p).marks ≡ (process_of m p).marks → WentOnAt functions m new p before after
  went_on : (run left : ProcessRun) → before ≡ Some run → run.fin ≡ None → after ≡ Some left
      → stand_under m left ≡ turned_by (reads_held functions m) m.member.generation (stand_under m run) → HasOneMark m.member.generation m new p (stand_under m left)
      → WentOnAt functions m new p before after

-- so it is at each place: no process that goes on is left out, and none has two turns
abbrev pub HaveGoneOn : List Mfa → MemberView → MemberView → List (Option ProcessRun) → List (Option ProcessRun) → Type 0
HaveGoneOn functions m new before after =
    (p : ℕ) (place : Option ProcessRun) → slice_get before p ≡ Some place
    → (left : Option ProcessRun) × ((slice_get after p ≡ Some left) × WentOnAt functions m new p place left)

-- the member has learnt of the same generations and notes as before, and holds the same generation
pub record HoldsAsBefore (old new : MemberView) : Type 0 where
  pub seen : new.seen ≡ old.seen
  pub notes : new.notes ≡ old.notes
  pub number : new.member.number ≡ old.member.number
  pub generation : new.member.generation ≡ old.member.generation

-- a scheduler keeps its processes, for some list of what was taken
pub record SomeKept (functions : List Mfa) (opening : Opening) (m : MemberView) (processes : List (Option ProcessRun)) : Type 0 where
  pub taken : List SpawnedProcess
  pub kept : KeepsProcesses functions opening m taken processes

-- turns keep what a scheduler knows of its processes
abbrev pub HadTurns : List Mfa → Opening → MemberView → MemberView → List (Option ProcessRun) → List (Option ProcessRun) → Type 0
HadTurns functions opening old new before after =
    (taken : List SpawnedProcess) → KeepsProcesses functions opening old taken before → KeepsProcesses functions opening new taken after

-- Whether a process that comes belongs to a scheduler, what taking it in leaves of the others, and that none has a turn meanwhile.
-- Source: this project's profile: processes are dealt out to the schedulers in turn, each to its place by its number.
use Rattle.std.specs.Prelude.{◌≡◌, ◌≢◌, ℕ, ◌<◌, ◌%◌, List, [], ◌∷◌, ◌++◌, slice_get, Option, Some, None}
use Rattle.term_core.specs.declared.atom.Mfa.{Mfa}
use Rattle.area_core.specs.declared.map.TheConstants.{PROCESSES}
use Rattle.shared_words.specs.declared.opening.Opening.{Opening}
use Rattle.shared_words.specs.declared.view.MemberView.{MemberView}
use Rattle.shared_words.specs.Processes.{note_in}
use Rattle.shared_words.specs.Rule.{IsBeginning}
use Rattle.run_law.specs.Newcomers.{SpawnedProcess}
use Rattle.word_lap.specs.declared.process_run.ProcessRun.{ProcessRun}
use Rattle.word_lap.specs.Schedulers.{KeepsProcesses}

-- the process is one of this member's, of so many, and its place is free
pub record IsFreeFor (number member members : ℕ) (processes : List (Option ProcessRun)) : Type 0 where
  pub below : number < PROCESSES
  pub own : number % members ≡ member
  pub free : slice_get processes number ≡ Some None

-- it is another member's, there is no such place, or one stands there
abbrev pub BelongsNot : ℕ → ℕ → ℕ → List (Option ProcessRun) → Type 0
BelongsNot number member members processes = (p : ℕ) → slice_get processes p ≡ Some None → number ≡ p → p % members ≢ member

-- what a scheduler keeps of its processes it keeps once one more was taken, whatever had been taken
abbrev pub KeepsOneMore : List Mfa → Opening → MemberView → MemberView → SpawnedProcess → List (Option ProcessRun) → List (Option ProcessRun) → Type 0
KeepsOneMore functions opening old new spawn before after =
    (taken : List SpawnedProcess) → KeepsProcesses functions opening old taken before → KeepsProcesses functions opening new (taken ++ spawn ∷ []) after

-- so it does once all this was taken
abbrev pub KeepsWhatCame : List Mfa → Opening → MemberView → MemberView → List SpawnedProcess → List SpawnedProcess → List (Option ProcessRun) → List (Option ProcessRun) → Type 0
KeepsWhatCame functions opening old new had taken before after =
    KeepsProcesses functions opening old had before → KeepsProcesses functions opening new taken after

-- the process has had no turn
pub record IsNew (run : ProcessRun) : Type 0 where
  pub turns : run.process.turns ≡ 0
  pub frames : run.process.frames ≡ []
  pub spans : run.spans ≡ []
  pub going : run.fin ≡ None

-- a place is as it was, or it was free and a process came that has had no turn
pub data CameAt (before after : Option ProcessRun) : Type 0 where
  as_before : after ≡ before → CameAt before after
  came_here : (run : ProcessRun) → before ≡ None → after ≡ Some run → IsNew run → CameAt before after

-- so it is at each place
abbrev pub OnlyCame : List (Option ProcessRun) → List (Option ProcessRun) → Type 0
OnlyCame before after =
    (p : ℕ) (place : Option ProcessRun) → slice_get before p ≡ Some place → (now : Option ProcessRun) × ((slice_get after p ≡ Some now) × CameAt place now)

-- the same member stored no slot: no process had a turn. What it had learnt of, of generations and of notes, it still has
pub record TurnsNone (old new : MemberView) : Type 0 where
  pub slots : new.slots ≡ old.slots
  pub learnt : IsBeginning old.seen new.seen
  pub notes : (p published : ℕ) → note_in old.notes p ≡ Some published → note_in new.notes p ≡ Some published
  pub number : new.member.number ≡ old.member.number

-- processes came, and none had a turn
pub record HaveCome (old new : MemberView) (before after : List (Option ProcessRun)) : Type 0 where
  pub none : TurnsNone old new
  pub places : OnlyCame before after

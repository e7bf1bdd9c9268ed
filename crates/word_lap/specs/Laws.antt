-- The laws on what a scheduler keeps of its processes, from its start to the end of the run.
-- Source: this project's profile. What is kept is over what the scheduler's own member has learnt, so the laws are on plain records.
use Rattle.std.specs.Prelude.{◌≡◌, ◌≢◌, ℕ, ◌<◌, ◌%◌, List, [], length, slice_get, Option, Some, None, IsSome}
use Rattle.atomic_table.specs.Seated.{TableId}
use Rattle.prgr_core.specs.declared.member.TheConstants.{MOST_MEMBERS}
use Rattle.term_core.specs.declared.atom.Mfa.{Mfa}
use Rattle.area_core.specs.declared.map.TheConstants.{PROCESSES}
use Rattle.area_core.specs.Blocks.{Among}
use Rattle.shared_words.specs.declared.opening.Opening.{Opening}
use Rattle.shared_words.specs.declared.seats.Member as tokens
use Rattle.shared_words.specs.declared.view.MemberView.{MemberView}
use Rattle.shared_words.specs.Making.{IsMemberBegun}
use Rattle.progress_words.specs.Reports.{IsAwake, HoldsReported}
use Rattle.anchors.specs.Holds.{view_of}
use Rattle.mod_core.specs.declared.code.Module.{Module}
use Rattle.script_core.specs.Processes.{SpawnLine}
use Rattle.run_log.specs.declared.logs.Entry.{Entry}
use Rattle.run_log.specs.declared.logs.ProcessLog.{ProcessLog}
use Rattle.run_steps.specs.Stands.{end_of, phase_of}
use Rattle.code_law.specs.Served.{IsServed}
use Rattle.run_law.specs.Ended.{HasNotRun, HasRun}
use Rattle.run_law.specs.Laws.{AreLearnt}
use Rattle.run_law.specs.Newcomers.{IsTaken, SpawnedProcess}
use Rattle.word_lap.specs.declared.process_run.ProcessRun.{ProcessRun}
use Rattle.word_lap.specs.Laps.{HasTried}
use Rattle.word_lap.specs.Schedulers.{IsBetweenTurns, IsToken, KeepsProcesses}

-- ---- the start

-- there is a place for each process, and none stands there
pub record AreAllFree (processes : List (Option ProcessRun)) : Type 0 where
  pub all : length processes ≡ PROCESSES
  pub free : (p : ℕ) (place : Option ProcessRun) → slice_get processes p ≡ Some place → place ≡ None

-- with the token of a member that has just begun, a scheduler keeps its empty places
abbrev pub SchedulersBegin : Type 0
SchedulersBegin =
    (functions : List Mfa) (opening : Opening) (table : TableId) (number : ℕ) (token : tokens.Member) (processes : List (Option ProcessRun))
    → number < MOST_MEMBERS → IsMemberBegun table number token → AreAllFree processes
    → IsToken table token × (IsBetweenTurns (view_of token) × KeepsProcesses functions opening (view_of token) [] processes)

-- ---- between the turns

-- a report keeps what a scheduler knows of its processes
abbrev pub ReportsKeepProcesses : Type 0
ReportsKeepProcesses =
    (functions : List Mfa) (opening : Opening) (old new : MemberView) (generation : ℕ) (taken : List SpawnedProcess) (processes : List (Option ProcessRun))
    → old.member.generation < length old.seen → IsAwake new → HoldsReported (IsServed functions) old new generation
    → KeepsProcesses functions opening old taken processes → KeepsProcesses functions opening new taken processes

-- so does an attempt to lead
abbrev pub AttemptsKeepProcesses : Type 0
AttemptsKeepProcesses =
    (functions : List Mfa) (opening : Opening) (old new : MemberView) (taken : List SpawnedProcess) (processes : List (Option ProcessRun))
    → HasTried old new → KeepsProcesses functions opening old taken processes → KeepsProcesses functions opening new taken processes

-- ---- the end

-- the member has learnt of the same, and of the same processes, as when it waits
pub record KnowsTheSame (old new : MemberView) : Type 0 where
  pub seen : new.seen ≡ old.seen
  pub notes : new.notes ≡ old.notes
  pub slots : new.slots ≡ old.slots

-- each process that stands at a place has ended
abbrev pub HaveAllEnded : List (Option ProcessRun) → Type 0
HaveAllEnded processes = (p : ℕ) (run : ProcessRun) → slice_get processes p ≡ Some (Some run) → IsSome run.fin

-- the log of a process that has ended
abbrev pub log_of_run : ProcessRun → ProcessLog
log_of_run run = record { target = run.process.target; args = run.process.args; spans = run.spans; fin = end_of (phase_of run.fin) }

-- where a member has learnt of the generations of a journal, the process of a spawn line that was taken, and is one of the member's, stands at its place and
-- has run as its log tells
abbrev pub TakenHaveRun : Type 0
TakenHaveRun =
    (functions : List Mfa) (opening : Opening) (m last : MemberView) (taken : List SpawnedProcess) (processes : List (Option ProcessRun))
    (texts : List Module) (journal : List Entry) (number : ℕ) (line : SpawnLine)
    → KeepsProcesses functions opening m taken processes → HaveAllEnded processes → KnowsTheSame m last → AreLearnt functions texts journal m.seen
    → number < PROCESSES → number % opening.members ≡ m.member.number → IsTaken journal number line taken
    → (run : ProcessRun) × ((slice_get processes number ≡ Some (Some run)) × HasRun functions journal last number line (log_of_run run))

-- where nothing was taken under a number, no process of it has run
abbrev pub OthersHaveNotRun : Type 0
OthersHaveNotRun =
    (functions : List Mfa) (opening : Opening) (m last : MemberView) (taken : List SpawnedProcess) (processes : List (Option ProcessRun)) (number : ℕ)
    → KeepsProcesses functions opening m taken processes → KnowsTheSame m last
    → number < PROCESSES → ((spawn : SpawnedProcess) → Among taken spawn → spawn.number ≢ number)
    → HasNotRun last number

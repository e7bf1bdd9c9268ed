-- What a run over the shared words answers: its log, and the table as it was closed, which has a mark for each turn of the log.
-- Source: this project's profile. The log is read by the journal's states; the table keeps what threads stored.
use Rattle.std.specs.Prelude.{◌≡◌, ℕ, ◌<◌, ◌≤◌, List, length, reverse, slice_get, Some, All}
use Rattle.std.specs.List.{AllByRecursion}
use Rattle.term_core.specs.declared.atom.Mfa.{Mfa}
use Rattle.shared_words.specs.declared.view.MemberView.{MemberView}
use Rattle.shared_words.specs.declared.view.WriterView.{WriterView}
use Rattle.shared_words.specs.Processes.{process_of}
use Rattle.change_laws.specs.Names.{IsNumbered}
use Rattle.script_core.specs.declared.script.Script.{Script}
use Rattle.run_log.specs.declared.logs.ProcessLog.{ProcessLog}
use Rattle.run_log.specs.declared.logs.RunLog.{RunLog}
use Rattle.run_log.specs.Journal.{published_count}
use Rattle.run_log.specs.Legal.{Legal, LoadersInOrder, NothingRetired, SnapshotsTrue, turns_in_log}
use Rattle.run_log.specs.WholeSpans.{AreWhole}
use Rattle.run_law.specs.Ended.{HaveCome, HaveRun, IsMemberOf}
use Rattle.run_law.specs.Published.{ArePublished, IsJournal}
use Rattle.run_law.specs.Reading.{MarksTell}

-- the threads of a run have ended and its table is closed: the journal's generations are published, the members came in, and the processes have run
pub record IsOver (names : List Mfa) (s : Script) (log : RunLog) (w : WriterView) : Type 0 where
  pub journal : IsJournal names s.modules log.journal
  pub published : ArePublished names s.modules log.journal w.published
  pub come : HaveCome w
  pub run : HaveRun names s log w

-- the closed table has published the generations of the journal, by names that have a number each, and has of each process of the log one mark for each
-- turn, in order, of its generation and with its names: there are members, and each process is one of a member's
pub record Closes (names : List Mfa) (s : Script) (log : RunLog) (w : WriterView) : Type 0 where
  pub numbered : All (IsNumbered names) s.modules
  pub staffed : 0 < length w.members
  pub published : ArePublished names s.modules log.journal w.published
  pub marks : (number : ℕ) (process : ProcessLog) (m : MemberView) → slice_get log.processes number ≡ Some process → IsMemberOf w number m
      → MarksTell (reverse (process_of m number).marks) (turns_in_log s log number process)

-- what a log has beside its processes and observers: each loader made its commands, and no area waits for its release
pub record HasItsRest (s : Script) (log : RunLog) : Type 0 where
  pub loaders_in_order : LoadersInOrder s log.journal
  pub nothing_retired : NothingRetired s log

-- what a log tells of its observers is true, and it can be shown: there is one for each line of the script, and each snapshot is of a generation that was
-- published
pub record HasItsSnapshots (s : Script) (log : RunLog) : Type 0 where
  pub snapshots_true : SnapshotsTrue s log
  pub observers : length log.observers ≡ length s.observers
  pub snapshots : AllByRecursion (λ shots. AllByRecursion (λ shot. shot.generation ≤ published_count log.journal) shots) log.observers

-- so is what a run answers: the log is a history of one code server, and can be shown as it is
pub record IsHistory (names : List Mfa) (s : Script) (log : RunLog) (w : WriterView) : Type 0 where
  pub legal : Legal s log
  pub whole : All (λ process. AreWhole process.spans) log.processes
  pub closes : Closes names s log w

-- The laws on the end of a run over shared words.
-- Source: this project's profile, as the sequential reading of erts internal documentation, CodeLoading.
use Rattle.std.specs.Prelude.{◌≡◌, ℕ, ◌<◌, ◌≤◌, ◌%◌, List, length, slice_get, Some, All}
use Rattle.std.specs.List.{AllByRecursion}
use Rattle.atomic_table.specs.Seated.{TableId}
use Rattle.term_core.specs.declared.atom.Mfa.{Mfa}
use Rattle.mod_core.specs.declared.code.Module.{Module}
use Rattle.area_core.specs.declared.table.Published.{Published}
use Rattle.shared_words.specs.declared.seats.Member as tokens
use Rattle.shared_words.specs.declared.view.WriterView.{WriterView}
use Rattle.shared_words.specs.Closing.{AreAllMembers, HasAllMembers, HaveMarks}
use Rattle.shared_words.specs.Rule.{IsBeginning}
use Rattle.server_core.specs.Generations.{AreNumbered, generation_of}
use Rattle.server_core.specs.ServerState.{IsSound, empty_state}
use Rattle.change_laws.specs.Names.{IsNumbered}
use Rattle.machine_core.specs.GenerationReads.{reads_in}
use Rattle.machine_core.specs.ServerReads.{reads_of}
use Rattle.script_core.specs.declared.script.Script.{Script}
use Rattle.script_core.specs.Processes.{SpawnLine, spawns_of}
use Rattle.script_core.specs.Sound.{IsScript}
use Rattle.run_log.specs.declared.logs.Entry.{Entry}
use Rattle.run_log.specs.declared.logs.RunLog.{RunLog}
use Rattle.run_log.specs.Journal.{published_count}
use Rattle.run_log.specs.Legal.{HasTurns, LingersTold, LogsMatch, PurgedUnnamed, ReleasedUnnamed, Replays, SpawnBeforeTurns, TurnsFollow, commands_in, commands_of}
use Rattle.run_log.specs.WholeSpans.{AreWhole}
use Rattle.run_steps.specs.MadeTurns.{AreAlsoMade, ArePlacedOver, TurnsAlike, TurnsMade, marks_made}
use Rattle.run_steps.specs.Stands.{Stand}
use Rattle.run_law.specs.Answers.{AreAnswersKept}
use Rattle.run_law.specs.Ended.{AreBeginnings, HaveCome}
use Rattle.run_law.specs.Ends.{Closes, HasItsRest, HasItsSnapshots, IsHistory, IsOver}
use Rattle.run_law.specs.Newcomers.{AreAllDone, ArePosted, AreTaken, IsTaken, SpawnedProcess}
use Rattle.run_law.specs.Observing.{HaveWatched}
use Rattle.run_law.specs.Published.{ArePublished, IsJournal, states_of}
use Rattle.run_law.specs.Reading.{reads_under}

-- ---- the journal's states

-- each state of a journal is sound, and each name that its current instances export has a number
abbrev pub JournalsAreSound : Type 0
JournalsAreSound =
    (names : List Mfa) (texts : List Module) (journal : List Entry) (k : ℕ) → IsJournal names texts journal
    → IsSound (states_of texts journal k) × AreNumbered names (states_of texts journal k)

-- where the entries of each loader are the commands of a script that a text says, in order, the journal is one of texts that can be loaded
abbrev pub JournalsAreSaid : Type 0
JournalsAreSaid =
    (names : List Mfa) (s : Script) (journal : List Entry) → IsScript s → All (IsNumbered names) s.modules → Replays s.modules empty_state journal
    → ((loader : ℕ) → commands_in loader journal ≡ commands_of s loader)
    → IsJournal names s.modules journal

-- ---- what was learnt, and the journal

-- what was learnt of are the first generations of a journal
pub record AreLearnt (names : List Mfa) (texts : List Module) (journal : List Entry) (seen : List Published) : Type 0 where
  pub replayed : IsJournal names texts journal
  pub published : List Published
  pub beginning : IsBeginning seen published
  pub are : ArePublished names texts journal published

-- what a turn reads of each is what it reads of the generation of the journal's state
abbrev pub ReadsAreThoseOfStates : Type 0
ReadsAreThoseOfStates =
    (names : List Mfa) (texts : List Module) (journal : List Entry) (seen : List Published) (g : ℕ)
    → AreLearnt names texts journal seen → g < length seen
    → reads_under names seen g ≡ reads_in names (generation_of names (states_of texts journal g))

-- so a turn by it, of a process at places, is the turn under that state
abbrev pub TurnsAreThoseOfStates : Type 0
TurnsAreThoseOfStates =
    (names : List Mfa) (texts : List Module) (journal : List Entry) (seen : List Published) (g : ℕ)
    → AreLearnt names texts journal seen → g < length seen → TurnsAlike (reads_under names seen g) (reads_of (states_of texts journal g))

-- and turns that were made one by one by what was learnt were made under the states
abbrev pub MadeByStates : Type 0
MadeByStates =
    (names : List Mfa) (texts : List Module) (journal : List Entry) (seen : List Published) (generations : List ℕ) (x y : Stand)
    → AreLearnt names texts journal seen
    → AllByRecursion (λ g. g < length seen) generations → ArePlacedOver (reads_under names seen) generations x → TurnsMade (reads_under names seen) generations x y
    → AreAlsoMade (λ g. reads_of (states_of texts journal g)) generations (marks_made (reads_under names seen) generations x) x y

-- ---- the closed table

-- once the seats of all members came in, what close tells of their tokens is known of the members of the writer's view
abbrev pub TablesTell : Type 0
TablesTell =
    (table : TableId) (members : List tokens.Member) (old w : WriterView) → 0 < length old.members → AreAllMembers table (length old.members) members → HasAllMembers members old w
    → HaveMarks members w
    → AreBeginnings members w → HaveCome w

-- ---- newcomers

-- once all commands are done, and a home has taken what was posted to it, each process of the script that belongs there was taken, and nothing else
-- under its number
abbrev pub SpawnsAreTaken : Type 0
SpawnsAreTaken =
    (s : Script) (done : ℕ → ℕ) (journal : List Entry) (homes home : ℕ) (put taken : List SpawnedProcess)
    → AreAllDone s done → ArePosted s done journal homes home put → AreTaken put taken
    → (number : ℕ) (line : SpawnLine) → slice_get (spawns_of 0 s.loaders) number ≡ Some line → number % homes ≡ home → IsTaken journal number line taken

-- ---- the log

-- a law of each run over shared words whose threads have ended
abbrev pub OfEachRun : (List Mfa → Script → RunLog → WriterView → Type 0) → Type 0
OfEachRun law = (names : List Mfa) (s : Script) (log : RunLog) (w : WriterView) → IsOver names s log w → law names s log w

-- and of each in which what the journal tells of processes was kept in the words
abbrev pub OfEachAnswered : (Script → RunLog → Type 0) → Type 0
OfEachAnswered law = OfEachRun (λ names s log w. AreAnswersKept s.modules log.journal w.looks → law s log)

-- the first turn of each process is under a generation that its spawn had seen, or a later one
abbrev pub SpawnsComeFirst : Type 0
SpawnsComeFirst = OfEachRun (λ names s log w. SpawnBeforeTurns s log)

-- the turns of each process follow one after the other, each under one generation
abbrev pub TurnsAreFollowed : Type 0
TurnsAreFollowed = OfEachRun (λ names s log w. TurnsFollow s log)

-- an area was released where no process named it
abbrev pub ReleasesAreUnnamed : Type 0
ReleasesAreUnnamed = OfEachAnswered ReleasedUnnamed

-- a process of which a soft purge told that it lingers did so
abbrev pub LingeringIsTold : Type 0
LingeringIsTold = OfEachAnswered LingersTold

-- an instance was dropped where no process stood in it, and each purge told whether it killed one
abbrev pub PurgesAreUnnamed : Type 0
PurgesAreUnnamed = OfEachAnswered PurgedUnnamed

-- no process of the script is missing, each has had a turn, none under a generation that was not published, and turns in a row under one generation are
-- one span
pub record HasAllTurns (s : Script) (log : RunLog) : Type 0 where
  pub processes : LogsMatch (spawns_of 0 s.loaders) log.processes
  pub turns : All HasTurns log.processes
  pub generations : All (λ process. All (λ span. span.generation ≤ published_count log.journal) process.spans) log.processes
  pub whole : All (λ process. AreWhole process.spans) log.processes

-- so it is with each log
abbrev pub TurnsAreAll : Type 0
TurnsAreAll = OfEachRun (λ names s log w. HasAllTurns s log)

-- the closed table has a mark for each turn of the log
abbrev pub TablesClose : Type 0
TablesClose = OfEachRun Closes

-- the snapshots of the log are of generations that were published, and true of the journal's states
abbrev pub SnapshotsAreTrue : Type 0
SnapshotsAreTrue = OfEachRun (λ names s log w. HaveWatched names s log w.published → HasItsSnapshots s log)

-- with what the journal and the observers tell, the log is a history of one code server, and can be shown as it is
abbrev pub RunsAreHistories : Type 0
RunsAreHistories = OfEachRun (λ names s log w. AreAnswersKept s.modules log.journal w.looks → HaveWatched names s log w.published → HasItsRest s log → IsHistory names s log w)

-- The log of a run over shared words is a history of one code server, and its table has the turns of the log.
use Rattle.std.proofs.Common.{List}
use Rattle.term_core.specs.declared.atom.Mfa.{Mfa}
use Rattle.shared_words.specs.declared.view.WriterView.{WriterView}
use Rattle.script_core.specs.declared.script.Script.{Script}
use Rattle.run_log.specs.declared.logs.RunLog.{RunLog}
use Rattle.run_log.specs.Legal.{SpawnBeforeTurns, TurnsFollow}
use Rattle.run_law.specs.Answers.{AreAnswersKept}
use Rattle.run_law.specs.Ends.{Closes, HasItsRest, IsHistory, IsOver}
use Rattle.run_law.specs.Laws.{HasAllTurns}
use Rattle.run_law.specs.Observing.{HaveWatched}
use Rattle.run_law.proofs.Clauses.{lingering_told, purged_unnamed, released_unnamed}
use Rattle.run_law.proofs.Processes.{all_match, all_published, all_turned, all_whole, line_of_process, member_of_process, told}
use Rattle.run_law.proofs.Snapshots.{has_snapshots}

module _ (names : List Mfa) (s : Script) (log : RunLog) (w : WriterView) (over : IsOver names s log w) where
  pub spawn_first : SpawnBeforeTurns s log
  spawn_first number line process line_is at =
      let m = member_of_process names s log w over number in
      (told names s log w over number line process m.0 line_is at m.1).started

  pub turns_follow : TurnsFollow s log
  turns_follow number process at =
      let m = member_of_process names s log w over number in
      let line = line_of_process names s log w over number process at in
      (told names s log w over number line.0 process m.0 line.1 at m.1).follow

  pub all_turns : HasAllTurns s log
  all_turns = record {
    processes = all_match names s log w over;
    turns = all_turned names s log w over;
    generations = all_published names s log w over;
    whole = all_whole names s log w over;
  }

  pub table_closes : Closes names s log w
  table_closes = record {
    numbered = over.journal.numbered;
    staffed = over.come.staffed;
    published = over.published;
    marks = λ number process m at own.
        let line = line_of_process names s log w over number process at in
        (told names s log w over number line.0 process m line.1 at own).marks;
  }

  pub run_history : AreAnswersKept s.modules log.journal w.looks → HaveWatched names s log w.published → HasItsRest s log → IsHistory names s log w
  run_history answered watched rest =
      let shots = has_snapshots names s log w over watched in
      record {
        legal = record {
          replays = over.journal.replays;
          loaders_in_order = rest.loaders_in_order;
          spawn_before_turns = spawn_first;
          turns_follow = turns_follow;
          released_unnamed = released_unnamed names s log w over answered;
          lingers_told = lingering_told names s log w over answered;
          purged_unnamed = purged_unnamed names s log w over answered;
          snapshots_true = shots.snapshots_true;
          nothing_retired = rest.nothing_retired;
          complete = record {
            processes = all_turns.processes;
            turns = all_turns.turns;
            generations = all_turns.generations;
            observers = shots.observers;
            snapshots = shots.snapshots;
          };
        };
        whole = all_turns.whole;
        closes = table_closes;
      }

use Rattle.std.proofs.Common.{◌≡◌, ◌<◌, ◌≤◌, false, length}
use Rattle.word_run.specs.declared.scheduler.TheConstants.{SLICE_LAPS}
use Rattle.word_run.specs.Rounds.{HasAnswers}
use Rattle.word_run.specs.Schedulers.{Keeps}
use Rattle.word_run.specs.SliceTurns.{HadItsLaps}
use Rattle.word_run.proofs.scheduler.Scheduler.laps.Given as goal

-- some laps were made, in which the processes had their turns, and the last one, if there was one, was answered so
abbrev pub invariant-loop : goal.invariant-loop
invariant-loop g l = record {
  number : l.self.number ≡ l.fn.self.number;
  told : l.self.taker.told ≡ l.fn.self.taker.told;
  few : l.counter ≤ SLICE_LAPS;
  turns : HadItsLaps g.K.Naming.names l.counter l.fn.self l.self;
  kept : Keeps g.K.Naming.names l.shared.table.shared.table_id l.shared.table.shared.key l.self;
  answers : 0 < l.counter → HasAnswers g.E.RoundName.answered (length l.inboxes) l.sight.loaders l.self;
  awake : l.self.waits ≡ false;
}

use Rattle.std.proofs.Common.{◌≡◌}
use Rattle.word_permit.specs.Runs.{IsOverWords}
use Rattle.word_run.specs.Onlookers.{AreOnlookers}
use Rattle.word_run.specs.Rounds.{IsRun}
use Rattle.word_run.proofs.rounds.run_rounds.Given as goal

-- the run is as it should be between two rounds, over the words of its name, which are those that were given, and so are its observers
abbrev pub invariant-loop : goal.invariant-loop
invariant-loop g l = record {
  table : l.run.shared.table.shared.table_id ≡ l.fn.run.shared.table.shared.table_id;
  members : l.run.shared.table.shared.key.members ≡ l.fn.run.shared.table.shared.key.members;
  words : IsOverWords l.run.shared.table.shared.table_id l.run.shared.table.shared.key g.N.RunName.run;
  run : IsRun g.K.Naming.names l.script l.run.shared.table.shared.table_id l.run.shared.table.shared.key l.run.desk l.run.inboxes.items l.run.seats.items l.run.sight;
  onlookers : AreOnlookers g.K.Naming.names l.functions l.run.shared.table.shared.table_id l.script.observers l.run.onlookers.items;
}

use Rattle.std.proofs.Common.{◌↔◌, ◌≤◌, drop}
use Rattle.run_log.specs.Legal.{SpawnBeforeTurns}
use Rattle.legality.specs.SpawnNumbers.{LaterSpawnsFit}
use Rattle.legality.proofs.shape.spawns.spawns_come_first.Given as goal

-- the log is right about its spawns where it is about those that are left
abbrev pub invariant-loop-entry : goal.invariant-loop-entry
invariant-loop-entry l = record {
  right : SpawnBeforeTurns l.fn.script l.log ↔ LaterSpawnsFit l.processes l.published l.numbers (drop l.entry-index l.entry-items);
  few : l.published ≤ l.entry-index;
}

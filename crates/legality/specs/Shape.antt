-- What a lawful log has that needs no run.
-- Source: this project's profile. Each part is a clause of a lawful log, or follows from one.
use Rattle.std.specs.Prelude.{◌≡◌, ℕ, All}
use Rattle.script_core.specs.declared.script.Script.{Script}
use Rattle.run_log.specs.declared.logs.RunLog.{RunLog}
use Rattle.run_log.specs.Legal.{Complete, SpawnBeforeTurns, commands_in, commands_of}
use Rattle.legality.specs.RisingSpans.{AreRisingSpans}
use Rattle.legality.specs.SnapshotShape.{SnapshotsFit}

-- what a lawful log has that needs no run
pub record IsShaped (s : Script) (log : RunLog) : Type 0 where
  pub complete : Complete s log
  pub commands : (loader : ℕ) → commands_in loader log.journal ≡ commands_of s loader
  pub spawns : SpawnBeforeTurns s log
  pub fit : SnapshotsFit s log
  pub rise : All (λ process. AreRisingSpans process.spans) log.processes

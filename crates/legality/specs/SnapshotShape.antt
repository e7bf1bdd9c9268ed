-- What of the truth of snapshots can be judged without a run: how many there are, and in which order.
-- Source: this project's profile. These are two of the three parts of `SnapshotsTrue`.
use Rattle.std.specs.Prelude.{◌≡◌, ℕ, List, length, slice_get, Some}
use Rattle.std.specs.List.{AllByRecursion}
use Rattle.script_core.specs.declared.script.Script.{Script}
use Rattle.run_log.specs.declared.logs.Snapshot.{Snapshot}
use Rattle.run_log.specs.declared.logs.RunLog.{RunLog}
use Rattle.run_log.specs.Legal.{AreRising}

-- each observer that has a line has as many snapshots as the line says
abbrev pub HaveCounts : List ℕ → List (List Snapshot) → Type 0
HaveCounts counts observers =
    (observer count : ℕ) (shots : List Snapshot) → slice_get counts observer ≡ Some count → slice_get observers observer ≡ Some shots → length shots ≡ count

-- each observer has as many snapshots as its line says, and their generations never fall
pub record SnapshotsFit (s : Script) (log : RunLog) : Type 0 where
  pub counts : HaveCounts s.observers log.observers
  pub rising : AllByRecursion AreRising log.observers

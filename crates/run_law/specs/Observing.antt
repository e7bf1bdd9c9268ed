-- What the observers of a run saw: each is a thread that reads one generation of the words at a time, of those that its watcher has learnt of.
-- Source: Erlang/OTP erts internal documentation, ThreadProgress, for the thread that is no scheduler, and CodeLoading, for what an instance exports;
-- snapshots are this project's own. The definition speaks of generations in plain numbers; code loads words.
use Rattle.std.specs.Prelude.{◌≡◌, ℕ, ◌<◌, List, length, slice_get, Option, Some, option_map}
use Rattle.std.specs.List.{AllByRecursion, filter_map}
use Rattle.term_core.specs.declared.atom.Mfa.{Mfa}
use Rattle.area_core.specs.declared.table.Published.{Published}
use Rattle.shared_words.specs.Rule.{IsBeginning}
use Rattle.machine_core.specs.Reads.{Reads, dispatched}
use Rattle.script_core.specs.declared.script.Script.{Script}
use Rattle.run_log.specs.declared.logs.RunLog.{RunLog}
use Rattle.run_log.specs.declared.logs.Snapshot.{Snapshot}
use Rattle.run_log.specs.ExportedFunctions.{AreExportedFunctions}
use Rattle.run_log.specs.Legal.{AreRising}
use Rattle.run_law.specs.Reading.{reads_under}

-- ---- one snapshot

-- a function with the serial of the instance that a call of it reaches, if it reaches one
abbrev pub export_read : Reads → Mfa → Option (Mfa × ℕ)
export_read r to = option_map (λ e. (to, e.serial)) (dispatched r to)

-- those of the functions that a call reaches, each with the serial of its instance
abbrev pub exports_read : Reads → List Mfa → List (Mfa × ℕ)
exports_read r functions = filter_map (export_read r) functions

-- a snapshot is of a generation that was learnt of, and has what is read of these functions in it
pub record IsSeenOf (names functions : List Mfa) (seen : List Published) (shot : Snapshot) : Type 0 where
  pub learnt : shot.generation < length seen
  pub exports : shot.exports ≡ exports_read (reads_under names seen shot.generation) functions

-- so is each, and none is of an older generation than the one before
pub record HaveSeen (names functions : List Mfa) (seen : List Published) (shots : List Snapshot) : Type 0 where
  pub each : AllByRecursion (IsSeenOf names functions seen) shots
  pub rising : AreRising shots

-- ---- the observers of a run

-- an observer took so many snapshots, of the functions that the script's modules export; what its watcher had learnt of are the first generations that are
-- published
pub record HasWatched (names : List Mfa) (s : Script) (published : List Published) (count : ℕ) (shots : List Snapshot) : Type 0 where
  pub seen : List Published
  pub home : IsBeginning seen published
  pub functions : List Mfa
  pub of_script : AreExportedFunctions s.names s.modules functions
  pub counted : length shots ≡ count
  pub saw : HaveSeen names functions seen shots

-- so did each observer of the script
pub record HaveWatched (names : List Mfa) (s : Script) (log : RunLog) (published : List Published) : Type 0 where
  pub many : length log.observers ≡ length s.observers
  pub each : (number count : ℕ) (shots : List Snapshot) → slice_get s.observers number ≡ Some count → slice_get log.observers number ≡ Some shots
      → HasWatched names s published count shots

-- What a state of the server exports of the functions of its module texts, and what an observer sees of it.
-- Source: this project's report text. The definitions speak of a state; the code asks the server for one function after the other.
use Rattle.std.specs.Prelude.{◌≡◌, ℕ, List, Option, option_map}
use Rattle.std.specs.List.{filter_map}
use Rattle.term_core.specs.declared.atom.Mfa.{Mfa}
use Rattle.mod_core.specs.declared.code.Module.{Module}
use Rattle.server_core.specs.ServerState.{ServerState, dispatch_of}
use Rattle.run_log.specs.declared.logs.Snapshot.{Snapshot}
use Rattle.run_log.specs.Snapshots.{AreExports}
use Rattle.run_log.specs.ExportedFunctions.{AreExportedFunctions}
use Rattle.run_log.specs.InstanceTexts.{AreOfTexts}

-- a function with the serial of the instance that exports it, if one does
abbrev pub export_in : ServerState → Mfa → Option (Mfa × ℕ)
export_in s to = option_map (λ e. (to, e.serial)) (dispatch_of s to)

-- those of the functions that a state exports, each with the serial of its instance
abbrev pub exports_among : ServerState → List Mfa → List (Mfa × ℕ)
exports_among s functions = filter_map (export_in s) functions

-- what an observer sees of a state: its generation, and its exports, where these are the exported functions of the module texts that its instances are of
pub record IsSnapshotOfState (s : ServerState) (functions : List Mfa) (shot : Snapshot) : Type 0 where
  pub generation : shot.generation ≡ s.generation
  pub exports : (names : List (List ℕ)) (texts : List Module) → AreExportedFunctions names texts functions → AreOfTexts texts s → AreExports names s shot.exports

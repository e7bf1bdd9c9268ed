-- The module table beside the server: both say which instances are current and old.
-- Source: this project's own. The server keeps versions with all else that it has; the table keeps the instances of the modules alone.
use Rattle.std.specs.Prelude.{◌≡◌, ℕ, ◌≤◌, ◌-◌, List, [], ◌∷◌, length, slice_get, Option, Some, None, IsSome, is_some, unwrap_or, if◌then◌else◌}
use Rattle.server_core.specs.declared.command.Cmd.{Cmd}
use Rattle.server_core.specs.declared.command.Cmd.TheVariants.{Load, Delete, SoftPurge, Purge}
use Rattle.server_core.specs.declared.command.ModRef.{ModRef}
use Rattle.server_core.specs.ServerState.{ServerState, current_of, old_of}
use Rattle.run_log.specs.declared.logs.Entry.{Entry}
use Rattle.module_table.specs.Modules.{ModuleInstances, Modules, current_in, old_in, without_current, with_promoted, without_old}

-- table and server have the same current and old instance of each module
pub record AgreesWithServer (table : List ModuleInstances) (s : ServerState) : Type 0 where
  pub current : (name : ℕ) → current_in table name ≡ current_of s name
  pub old : (name : ℕ) → old_in table name ≡ old_of s name

-- the modules of a load become current, each with the serial that it has in the server's state
abbrev pub all_promoted : List ModuleInstances → ServerState → List ModRef → List ModuleInstances
all_promoted table s [] = table
all_promoted table s (r ∷ refs) = all_promoted (with_promoted table r.name.0 (unwrap_or (current_of s r.name.0) 0)) s refs

-- the table after a command that published, which led the server to this state
abbrev pub followed : List ModuleInstances → ServerState → Cmd → List ModuleInstances
followed table s (Load refs) = all_promoted table s refs
followed table s (Delete name) = without_current table name.0
followed table s (SoftPurge name lingers) = without_old table name.0
followed table s (Purge name killed) = without_old table name.0
followed table s cmd = table

-- the modules of a load can become current one after another
abbrev pub CanPromote : List ModuleInstances → ServerState → List ModRef → Type 0
CanPromote table s [] = Unit {0}
CanPromote table s (r ∷ refs) =
    (old_in table r.name.0 ≡ None) × IsSome (current_of s r.name.0) × CanPromote (with_promoted table r.name.0 (unwrap_or (current_of s r.name.0) 0)) s refs

-- how many modules a command brings into the table at most
abbrev pub new_modules : Cmd → ℕ
new_modules (Load refs) = length refs
new_modules cmd = 0

-- the table can follow a command that published: it has the instances that the command is about
abbrev pub CanFollow : List ModuleInstances → ServerState → Cmd → Type 0
CanFollow table s (Load refs) = CanPromote table s refs
CanFollow table s (Delete name) = (old_in table name.0 ≡ None) × IsSome (current_in table name.0)
CanFollow table s (SoftPurge name lingers) = IsSome (old_in table name.0)
CanFollow table s (Purge name killed) = IsSome (old_in table name.0)
CanFollow table s cmd = Unit {0}

-- the newest entry of a journal
abbrev pub newest_of : List Entry → Option Entry
newest_of journal = slice_get journal (length journal - 1)

-- the table can follow the newest entry, if that published, and has the room for it
abbrev pub CanFollowNewest : Modules → ServerState → Option Entry → Type 0
CanFollowNewest table s None = Unit {0}
CanFollowNewest table s (Some e) = IsSome e.published → CanFollow table.instances s e.cmd × (new_modules e.cmd ≤ table.room)

-- the table once it followed the newest entry, if that published
abbrev pub newest_followed : List ModuleInstances → ServerState → Option Entry → List ModuleInstances
newest_followed table s None = table
newest_followed table s (Some e) = if is_some e.published then followed table s e.cmd else table

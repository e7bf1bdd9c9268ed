-- What a look at the processes that stand tells of an entry before it is made.
-- Source: the manual pages `code` and `persistent_term`. A lawful log speaks of the last turns up to a generation; these definitions speak of the processes as they stand.
use Rattle.std.specs.Prelude.{◌≡◌, ◌==◌, ℕ, ◌<◌, Bool, false, List, length, Some, None, IfSome}
use Rattle.std.specs.List.{list_any}
use Rattle.server_core.specs.declared.command.Cmd.{Cmd}
use Rattle.server_core.specs.declared.command.Cmd.TheVariants as cmds
use Rattle.server_core.specs.ServerState.{ServerState, old_of}
use Rattle.machine_core.specs.Holds.{is_among, is_area_held}
use Rattle.machine_core.specs.Process.{code_names}
use Rattle.run_log.specs.declared.logs.ProcessLog.{ProcessLog}
use Rattle.run_log.specs.Legal.{is_killed_by}
use Rattle.span_check.specs.declared.standing.Standing.{Standing}

-- whether a frame of the process is of this instance
abbrev pub stands_in : ℕ → Standing → Bool
stands_in serial standing = is_among (code_names standing.process.frames).frames serial

-- whether the process names the area in any way
abbrev pub names_area : ℕ → Standing → Bool
names_area serial standing = is_area_held (code_names standing.process.frames) serial

-- whether one of these processes stands in the instance
abbrev pub some_stands : ℕ → List Standing → Bool
some_stands serial standings = list_any (stands_in serial) standings

-- whether one of these processes names the area
abbrev pub some_names : ℕ → List Standing → Bool
some_names serial standings = list_any (names_area serial) standings

-- whether one of these processes was killed since it stood in the instance
abbrev pub some_killed : ℕ → List ProcessLog → Bool
some_killed serial processes = list_any (λ process. is_killed_by serial process.fin) processes

-- these are the serials of the instances for which processes were killed
abbrev pub AreKilled : List ℕ → List ProcessLog → Type 0
AreKilled serials processes = (serial : ℕ) → list_any (λ by. by == serial) serials ≡ some_killed serial processes

-- an instance is purged: no process stands in it, and the command tells whether one was killed
pub record IsPurged (standings : List Standing) (processes : List ProcessLog) (killed : Bool) (serial : ℕ) : Type 0 where
  pub unnamed : some_stands serial standings ≡ false
  pub told : killed ≡ some_killed serial processes

-- what a command tells of the processes is so, as they stand; that a process lingers was judged with its turns, where there is such a process
abbrev pub IsTold : ServerState → List Standing → List ProcessLog → Cmd → Type 0
IsTold s standings processes (cmds.SoftPurge name None) = IfSome (old_of s name.0) (λ serial. some_stands serial standings ≡ false)
IsTold s standings processes (cmds.SoftPurge name (Some linger)) = IfSome (old_of s name.0) (λ serial. linger.process < length processes)
IsTold s standings processes (cmds.Purge name killed) = IfSome (old_of s name.0) (IsPurged standings processes killed)
IsTold s standings processes (cmds.Release serial) = some_names serial standings ≡ false
IsTold s standings processes _ = Unit {0}

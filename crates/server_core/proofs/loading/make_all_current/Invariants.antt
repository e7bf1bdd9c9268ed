-- The loads made and those that are left make up all of them; each takes one serial, and at most one place and one row.
use Rattle.std.proofs.Common.{◌≡◌, ◌+◌, ◌≤◌, length, drop}
use Rattle.server_core.specs.Rooms.{with_currents}
use Rattle.server_core.specs.ServerState.{live_count}
use Rattle.server_core.proofs.CurrentCode.{names_of_modules}
use Rattle.server_core.proofs.loading.make_all_current.Given as goal

abbrev pub invariant-loop-instance : goal.invariant-loop-instance
invariant-loop-instance l = record {
  versions : with_currents l.versions.versions l.serial (names_of_modules (drop l.instance-index l.modules)) ≡ with_currents l.initial.versions.versions l.first (names_of_modules l.modules);
  room : length l.modules ≤ l.versions.room + l.instance-index;
  places : live_count l.versions.versions ≤ live_count l.initial.versions.versions + l.instance-index;
  serial : l.serial ≡ l.first + l.instance-index;
}

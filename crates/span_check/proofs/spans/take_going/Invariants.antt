-- The spans so far were taken, and the watches so far were seen.
use Rattle.std.proofs.Common.{◌≤◌, drop, length, take}
use Rattle.machine_core.specs.Process.{process_of}
use Rattle.machine_core.specs.View.{server_words}
use Rattle.span_check.specs.Standings.{MayGoOn}
use Rattle.span_check.specs.Sweeps.{AreTaken}
use Rattle.span_check.proofs.spans.take_going.Given as goal

abbrev pub invariant-loop-span : goal.invariant-loop-span
invariant-loop-span l = record {
  taken : AreTaken l.server (take l.span-index l.spans) (process_of (server_words l.server) l.fn.process) (process_of (server_words l.server) l.process) (drop l.fn.told l.watches) (drop l.told l.watches);
  ready : MayGoOn l.server l.process;
  within : l.told ≤ length l.watches;
}

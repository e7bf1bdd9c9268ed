-- What is left of the span gives the whole, and the watches so far were seen.
use Rattle.std.proofs.Common.{◌≤◌, drop, length}
use Rattle.machine_core.specs.Process.{process_of}
use Rattle.machine_core.specs.View.{server_words}
use Rattle.span_check.specs.Standings.{MayGoOn}
use Rattle.span_check.proofs.Spanning.{AtRest}
use Rattle.span_check.proofs.spans.take_span.Given as goal

abbrev pub invariant-loop-rest : goal.invariant-loop-rest
invariant-loop-rest l = record {
  at : AtRest l.server (process_of (server_words l.server) l.fn.process) (process_of (server_words l.server) l.process) l.span l.rest (drop l.fn.told l.watches) (drop l.told l.watches);
  ready : MayGoOn l.server l.process;
  within : l.told ≤ length l.watches;
}

abbrev pub decreases-loop-rest : goal.decreases-loop-rest
decreases-loop-rest l = l.rest.turns

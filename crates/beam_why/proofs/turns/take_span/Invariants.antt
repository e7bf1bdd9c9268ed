use Rattle.span_check.specs.Standings.{MayGoOn}
use Rattle.beam_why.proofs.turns.take_span.Given as goal

abbrev pub invariant-loop : goal.invariant-loop
invariant-loop l = MayGoOn l.server l.process

use Rattle.legality.proofs.Taking.{HaveTaken}
use Rattle.legality.proofs.spans.take_all_spans.Given as goal

abbrev pub invariant-loop-number : goal.invariant-loop-number
invariant-loop-number l = HaveTaken l.server l.ahead l.processes l.fn.standings l.standings l.number

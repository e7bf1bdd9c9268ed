use Rattle.legality.specs.Sweeps.{AreBegun}
use Rattle.legality.proofs.judging.stand_first.Given as goal

abbrev pub invariant-loop-number : goal.invariant-loop-number
invariant-loop-number l = AreBegun l.processes l.number l.standings.items

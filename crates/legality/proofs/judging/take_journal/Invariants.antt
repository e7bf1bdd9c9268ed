use Rattle.legality.specs.Sweeps.{IsSwept}
use Rattle.legality.proofs.judging.take_journal.Given as goal

abbrev pub invariant-loop-place : goal.invariant-loop-place
invariant-loop-place l = IsSwept l.script l.log l.known.watched l.place l.sweep

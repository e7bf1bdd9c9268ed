use Rattle.word_run.specs.Finished.{AreParted}
use Rattle.word_run.proofs.parted.take_apart.Given as goal

-- the first schedulers gave back what they have
abbrev pub invariant-loop-seat : goal.invariant-loop-seat
invariant-loop-seat g l = AreParted l.yielded l.parted.members.items l.parted.takers.items l.parted.processes.items

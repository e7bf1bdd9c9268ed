use Rattle.std.proofs.Common.{length}
use Rattle.std.specs.Vec.Iter.{into_iter_items}
use Rattle.word_run.proofs.Parting.{HaveSettled}
use Rattle.word_run.proofs.finishing.settle.Given as goal

-- in the first inboxes nothing is left
abbrev pub invariant-loop-inbox : goal.invariant-loop-inbox
invariant-loop-inbox g l = HaveSettled l.fn.posters.items (into_iter_items l.posters) l.fn.takers.items (into_iter_items l.takers) (length l.yielded)

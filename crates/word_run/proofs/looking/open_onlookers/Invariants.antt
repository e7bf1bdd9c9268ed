use Rattle.std.specs.Vec.Iter.{into_iter_items, into_iter_len}
use Rattle.word_run.proofs.Watching.{HaveBegun}
use Rattle.word_run.proofs.looking.open_onlookers.Given as goal

-- there are the observers of the first counts, and the other tokens are left
abbrev pub invariant-loop-count : goal.invariant-loop-count
invariant-loop-count l = HaveBegun l.counts l.fn.watchers.items (into_iter_items l.watchers) (into_iter_len l.watchers) l.onlookers.items l.count-index

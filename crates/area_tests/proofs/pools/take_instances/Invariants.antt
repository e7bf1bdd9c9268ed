-- So many were taken at most, and no more of them came in their order; what is retired stays so.
use Rattle.std.proofs.Common.{◌+◌, ◌≤◌}
use Rattle.shared_words.specs.declared.view.WriterView.{WriterView}
use Rattle.area_tests.specs.Gone.{AreGone}
use Rattle.area_tests.proofs.pools.take_instances.Given as goal

abbrev pub invariant-loop-at : goal.invariant-loop-at
invariant-loop-at l = (l.pools.next ≤ l.fn.pools.next + l.at) × (l.right ≤ l.at) × ((w : WriterView) → AreGone 0 3 l.fn.pools w → AreGone 0 3 l.pools w)

-- The seats behind those that are left came in.
use Rattle.std.proofs.Common.{length}
use Rattle.shared_words.proofs.WatchersTaken.{HasTakenWatchers}
use Rattle.shared_words.proofs.closing.take_in_all_watchers.Given as goal

abbrev pub invariant-watchers : goal.invariant-watchers
invariant-watchers g l = HasTakenWatchers l.initial.watchers.items l.watchers.items l.initial.writer l.writer

abbrev pub decreases-watchers : goal.decreases-watchers
decreases-watchers g l = length l.watchers.items

use Rattle.legality.proofs.SeeingAll.{HaveSeen}
use Rattle.legality.proofs.observers.see_snapshots.Given as goal

abbrev pub invariant-loop-observer : goal.invariant-loop-observer
invariant-loop-observer l = HaveSeen l.script.names l.server l.observers l.fn.seen l.seen l.observer

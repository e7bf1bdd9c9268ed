use Rattle.observers.specs.Observing.{Observes}
use Rattle.observers.proofs.Seeing.{HaveLooked}
use Rattle.observers.proofs.observer.Observer.look_on.Given as goal

-- each look took its snapshot
abbrev pub invariant-loop-shot : goal.invariant-loop-shot
invariant-loop-shot g l = Observes g.K.Naming.names l.fn.functions l.fn.shared.table.shared.table_id l.self × HaveLooked l.fn.self l._shot l.self

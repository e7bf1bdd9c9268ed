use Rattle.observers.proofs.Seeing.{observer_begins}
use Rattle.observers.proofs.laws.observers_begin.Goals as goal

pub returns : goal.returns
returns c = λ names functions table number left token begun. observer_begins names functions table number left token begun

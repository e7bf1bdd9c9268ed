use Rattle.marks.proofs.WriterSteps.{wait_backed, look_backed, read_backed, drop_backed, answer_backed}
use Rattle.marks.proofs.laws.waits_back_what_is_kept.Goals as goal

pub returns : goal.returns
returns c = λ k b. (wait_backed k b, look_backed k b, read_backed k b, drop_backed k b, answer_backed k b)

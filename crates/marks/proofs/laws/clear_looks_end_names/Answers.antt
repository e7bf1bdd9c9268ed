use Rattle.marks.proofs.WriterSteps.{looked_clear}
use Rattle.marks.proofs.laws.clear_looks_end_names.Goals as goal

pub returns : goal.returns
returns c = λ u process p k w s through n. looked_clear u process p k w s through n

use Rattle.machine_core.proofs.Killing.{killed_for}
use Rattle.machine_core.proofs.laws.kills_are_for_doomed_code.Goals as goal

pub returns : goal.returns
returns c = λ r p serial killed. killed_for r p serial killed

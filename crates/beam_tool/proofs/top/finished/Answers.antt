-- What was written is the text of the answer.
use Rattle.beam_tool.proofs.TopCalls.{delivered_by}
use Rattle.beam_tool.proofs.top.finished.Goals as goal

pub returns-clause-delivered : goal.returns-clause-delivered
returns-clause-delivered g c = delivered_by _ _ _ _ _ _ _ _ c.as_slice.ensures c.deliver.ensures

-- A text that was written whole, or up to the sink's fault.
use Rattle.beam_tool.specs.TopCall.{whole, cut}
use Rattle.beam_tool.proofs.top.deliver.Goals as goal

pub returns-in-Ok : goal.returns-in-Ok
returns-in-Ok g c = whole c.in-Ok.ensures.ok

pub returns-in-Err : goal.returns-in-Err
returns-in-Err g c = cut c.in-Err.ensures.cause.failed c.in-Err.ensures.err

-- How the call ended, from how its text was delivered.
use Rattle.std.proofs.Common.{ap, Err}
use Rattle.beam_why.specs.Why.{no_memory, source_failed}
use Rattle.beam_why.proofs.Verdicts.{ends_with}
use Rattle.beam_why.proofs.why.why_top.Goals as goal

pub returns-in-Ok : goal.returns-in-Ok
returns-in-Ok g c = ends_with _ _ _ _ _ _ _ _ _ _ _ _ c.as_slice.ensures c.in-Ok.ensures.verdict c.deliver.ensures

pub returns-in-Err-SourceFault : goal.returns-in-Err-SourceFault
returns-in-Err-SourceFault g c = source_failed (c.in-Err-SourceFault.ensures.failed (ap Err c.in-Err-SourceFault.field-0-is))

pub returns-in-Err-NoMemory : goal.returns-in-Err-NoMemory
returns-in-Err-NoMemory g c = no_memory

-- The report of the log of a run.
use Rattle.beam_tool.specs.ClosedTables.{ran}
use Rattle.beam_tool.specs.TopCall.{made}
use Rattle.beam_tool.proofs.run_form.reported.Goals as goal

pub returns-clause-verdict : goal.returns-clause-verdict
returns-clause-verdict g c = made c.in_ok-ran.ran.log _ c.in_ok-ran.ensures.legal c.in_ok-ran.ensures.formed (rw c.new-text.ensures at c.in_ok-render.ensures.ok)

pub returns-clause-closed : goal.returns-clause-closed
returns-clause-closed g c = ran c.in_ok-ran.ran.log c.in_ok-ran.ran.closed c.in_ok-ran.ensures.legal c.in_ok-ran.ensures.closes

-- What is published is what the event says.
use Rattle.std.proofs.Common.{◌≡◌, subst, Some, None}
use Rattle.std.specs.Prelude.{OnOk, IsErrOf}
use Rattle.prgr_core.specs.declared.fault.StepFault.TheVariants.{NotEnabled}
use Rattle.area_core.specs.declared.table.Published.{Published}
use Rattle.area_core.specs.Step.{root_stored}
use Rattle.area_core.proofs.state.writes.store_root.Goals as goal

pub returns-in-Ok-clause-ok : goal.returns-in-Ok-clause-ok
returns-in-Ok-clause-ok c = subst (λ (p : Published). OnOk c.publish.result (root_stored c.args.table.now p ≡ Some c.publish.new.table)) c.in-Ok.ensures c.publish.ensures.ok

pub returns-in-Ok-clause-not_enabled : goal.returns-in-Ok-clause-not_enabled
returns-in-Ok-clause-not_enabled c = subst (λ (p : Published). IsErrOf c.publish.result NotEnabled → root_stored c.args.table.now p ≡ None) c.in-Ok.ensures c.publish.ensures.not_enabled

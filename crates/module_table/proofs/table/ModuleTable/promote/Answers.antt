-- The map after the insertion, and its modules.
use Rattle.std.proofs.Common.{ap, Some}
use Rattle.module_table.proofs.Instances.{put_instances}
use Rattle.module_table.proofs.table.ModuleTable.promote.Goals as goal

pub returns-clause-ok : goal.returns-clause-ok
returns-clause-ok c =
    put_instances c.self.inside.serials.entries _ c.args.self.now.instances c.args.«module».0 (record { current = Some c.args.serial; old = c.current.result }) _ (ap (λ r. r.instances) c.self.view_is)
    (λ i. record { name = c.args.«module».0; current = Some c.args.serial; old = c.current.ensures i }) c.in_ok-insert.ensures.entries

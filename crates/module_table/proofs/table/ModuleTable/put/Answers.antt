-- The module is in the map, so the insertion takes no memory.
use Rattle.std.proofs.Common.{ap, refl}
use Rattle.module_table.proofs.Instances.{module_in_map, put_instances}
use Rattle.module_table.proofs.table.ModuleTable.put.Goals as goal

pub unwrap-requires : goal.unwrap-requires
unwrap-requires c = module_in_map c.insert.result c.self.inside.serials.entries c.args.self.now.instances c.args.«module».0 (ap (λ r. r.instances) c.self.view_is) c.insert.ensures.absent c.requires

pub returns : goal.returns
returns c =
    let entries = rw c.unwrap.ensures at c.insert.ensures.entries in
    put_instances c.self.inside.serials.entries _ c.args.self.now.instances c.args.«module».0 (record { current = c.args.current; old = c.args.old }) _ (ap (λ r. r.instances) c.self.view_is) refl entries

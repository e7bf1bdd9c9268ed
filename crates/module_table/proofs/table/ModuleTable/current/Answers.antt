-- The map has the instances of the module, or no entry of it.
use Rattle.std.proofs.Common.{arith}
use Rattle.std.proofs.lemmas.Grind.{common_steps}
use Rattle.module_table.proofs.Instances.{current_lookup}
use Rattle.module_table.proofs.table.ModuleTable.current.Goals as goal

pub returns-in_err-get : goal.returns-in_err-get
returns-in_err-get c = let e = current_lookup c.self.inside.serials.entries c.args.«module».0 in grind (arith, common_steps)

pub returns : goal.returns
returns c = let e = current_lookup c.self.inside.serials.entries c.args.«module».0 in grind (arith, common_steps)

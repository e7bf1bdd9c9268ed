-- What was found is what the key holds.
use Rattle.std.proofs.Common.{refl}
use Rattle.mod_core.specs.declared.code.Instr.TheVariants as instrs
use Rattle.machine_core.specs.declared.op.Op.TheVariants.{Pget}
use Rattle.machine_core.proofs.StoredValues.{comes_found, found_seen}
use Rattle.machine_core.proofs.storing.get_key.Goals as goal

pub returns-clause-ok : goal.returns-clause-ok
returns-clause-ok g c =
    let shown = g.V.CodeView.shown c.args.view.now in
    let held = g.V.CodeView.held c.args.view.now in
    comes_found c.store_found.result shown held (g.V.CodeView.held c.store_found.new.view) c.args.top.now c.store_found.new.top (Pget c.args.key c.args.to) (instrs.Pget c.args.key c.args.to) 3 c.args.to _ _ refl (λ below. refl)
    c.key_value-found.ensures.value
    (found_seen c.store_found.result shown (g.V.CodeView.shown c.key_value-found.new.view) held (g.V.CodeView.held c.key_value-found.new.view) (g.V.CodeView.held c.store_found.new.view)
    c.args.top.now c.store_found.new.top 3 c.args.to c.key_value-found.result c.key_value-found.ensures.same c.key_value-found.ensures.holds c.store_found.ensures.ok)

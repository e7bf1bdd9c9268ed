-- What was found is the element.
use Rattle.std.proofs.Common.{refl}
use Rattle.mod_core.specs.declared.code.Instr.TheVariants as instrs
use Rattle.machine_core.specs.declared.op.Op.TheVariants.{Elem}
use Rattle.machine_core.specs.Decode.{operand_shown}
use Rattle.machine_core.proofs.StoredValues.{comes_found, found_seen}
use Rattle.machine_core.proofs.storing.get_element.Goals as goal

pub returns-clause-ok : goal.returns-clause-ok
returns-clause-ok g c =
    let shown = g.V.CodeView.shown c.args.view.now in
    let held = g.V.CodeView.held c.args.view.now in
    let words = shown.words c.args.top.now.code.area.serial in
    comes_found c.store_found.result shown held (g.V.CodeView.held c.store_found.new.view) c.args.top.now c.store_found.new.top (Elem c.args.index.now c.args.from.now c.args.to)
    (instrs.Elem (operand_shown words c.args.index.now) (operand_shown words c.args.from.now) c.args.to) 4 c.args.to _ _ refl (λ below. refl)
    c.in_ok-found.ensures.value
    (found_seen c.store_found.result shown (g.V.CodeView.shown c.element_in.new.view) held (g.V.CodeView.held c.element_in.new.view) (g.V.CodeView.held c.store_found.new.view)
    c.args.top.now c.store_found.new.top 4 c.args.to c.in_ok-found.found c.in_ok-found.ensures.same c.in_ok-found.ensures.holds c.store_found.ensures.ok)

-- The value is what the key holds, or the other one.
use Rattle.std.proofs.Common.{refl}
use Rattle.machine_core.specs.declared.op.Op.TheVariants.{PgetOr}
use Rattle.machine_core.proofs.StoredValues.{comes_stored, stores_seen}
use Rattle.machine_core.proofs.storing.get_key_or.Goals as goal

pub returns-clause-ok : goal.returns-clause-ok
returns-clause-ok g c =
    let shown = g.V.CodeView.shown c.args.view.now in
    let held = g.V.CodeView.held c.args.view.now in
    comes_stored c.store.result shown held (g.V.CodeView.held c.store.new.view) c.args.top.now c.store.new.top (PgetOr c.args.key c.args.other.now c.args.to) 4 c.args.to _ _ (λ below. refl)
    c.in_ok-value.ensures.value
    (stores_seen c.store.result shown (g.V.CodeView.shown c.key_value_or.new.view) held (g.V.CodeView.held c.key_value_or.new.view) (g.V.CodeView.held c.store.new.view)
    c.args.top.now c.store.new.top 4 c.args.to c.in_ok-value.value c.in_ok-value.ensures.same c.in_ok-value.ensures.holds c.store.ensures.ok)

-- The value is the source's.
use Rattle.std.proofs.Common.{refl}
use Rattle.machine_core.specs.declared.op.Op.TheVariants.{Move}
use Rattle.machine_core.proofs.StoredValues.{comes_stored}
use Rattle.machine_core.proofs.storing.move_value.Goals as goal

pub store-requires-clause-usable : goal.store-requires-clause-usable
store-requires-clause-usable g c = (c.in_ok-value.ensures (g.V.CodeView.shown c.args.view.now) (g.V.CodeView.held c.args.view.now) c.requires.ready c.requires.source).usable

pub returns-clause-ok : goal.returns-clause-ok
returns-clause-ok g c =
    let shown = g.V.CodeView.shown c.args.view.now in
    let held = g.V.CodeView.held c.args.view.now in
    comes_stored c.store.result shown held (g.V.CodeView.held c.store.new.view) c.args.top.now c.store.new.top (Move c.args.from.now c.args.to) 3 c.args.to _ _ (λ below. refl)
    (c.in_ok-value.ensures shown held c.requires.ready c.requires.source).shows c.store.ensures.ok

-- Each of the areas is held for literals and stands in its block.
use Rattle.std.proofs.Common.{get_or, subst, sym}
use Rattle.machine_core.specs.View.{IsInBlock, Shown}
use Rattle.machine_core.proofs.CopiedValues.{listed_held}
use Rattle.machine_core.proofs.copying.is_one_retired.Goals as goal

pub retired-requires-clause-named : goal.retired-requires-clause-named
retired-requires-clause-named g c =
    listed_held (g.V.CodeView.held c.args.view.now) (g.V.CodeView.held c.loop-area.view) c.args.areas.now c.loop-area.area-index (record { serial = 0; block = 0 }) c.loop-area-test.true c.loop-area.invariant.held c.requires.tracked

pub retired-requires-clause-stands : goal.retired-requires-clause-stands
retired-requires-clause-stands g c =
    let shown = g.V.CodeView.shown c.args.view.now in
    subst (λ (v : Shown). IsInBlock v (get_or c.args.areas.now c.loop-area.area-index (record { serial = 0; block = 0 }))) (sym c.loop-area.invariant.shown)
    (c.requires.stand c.loop-area.area-index (record { serial = 0; block = 0 }) c.loop-area-test.true)

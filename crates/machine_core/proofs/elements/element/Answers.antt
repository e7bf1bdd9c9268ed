-- The number has a place.
use Rattle.machine_core.proofs.LiteralParts.{owned_element}
use Rattle.machine_core.proofs.elements.element.Goals as goal

pub returns-in-Owned-clause-value : goal.returns-in-Owned-clause-value
returns-in-Owned-clause-value g c =
    owned_element c.owned_part.result (g.V.CodeView.shown c.args.view.now).words c.args.index.now c.args.from c.in-Owned.term c.in-Some.place c.in-Owned.is c.in-Some.ensures (c.owned_part.ensures.value (g.V.CodeView.shown c.args.view.now).words)

pub returns-in-Owned-clause-usable : goal.returns-in-Owned-clause-usable
returns-in-Owned-clause-usable g c = c.owned_part.ensures.usable (g.V.CodeView.shown c.args.view.now) (g.V.CodeView.held c.args.view.now)

-- The value that was found is stored.
use Rattle.machine_core.proofs.StoredValues.{stores_found}
use Rattle.machine_core.proofs.storing.store_found.Goals as goal

pub returns-in-Some-clause-ok : goal.returns-in-Some-clause-ok
returns-in-Some-clause-ok g c =
    stores_found c.store.result (g.V.CodeView.shown c.args.view.now) (g.V.CodeView.held c.args.view.now) (g.V.CodeView.held c.store.new.view) c.args.top.now c.store.new.top c.args.len c.args.to c.args.found c.in-Some.value c.in-Some.is c.store.ensures.ok

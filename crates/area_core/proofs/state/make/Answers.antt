-- What is refused is the event that was asked for.
use Rattle.area_core.proofs.Made.{refused_as}
use Rattle.area_core.proofs.state.make.Goals as goal

pub returns-in-StoreRoot-clause-not_enabled : goal.returns-in-StoreRoot-clause-not_enabled
returns-in-StoreRoot-clause-not_enabled c = refused_as c.args.table.now c.args.event.now _ c.in-StoreRoot.is c.store_root.ensures.not_enabled

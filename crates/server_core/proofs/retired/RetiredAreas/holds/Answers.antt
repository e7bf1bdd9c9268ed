-- A serial has a slot where it is one of them, and else none.
use Rattle.std.proofs.Common.{ap, ◌∙◌}
use Rattle.server_core.specs.ServerState.{is_serial_in}
use Rattle.server_core.proofs.Gaps.{found_or_not}
use Rattle.server_core.proofs.retired.RetiredAreas.holds.Goals as goal

pub returns : goal.returns
returns c = c.is_some.ensures ∙ found_or_not c.self.inside.table.slots.items c.args.serial c.slot_of.result c.slot_of.ensures.some c.slot_of.ensures.none ∙ ap (λ serials. is_serial_in serials c.args.serial) c.self.view_is

-- The first slot that is no gap has the first serial.
use Rattle.std.proofs.Common.{ap, ◌∙◌}
use Rattle.server_core.specs.RetiredSlots.{standing}
use Rattle.server_core.proofs.Gaps.{oldest_is}
use Rattle.server_core.proofs.slots.SlotTable.oldest.Goals as goal

pub returns : goal.returns
returns c = c.serial_at.ensures ∙ ap (λ slots. standing slots c.args.self.now.first) c.as_slice.ensures.value ∙ oldest_is c.args.self.now.slots.items c.args.self.now.first c.requires.first

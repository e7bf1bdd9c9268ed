-- What a frame names is what it runs, or what its literals stand in.
use Rattle.std.proofs.Common.{◌∙◌}
use Rattle.machine_core.proofs.DroppedHolds.{named_instance, named_literal}
use Rattle.machine_core.proofs.dropping.is_named.Goals as goal

pub returns-in-Frame : goal.returns-in-Frame
returns-in-Frame c = c.is_entered.ensures ∙ named_instance c.args.kind c.args.frames.now c.args.area.serial c.in-Frame.is

pub returns-in-Literal : goal.returns-in-Literal
returns-in-Literal c = c.is_quoted.ensures ∙ named_literal c.args.kind c.args.frames.now c.args.area.serial c.in-Literal.is

use Rattle.std.proofs.Common.{None, Some, sym, ◌∙◌}
use Rattle.legality.proofs.CommandPlaces.{took, not_next}
use Rattle.legality.proofs.shape.order.take_of_loader.Goals as goal

-- no command is left
pub returns-in_default : goal.returns-in_default
returns-in_default c = not_next _ _ _ _ None c.requires.by (sym c.ends_one.ensures ∙ c.if-not-ends_one.false) c.in_default.ensures.value tt

-- another command is left
pub returns-then-not-is_end_of : goal.returns-then-not-is_end_of
returns-then-not-is_end_of c =
    not_next _ _ _ _ (Some c.in-Some.command.now) c.requires.by (sym c.ends_one.ensures ∙ c.if-not-ends_one.false) c.in-Some.ensures.value (λ e. let t = c.is_end_of.ensures.1 e in cc)

-- the next command
pub returns : goal.returns
returns c journal = took _ _ _ _ journal _ c.requires.by (c.is_end_of.ensures.0 c.if-not-is_end_of.false) c.in-Some.ensures.there (sym c.in-Some.ensures.value)

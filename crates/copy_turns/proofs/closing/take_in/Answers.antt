use Rattle.std.proofs.Common.{ℕ, ◌+◌, ap, ◌∙◌}
use Rattle.copy_turns.specs.Copiers.{CopierState}
use Rattle.copy_turns.specs.Holdings.{copiers_in}
use Rattle.copy_turns.specs.Steps.{SeatHoldings}
use Rattle.copy_turns.proofs.Joins.{take_in_is_allowed}
use Rattle.copy_turns.proofs.TurnCases.{copier_is_one, joined_copiers}
use Rattle.copy_turns.proofs.closing.take_in.Goals as goal

-- the join is one that the rule allows
pub join_seat-requires : goal.join_seat-requires
join_seat-requires c = (
  c.requires.token.of_table,
  ap (λ (s : CopierState). s.table) c.copier.view_is ∙ c.requires.copier,
  c.copier.invariant.1,
  c.requires.words,
  take_in_is_allowed _ _ _ _ _,
)

-- one copier more
pub returns-clause-copiers : goal.returns-clause-copiers
returns-clause-copiers c =
    ap (λ (me : SeatHoldings). copiers_in me.0) c.join_seat.ensures.2
    ∙ joined_copiers c.args.all.now.me.0 c.copier.inside.seat.me.0
    ∙ ap (λ (n : ℕ). copiers_in c.args.all.now.me.0 + n) (ap copiers_in c.copier.invariant.0 ∙ copier_is_one c.copier.inside.held c.copier.inside.seat.me.0.found)

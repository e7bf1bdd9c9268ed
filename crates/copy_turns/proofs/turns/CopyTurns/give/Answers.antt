use Rattle.std.proofs.Common.{Option, sym, ap, ◌∙◌, arith}
use Rattle.copy_turns.specs.declared.turn.Holding.{Holding}
use Rattle.copy_turns.specs.Copiers.{CopierState, TurnTable}
use Rattle.copy_turns.specs.Holdings.{turn_held_in, holdings_of}
use Rattle.copy_turns.proofs.Steps.{give_is_allowed}
use Rattle.copy_turns.proofs.TurnCases.{held_own, word_within}
use Rattle.copy_turns.proofs.turns.CopyTurns.give.Goals as goal

-- the store is one that the rule allows
pub store-requires : goal.store-requires
store-requires c =
    let turn = c.in-Some.held.turn in
    let within = word_within turn in
    let sized = c.self.invariant.1 in
    let place = c.word-place.ensures in (
      ap (λ (s : CopierState). s.table) c.copier.view_is ∙ c.requires.table ∙ sym (ap (λ (t : TurnTable). t.table) c.self.view_is),
      omega arith,
      give_is_allowed _ _ _ turn _ c.in-Some.held.process _ c.word-place.ensures
          (ap (turn_held_in turn) (c.copier.invariant.0 ∙ ap (λ (held : Option Holding). holdings_of held c.copier.inside.seat.me.0.found) c.in-Some.is) ∙ held_own c.in-Some.held c.copier.inside.seat.me.0.found),
    )

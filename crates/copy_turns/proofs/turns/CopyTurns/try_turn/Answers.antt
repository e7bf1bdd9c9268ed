use Rattle.std.proofs.Common.{◌≡◌, Option, None, sym, ap, ◌∙◌, arith}
use Rattle.copy_turns.specs.declared.holdings.Holdings.{Holdings}
use Rattle.copy_turns.specs.declared.turn.Holding.{Holding}
use Rattle.copy_turns.specs.Copiers.{CopierState, TurnTable}
use Rattle.copy_turns.specs.Holdings.{holdings_of}
use Rattle.copy_turns.proofs.Steps.{try_is_allowed}
use Rattle.copy_turns.proofs.TurnCases.{word_within}
use Rattle.copy_turns.proofs.turns.CopyTurns.try_turn.Goals as goal

-- the exchange is one that the rule allows
pub compare_exchange-found-requires : goal.compare_exchange-found-requires
compare_exchange-found-requires c =
    let within = word_within c.args.turn in
    let sized = c.self.invariant.1 in
    let place = c.word-place.ensures in
    let none : c.copier.inside.held ≡ None = ap (λ (s : CopierState). s.held) c.copier.view_is ∙ c.requires.idle in
    let idle : c.copier.inside.seat.me.0.idle ≡ 1 = ap (λ (h : Holdings). h.idle) c.copier.invariant.0 ∙ ap (λ (held : Option Holding). (holdings_of held c.copier.inside.seat.me.0.found).idle) none in (
      ap (λ (s : CopierState). s.table) c.copier.view_is ∙ c.requires.table ∙ sym (ap (λ (t : TurnTable). t.table) c.self.view_is),
      omega arith,
      try_is_allowed _ _ _ c.args.turn _ c.args.process _ c.word-place.ensures c.requires.process (omega arith),
    )

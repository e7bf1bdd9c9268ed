use Rattle.std.proofs.Common.{◌≡◌, [], ◌∷◌, None, ap, ◌∙◌}
use Rattle.copy_turns.specs.declared.turn.Turn.{Turn}
use Rattle.copy_turns.specs.declared.turn.Turn.TheVariants.{First, Second}
use Rattle.copy_turns.specs.Copiers.{turn_held_by, turn_holder}
use Rattle.copy_turns.specs.Holdings.{turn_held_in}
use Rattle.copy_turns.specs.Turns.{turn_word}
use Rattle.copy_turns.proofs.LastHolders.{free_words, last_holder, seat_holds}
use Rattle.copy_turns.proofs.turns.CopyTurns.close.Goals as goal

-- the words of both turns
pub returns-clause-words : goal.returns-clause-words
returns-clause-words c =
    let own : (turn : Turn) → turn_held_in turn c.last.inside.seat.me.0 ≡ turn_held_by turn c.in-Some.last = λ turn. ap (turn_held_in turn) c.last.invariant.0 ∙ seat_holds turn c.last.inside.held c.last.inside.seat.me.0.found ∙ ap (turn_held_by turn) c.last.view_is in
    let holder : (turn : Turn) → turn_held_in turn c.take_in_all.new.all.me.0 ≡ turn_holder turn c.args.copiers None = λ turn.
    last_holder turn c.args.copiers c.pop.new.self c.in-Some.last c.last.inside.seat.me.0 c.take_in_all.new.all.me.0 c.in-Some.ensures (own turn) (c.take_in_all.ensures.held turn) in
    let first = c.last_word-first.ensures.word ∙ ap turn_word (holder First) in
    let second = c.last_word-second.ensures.word ∙ ap turn_word (ap (turn_held_in Second) c.last_word-first.ensures.view ∙ holder Second) in
    c.in_ok-words.ensures ∙ (λ i. first i ∷ second i ∷ [])

-- where they are 0
pub returns-clause-free : goal.returns-clause-free
returns-clause-free c = free_words c.args.copiers c.in_ok-words.words (returns-clause-words c)

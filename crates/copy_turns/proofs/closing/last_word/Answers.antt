use Rattle.std.proofs.Common.{arith}
use Rattle.copy_turns.proofs.Steps.{last_is_allowed}
use Rattle.copy_turns.proofs.TurnCases.{word_within}
use Rattle.copy_turns.proofs.closing.last_word.Goals as goal

-- the load is one that the rule allows
pub load-requires : goal.load-requires
load-requires c =
    let within = word_within c.args.turn in
    let sized = c.requires.words in
    let place = c.word-place.ensures in (
      c.requires.token.of_table,
      omega arith,
      last_is_allowed _ _ _ c.args.turn _ _ c.word-place.ensures c.requires.whole,
    )

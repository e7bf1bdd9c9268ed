use Rattle.word_lap.proofs.HadTurns.{had_where_ok}
use Rattle.word_lap.proofs.turns.take_turn.Goals as goal

pub returns-in-Ok-clause-turn : goal.returns-in-Ok-clause-turn
returns-in-Ok-clause-turn g c =
    had_where_ok c.args.exports.now c.args.shared.now.table.shared.key c.args.shared.now.table.shared.table_id c.args.member c.turn_joined.result.0 c.args.run.now c.turn_joined.new.run c.args.generation c.in-Ok.span c.take_span.new.spans
    c.turn_joined.result.1 c.requires.held c.requires.ready c.in-Ok.ensures c.turn_joined.ensures.turn

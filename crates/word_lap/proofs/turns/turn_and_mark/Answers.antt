use Rattle.word_lap.proofs.TakenTurns.{end_told, made_told}
use Rattle.word_lap.proofs.turns.turn_and_mark.Goals as goal

pub mark_end-requires-clause-by : goal.mark_end-requires-clause-by
mark_end-requires-clause-by g c =
    let had = c.turn_of-member in
    end_told c.args.exports.now c.args.shared.now.table.shared.key c.args.shared.now.table.shared.table_id c.args.member had.result.0 c.args.process.now had.new.process c.args.lines.now had.new.lines c.in-Ok.end
    had.result.1 c.in-Ok.is had.ensures.gone had.ensures.turn

pub returns-in-Ok-clause-turn : goal.returns-in-Ok-clause-turn
returns-in-Ok-clause-turn g c =
    let had = c.turn_of-member in
    made_told c.args.exports.now c.args.shared.now.table.shared.key c.args.shared.now.table.shared.table_id c.args.member had.result.0 c.args.process.now had.new.process c.args.lines.now had.new.lines c.in-Ok.end
    had.result.1 c.in-Ok.is had.ensures.gone had.ensures.turn c.mark_end.new.member had.ensures.view c.mark_end.ensures.marked

use Rattle.std.proofs.Common.{sym, ◌∙◌}
use Rattle.anchors.specs.Holds.{view_of}
use Rattle.word_lap.proofs.TurnsOfLap.{turns_where_ok}
use Rattle.word_lap.proofs.laps.turn_at.Goals as goal

pub returns-in-Ok-clause-turn : goal.returns-in-Ok-clause-turn
returns-in-Ok-clause-turn g c =
    let had = c.take_turn-member in
    turns_where_ok c.args.exports.now c.args.shared.now.table.shared.key (view_of c.args.member) (view_of had.result.0) c.args.place c.in-Some.run' had.new.run had.result.1 c.in-Ok.field-0
    c.in-Some.is (sym c.is_some.ensures ∙ c.if-is_some.false) c.in-Ok.is had.ensures.turn

use Rattle.word_lap.proofs.Clearing.{clear_begins, clear_ends, clear_goes_on}
use Rattle.word_lap.proofs.ending.drop_names.Goals as goal

pub loop-place-init : goal.loop-place-init
loop-place-init g c = clear_begins c.args.shared.now.table.shared.table_id c.args.shared.now.table.shared.key c.args.process c.args.member.now c.requires.token c.requires.run

-- one more is cleared
pub loop-place-preserved : goal.loop-place-preserved
loop-place-preserved g c =
    let at = c.clear_anchor.ensures in
    clear_goes_on c.args.shared.now.table.shared.table_id c.args.shared.now.table.shared.key c.args.process c.args.member.now c.loop-place.place c.loop-place.member c.clear_anchor.new.member c.loop-place.auto.place c.loop-place.invariant at.token at.number at.cleared

-- all are
pub returns-clause-dropped : goal.returns-clause-dropped
returns-clause-dropped g c =
    clear_ends c.args.shared.now.table.shared.table_id c.args.shared.now.table.shared.key c.args.process c.args.member.now c.loop-place.member c.loop-place.place c.loop-place.invariant (c.requires.token.copied.wide c.args.process c.requires.run.below) c.loop-place-test.false

use Rattle.anchors.proofs.Dropping.{drop_begins, drop_goes_on, drop_ends}
use Rattle.anchors.proofs.drops.drop_hold.Goals as goal

pub loop-place-init : goal.loop-place-init
loop-place-init g c = drop_begins c.args.shared.now.table.shared.table_id c.args.shared.now.table.shared.key c.args.process c.args.kind c.args.area.serial c.args.member.now c.requires.token c.requires.copied c.requires.run

-- one more names it no more
pub loop-place-preserved : goal.loop-place-preserved
loop-place-preserved g c =
    let at = c.drop_at.ensures in
    drop_goes_on c.args.shared.now.table.shared.table_id c.args.shared.now.table.shared.key c.args.process c.args.kind c.args.area.serial c.args.member.now c.loop-place.place c.loop-place.member c.drop_at.new.member c.loop-place.auto.place c.loop-place.invariant at.token at.same at.number at.root at.copied at.dropped

-- none names it
pub returns-clause-dropped : goal.returns-clause-dropped
returns-clause-dropped g c =
    drop_ends c.args.shared.now.table.shared.table_id c.args.shared.now.table.shared.key c.args.process c.args.kind c.args.area.serial c.args.member.now c.loop-place.member c.loop-place.place c.loop-place.invariant (c.requires.copied.wide c.args.process c.requires.run.below) c.loop-place-test.false

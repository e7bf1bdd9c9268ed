use Rattle.term_core.specs.declared.hold.Kind.TheVariants.{Frame}
use Rattle.area_tests.specs.Many.{many_published}
use Rattle.area_tests.proofs.Work.{dropped_plays}
use Rattle.area_tests.proofs.slots.drop_frame.Goals as goal

-- the process goes on
pub returns-clause-plays : goal.returns-clause-plays
returns-clause-plays c =
    dropped_plays c.args.shared.now.table.shared.table_id c.args.shared.now.table.shared.key 0 c.args.serial Frame many_published c.args.member.now c.drop_hold.new.member c.requires.plays c.drop_hold.ensures.token c.drop_hold.ensures.number c.drop_hold.ensures.copied c.drop_hold.ensures.dropped

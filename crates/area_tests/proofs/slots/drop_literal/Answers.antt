use Rattle.term_core.specs.declared.hold.Kind.TheVariants.{Literal}
use Rattle.area_tests.specs.Many.{many_published}
use Rattle.area_tests.proofs.Work.{dropped_plays}
use Rattle.area_tests.proofs.slots.drop_literal.Goals as goal

-- the process goes on
pub returns : goal.returns
returns c = record {
  plays =
      dropped_plays c.args.shared.now.table.shared.table_id c.args.shared.now.table.shared.key 0 c.args.serial Literal many_published c.args.member.now c.drop_hold.new.member c.requires.plays c.drop_hold.ensures.token c.drop_hold.ensures.number c.drop_hold.ensures.copied c.drop_hold.ensures.dropped;
}

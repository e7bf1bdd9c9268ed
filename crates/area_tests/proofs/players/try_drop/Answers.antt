use Rattle.area_tests.proofs.Work.{dropped_goes}
use Rattle.area_tests.proofs.players.try_drop.Goals as goal

-- the process goes on
pub returns-then-names_area : goal.returns-then-names_area
returns-then-names_area c =
    dropped_goes c.args.shared.now.table.shared.table_id c.args.shared.now.table.shared.key c.args.process c.args.area.serial c.args.kind c.args.member.now c.drop_hold.new.member c.requires.works c.drop_hold.ensures.token c.drop_hold.ensures.number c.drop_hold.ensures.copied c.drop_hold.ensures.dropped

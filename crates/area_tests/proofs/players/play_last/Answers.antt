use Rattle.area_tests.proofs.Playing.{may_rest}
use Rattle.area_tests.proofs.players.play_last.Goals as goal

-- no process of the member is in the midst of a turn
pub wait-requires-clause-may : goal.wait-requires-clause-may
wait-requires-clause-may c = may_rest c.args.shared.now.table.shared.table_id c.args.shared.now.table.shared.key c.args.process c.drop_all.new.member c.end_turn.new.member c.end_turn.ensures

use Rattle.new_tables.proofs.Begun.{first_begun, second_begun}
use Rattle.progress_tests.proofs.waits.both_members.Goals as goal

pub returns-clause-first : goal.returns-clause-first
returns-clause-first c = (first_begun c.args.shared.now.table.shared.table_id _ _ _ c.in_ok-first.first c.in_ok-second.second c.in_ok-second.ensures.items c.in_ok-first.ensures.items c.requires.begun).of

pub returns-clause-first_view : goal.returns-clause-first_view
returns-clause-first_view c = (first_begun c.args.shared.now.table.shared.table_id _ _ _ c.in_ok-first.first c.in_ok-second.second c.in_ok-second.ensures.items c.in_ok-first.ensures.items c.requires.begun).view

pub returns-clause-second : goal.returns-clause-second
returns-clause-second c = (second_begun c.args.shared.now.table.shared.table_id _ _ c.in_ok-second.second c.in_ok-second.ensures.items c.requires.begun).of

pub returns-clause-second_view : goal.returns-clause-second_view
returns-clause-second_view c = (second_begun c.args.shared.now.table.shared.table_id _ _ c.in_ok-second.second c.in_ok-second.ensures.items c.requires.begun).view

pub returns-clause-first_root : goal.returns-clause-first_root
returns-clause-first_root c = (first_begun c.args.shared.now.table.shared.table_id _ _ _ c.in_ok-first.first c.in_ok-second.second c.in_ok-second.ensures.items c.in_ok-first.ensures.items c.requires.begun).rooted

pub returns-clause-second_root : goal.returns-clause-second_root
returns-clause-second_root c = (second_begun c.args.shared.now.table.shared.table_id _ _ c.in_ok-second.second c.in_ok-second.ensures.items c.requires.begun).rooted

use Rattle.new_tables.proofs.Begun.{only_begun, only_watcher}
use Rattle.progress_tests.proofs.delays.both_tokens.Goals as goal

pub returns-clause-member : goal.returns-clause-member
returns-clause-member c = (only_begun c.args.shared.now.table.shared.table_id _ _ c.in_ok-member.member c.in_ok-member.ensures.items c.requires.begun).of

pub returns-clause-view : goal.returns-clause-view
returns-clause-view c = (only_begun c.args.shared.now.table.shared.table_id _ _ c.in_ok-member.member c.in_ok-member.ensures.items c.requires.begun).view

pub returns-clause-watcher : goal.returns-clause-watcher
returns-clause-watcher c = (only_watcher c.args.shared.now.table.shared.table_id _ _ c.in_ok-watcher.watcher c.in_ok-watcher.ensures.items c.requires.watching).of

pub returns-clause-idle : goal.returns-clause-idle
returns-clause-idle c = (only_watcher c.args.shared.now.table.shared.table_id _ _ c.in_ok-watcher.watcher c.in_ok-watcher.ensures.items c.requires.watching).idle

-- The one watcher does not delay as it begins.
use Rattle.new_tables.proofs.Begun.{only_watcher}
use Rattle.grace_bench.proofs.delays.delay_alone.Goals as goal

pub delay_often-requires-clause-token : goal.delay_often-requires-clause-token
delay_often-requires-clause-token c = (only_watcher c.in_ok-shared.shared.table.shared.table_id _ _ c.in-Some.watcher c.in-Some.ensures.items c.in_ok-shared.ensures.watchers).of

pub delay_often-requires-clause-idle : goal.delay_often-requires-clause-idle
delay_often-requires-clause-idle c = (only_watcher c.in_ok-shared.shared.table.shared.table_id _ _ c.in-Some.watcher c.in-Some.ensures.items c.in_ok-shared.ensures.watchers).idle

-- The watcher may delay once more.
use Rattle.progress_words.specs.Delays.{IsIdle}
use Rattle.progress_words.specs.Tokens.{watched_by, IsWatcherOf}
use Rattle.grace_bench.proofs.delays.delay_often.Given as goal

abbrev pub invariant-loop : goal.invariant-loop
invariant-loop l = IsWatcherOf l.fn.shared.table.shared.table_id l.watcher × IsIdle (watched_by l.watcher)

use Rattle.std.proofs.Common.{◌≡◌, ◌≤◌, length, take}
use Rattle.std.specs.Vec.{vec_capacity, vec_len}
use Rattle.machine_core.specs.GenerationReads.{reads_in}
use Rattle.progress_words.specs.Tokens.{IsWatcherOf, watched_by}
use Rattle.run_law.specs.Observing.{exports_read}
use Rattle.observers.specs.Watching.{HasRead, held_by_watching}
use Rattle.observers.proofs.exports.read_exports.Given as goal

-- the first functions are read, and there is room for the others
abbrev pub invariant-loop-to : goal.invariant-loop-to
invariant-loop-to g l =
    IsWatcherOf l.fn.shared.table.shared.table_id l.watcher × HasRead l.fn.watcher l.watcher × (l.found.items ≡ exports_read (reads_in l.fn.exports (held_by_watching (watched_by l.fn.watcher)).state) (take l.to-index l.to-items)) × (vec_len l.found ≤ l.to-index) × (length l.to-items ≤ vec_capacity l.found)

use Rattle.std.proofs.Common.{◌≡◌, ◌++◌, take}
use Rattle.std.specs.List.{flat_map}
use Rattle.area_core.specs.Readers.{in_watcher}
use Rattle.area_core.proofs.readers.push_watchers.Given as goal

-- what the watchers so far hold is appended
abbrev pub invariant-loop-watcher : goal.invariant-loop-watcher
invariant-loop-watcher l = l.generations ≡ l.fn.generations ++ flat_map in_watcher (take l.watcher-index l.fn.watchers)

use Rattle.std.proofs.Common.{◌≡◌, ◌==◌, ℕ, take}
use Rattle.std.specs.List.{list_any}
use Rattle.run_log.specs.Legal.{is_killed_by}
use Rattle.legality.proofs.shape.kills.killed_serials.Given as goal

-- the serials of the processes so far
abbrev pub invariant-loop-process : goal.invariant-loop-process
invariant-loop-process l = (serial : ℕ) → list_any (λ by. by == serial) l.serials ≡ list_any (λ process. is_killed_by serial process.fin) (take l.process-index l.process-items)

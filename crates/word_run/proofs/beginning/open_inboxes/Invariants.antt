use Rattle.std.proofs.Common.{◌≡◌, length}
use Rattle.word_run.proofs.beginning.open_inboxes.Given as goal

-- so many are there
abbrev pub invariant-loop : goal.invariant-loop
invariant-loop g l = length l.openings.items ≡ l.counter

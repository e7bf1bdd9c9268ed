-- The loaders that were asked have no next command.
use Rattle.std.proofs.Common.{◌≡◌, ℕ, ◌<◌, None}
use Rattle.write_permit.specs.Book.{shown}
use Rattle.write_permit.specs.Permit.{next_of}
use Rattle.write_permit.proofs.steps.all_done.Given as goal

abbrev pub invariant-loop-who : goal.invariant-loop-who
invariant-loop-who l = (k : ℕ) → k < l.who → next_of (shown l.book) k ≡ None

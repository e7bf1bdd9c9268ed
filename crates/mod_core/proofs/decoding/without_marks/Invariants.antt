-- The words so far are copied, and their marks are 0.
use Rattle.std.proofs.Common.{◌≡◌, ℕ, ◌<◌, length, get_or, cond}
use Rattle.mod_core.specs.Decoding.{is_mark}
use Rattle.mod_core.proofs.decoding.without_marks.Given as goal

abbrev pub invariant-loop-at : goal.invariant-loop-at
invariant-loop-at l = record {
  long : length l.copy ≡ l.at;
  each : (at : ℕ) → at < l.at → get_or l.copy at 0 ≡ cond (is_mark l.count at) 0 (get_or l.words at 0);
}

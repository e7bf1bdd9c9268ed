-- What is left of the text has the first such integer of the whole.
use Rattle.std.proofs.Common.{◌≡◌, false, None, drop}
use Rattle.term_core.specs.Tokens.{outside_at}
use Rattle.term_core.specs.Written.{place_or}
use Rattle.term_core.proofs.leaves.outside_at.Given as goal

-- counted from here
abbrev pub invariant-loop-at : goal.invariant-loop-at
invariant-loop-at l = place_or None l.at (outside_at l.inside (drop l.at l.text)) ≡ outside_at false l.text

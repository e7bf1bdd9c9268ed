-- What is left of the text has the fault of the whole.
use Rattle.std.proofs.Common.{◌≡◌, None, Some, drop}
use Rattle.term_core.specs.Scanning.{syntax_fault, at_start}
use Rattle.term_core.specs.Written.{place_or}
use Rattle.term_core.proofs.scan.syntax_fault.Given as goal

-- counted from here
abbrev pub invariant-loop-at : goal.invariant-loop-at
invariant-loop-at l = place_or None l.at (syntax_fault (Some (record { place = l.scan.place; brackets = l.scan.brackets })) (drop l.at l.text)) ≡ syntax_fault at_start l.text

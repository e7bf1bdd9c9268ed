-- What is passed, and the cut of what is left, are the cut of the whole.
use Rattle.std.proofs.Common.{◌≤◌}
use Rattle.term_core.proofs.CutTerms.{IsCut}
use Rattle.term_core.proofs.parts.cut_term.Given as goal

-- with no more brackets open than bytes were passed
abbrev pub invariant-loop-at : goal.invariant-loop-at
invariant-loop-at l = record {
  cut : IsCut l.text l.at l.depth;
  few : l.depth ≤ l.at;
}

use Rattle.std.proofs.Common.{◌≡◌, ◌∷◌, ◌++◌, take}
use Rattle.std.specs.List.{flat_map}
use Rattle.term_core.specs.TermText.{term_text}
use Rattle.run_log.proofs.rendering.name.write_other_terms.Given as goal

-- the terms so far are written, a comma before each
abbrev pub invariant-loop-term : goal.invariant-loop-term
invariant-loop-term l = l.out ≡ l.fn.out ++ flat_map (λ t. 44 ∷ term_text l.names t) (take l.term-index l.terms)

use Rattle.script_text.proofs.Common.{◌≡◌, ◌∷◌, ◌++◌, take, flat_map}
use Rattle.script_text.proofs.Texts.{term_text}
use Rattle.script_text.proofs.printing.write_other_terms.Given as goal

-- the terms so far are written, a comma before each
abbrev pub invariant-loop-term : goal.invariant-loop-term
invariant-loop-term l = l.out ≡ l.fn.out ++ flat_map (λ term. 44 ∷ term_text l.names term) (take l.term-index l.terms)

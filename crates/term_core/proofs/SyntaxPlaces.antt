-- A text has one place of its fault.
use Rattle.std.proofs.Common.{◌≡◌, ℕ, zero, suc, ◌+◌, ◌<◌, ◌≤◌, inl, inr, List, ◌∷◌, length, take, drop, refl, sym, ap, subst, arith}
use Rattle.term_core.specs.Faults.{BeginsTermText, SyntaxAt}
use Rattle.term_core.proofs.Scanning.Faults.{cut_again}
use Rattle.term_core.proofs.TextForms.{begins_shorter}
use Rattle.term_core.proofs.Truths.{three_ways}

-- it is in the text or at its end
within : (text : List ℕ) (i : ℕ) → SyntaxAt text i → i ≤ length text
within text i s = elim s.stops [ inl e ↦ omega (arith, e) | inr l ↦ omega (arith, l.0) ]

-- the front of a front
front_of_front : (i j : ℕ) (text : List ℕ) → i ≤ j → take i (take j text) ≡ take i text
front_of_front (suc i) zero text h = absurd (omega arith)
front_of_front (suc i) (suc j) (c ∷ text) h = ap (λ t. c ∷ t) (front_of_front i j text (omega arith))
front_of_front i j text h = refl

-- none is before another
not_before : (text : List ℕ) (i j : ℕ) → SyntaxAt text i → SyntaxAt text j → i < j → ⊥
not_before text i j s t less = elim s.stops [
  | inl e ↦ omega (arith, e, within text j t)
  | inr l ↦
      l.1 (subst BeginsTermText (front_of_front (i + 1) j text (omega arith))
      (begins_shorter (take (i + 1) (take j text)) (drop (i + 1) (take j text)) (subst BeginsTermText (sym (cut_again (i + 1) (take j text))) t.goes_on)))
]

-- so there is one
pub SyntaxAt-unique : (text : List ℕ) (i j : ℕ) → SyntaxAt text i → SyntaxAt text j → i ≡ j
SyntaxAt-unique text i j s t = elim (three_ways i j) [
  | inl less ↦ absurd (not_before text i j s t less)
  | inr (inl more) ↦ absurd (not_before text j i t s more)
  | inr (inr e) ↦ e
]

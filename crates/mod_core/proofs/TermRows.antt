-- The terms of a row that are left, when a loop goes over them.
use Rattle.std.proofs.Common.{◌≡◌, ℕ, ◌+◌, ◌<◌, ◌≤◌, zero, suc, List, [], ◌∷◌, length, map, drop, get_or, sym, ap, ◌∙◌, arith}
use Rattle.std.proofs.Math.Seq.{drop-nil}
use Rattle.std.proofs.lemmas.List.{drop_more}
use Rattle.term_core.specs.declared.term.Term.{Term}
use Rattle.term_core.specs.Plain.{plain}
use Rattle.term_core.specs.PlainTerm.{PlainTerm, term_then, row_of, row_words, term_words}

-- what is left of a row is its next term and what is left behind it
pub row_left : (ts : List Term) (k : ℕ) (t : Term) → k < length ts → t ≡ get_or ts k t → row_of (map plain (drop k ts)) ≡ term_then (plain t) (row_of (map plain (drop (k + 1) ts)))
row_left ts k t below here = ap (λ us. row_of (map plain us)) (drop_more ts k t below) ∙ ap (λ u. term_then (plain u) (row_of (map plain (drop (k + 1) ts)))) (sym here)

left_words : (ts : List Term) (k : ℕ) → row_words (row_of (map plain (drop k ts))) ≤ row_words (row_of (map plain ts))
left_words [] k = omega (arith, ap (λ us. row_words (row_of (map plain us))) (drop-nil k))
left_words (t ∷ ts) zero = omega arith
left_words (t ∷ ts) (suc k) = omega (arith, left_words ts k)

-- a term has no more words than its row
pub item_within : (ts : List Term) (xs : List PlainTerm) (k : ℕ) (t : Term) → map plain ts ≡ xs → k < length ts → t ≡ get_or ts k t → term_words (plain t) ≤ row_words (row_of xs)
item_within ts xs k t same below here = omega (arith, left_words ts k, ap row_words (row_left ts k t below here), ap (λ us. row_words (row_of us)) same)

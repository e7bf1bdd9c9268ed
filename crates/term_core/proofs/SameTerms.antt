-- Lemmas on lists of the same terms, as the code compares them.
use Rattle.std.proofs.Common.{◌≡◌, ℕ, ◌+◌, ◌<◌, true, ◌&&◌, List, [], ◌∷◌, length, map, drop, get_or, refl, ap, ◌∙◌, arith}
use Rattle.term_core.specs.declared.term.Term.{Term}
use Rattle.term_core.specs.Plain.{plain}
use Rattle.term_core.specs.PlainTerm.{PlainTerm}
use Rattle.term_core.specs.Same.{is_same, are_same}
use Rattle.term_core.proofs.Lefts.{left_from}
use Rattle.std.proofs.lemmas.Bool.{and_parts}

-- what is left is the same where the first terms are and what is behind them
pub same_from : (xs ys : List Term) (i : ℕ) (x y : Term) → x ≡ get_or xs i x → y ≡ get_or ys i y → i < length xs → i < length ys → are_same (map plain (drop i xs)) (map plain (drop i ys)) ≡ (is_same (plain x) (plain y) && are_same (map plain (drop (i + 1) xs)) (map plain (drop (i + 1) ys)))
same_from xs ys i x y atx aty lessx lessy =
    ap (λ zs. are_same (map plain zs) (map plain (drop i ys))) (left_from xs i x atx lessx)
    ∙ ap (λ zs. are_same (map plain (x ∷ drop (i + 1) xs)) (map plain zs)) (left_from ys i y aty lessy)

-- the same lists are as long
pub same_length : (xs ys : List PlainTerm) → are_same xs ys ≡ true → length xs ≡ length ys
same_length [] [] h = refl
same_length (x ∷ xs) (y ∷ ys) h = omega (arith, same_length xs ys (and_parts (is_same x y) (are_same xs ys) h).1)
same_length xs ys h = cc

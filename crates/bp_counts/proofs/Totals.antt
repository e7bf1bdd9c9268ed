-- What the seat that has all hits is told, name by name.
use Rattle.std.proofs.Common.{◌≡◌, ℕ, zero, suc, ◌+◌, ◌<◌, List, [], ◌∷◌, ◌++◌, length, refl, sym, ap, ◌∙◌, arith}
use mathlib.Core.Logic.{dite}
use native.Mathlib.Decide.{ℕ_discrete}
use Rattle.std.proofs.lemmas.List.{length_push}
use Rattle.std.specs.Prelude.{Some, slice_get}
use Rattle.bp_counts.specs.Counters.{AreTotals}
use Rattle.bp_counts.specs.Tallies.{hits_of}

-- what stands at the end, and in front of it
last : (xs : List ℕ) (x n : ℕ) → length xs ≡ n → slice_get (xs ++ x ∷ []) n ≡ Some x
last [] x n long = ap (λ (k : ℕ). slice_get (x ∷ []) k) (sym long)
last (y ∷ ys) x zero long = absurd (omega arith)
last (y ∷ ys) x (suc n) long = last ys x n (omega arith)

front : (xs : List ℕ) (x n : ℕ) → n < length xs → slice_get (xs ++ x ∷ []) n ≡ slice_get xs n
front [] x n below = absurd (omega arith)
front (y ∷ ys) x zero below = refl
front (y ∷ ys) x (suc n) below = front ys x n (omega arith)

-- one name more
pub totals_more : (hits : List ℕ) (names : ℕ) (totals more : List ℕ) (found : ℕ) → AreTotals hits names totals → more ≡ totals ++ found ∷ [] → found ≡ hits_of names hits → AreTotals hits (names + 1) more
totals_more hits names totals more found h pushed is = record {
  long = ap length pushed ∙ length_push totals found ∙ ap (λ (n : ℕ). n + 1) h.long;
  each = λ which below. ap (λ (xs : List ℕ). slice_get xs which) pushed ∙ dite (ℕ_discrete which names)
      (λ same. last totals found which (h.long ∙ sym same) ∙ ap (λ (n : ℕ). Some n) is ∙ ap (λ (n : ℕ). Some (hits_of n hits)) (sym same))
      (λ other. let long = h.long in front totals found which (omega arith) ∙ h.each which (omega arith));
}

-- The least count from a number on that passes a test.
use Rattle.std.proofs.Common.{◌≡◌, ℕ, suc, ◌+◌, ◌-◌, ◌<◌, Bool, true, false, Some, None, refl, ◌∙◌, ap, arith}
use Rattle.std.specs.List.{find, range_with_len}

-- the first of these counts
counts_on : (k last : ℕ) → k < last → range_with_len k (last - k) ≡ range_with_len k (suc (last - (k + 1)))
counts_on k last below = let e : last - k ≡ suc (last - (k + 1)) = omega arith in ap (range_with_len k) e

-- it passes
pub first_count : (test : ℕ → Bool) (k last : ℕ) → k < last → test k ≡ true → find test (range_with_len k (last - k)) ≡ Some k
first_count test k last below passes = ap (find test) (counts_on k last below) ∙ (rw passes refl)

-- it does not, and others follow
pub later_count : (test : ℕ → Bool) (k last : ℕ) → k < last → test k ≡ false → find test (range_with_len k (last - k)) ≡ find test (range_with_len (k + 1) (last - (k + 1)))
later_count test k last below fails = ap (find test) (counts_on k last below) ∙ (rw fails refl)

-- there are none
pub no_count : (test : ℕ → Bool) (k last : ℕ) → k ≡ last → find test (range_with_len k (last - k)) ≡ None
no_count test k last same = let e : last - k ≡ 0 = omega arith in ap (λ n. find test (range_with_len k n)) e

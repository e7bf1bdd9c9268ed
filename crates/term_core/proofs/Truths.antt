-- Small facts on tests and options.
use Rattle.std.proofs.Common.{◌≡◌, ℕ, ◌<◌, ◌≤◌, ◌⊎◌, Bool, true, false, nat_lt, nat_le, Option, None, Some, is_some, IsSome, refl, ap, arith}
use Rattle.std.proofs.lemmas.Bool.Decides.{nat_tests}

-- no test is true and false
pub not_both : (b : Bool) → b ≡ true → b ≡ false → ⊥
not_both true h k = cc
not_both false h k = cc

-- what is none is no value
pub none_is_not_some : {X : Type 0} (o : Option X) (x : X) → o ≡ None → o ≡ Some x → ⊥
none_is_not_some None x e h = cc
none_is_not_some (Some y) x e h = cc

-- what is no value is none
pub none_unless : {X : Type 0} (o : Option X) → ((x : X) → o ≡ Some x → ⊥) → o ≡ None
none_unless None h = refl
none_unless (Some x) h = absurd (h x refl)

pub none_by : {X : Type 0} (o : Option X) → is_some o ≡ false → o ≡ None
none_by None h = refl
none_by (Some x) h = cc

-- what is false is not true
pub false_is_no_true : false ≡ true → ⊥
false_is_no_true h = cc

-- what has a value is there
pub is_some_at : {X : Type 0} (o : Option X) (x : X) → o ≡ Some x → IsSome o
is_some_at o x e = ap is_some e

-- what is there has a value
pub some_inside : {X : Type 0} (o : Option X) → IsSome o → (x : X) × (o ≡ Some x)
some_inside None h = cc
some_inside (Some x) h = (x, refl)

-- two numbers are in one of two orders or equal
pub three_ways : (m n : ℕ) → (m < n) ⊎ ((n < m) ⊎ (m ≡ n))
three_ways m n = grind arith

-- numbers by their tests
pub passes_lt : (m n : ℕ) → m < n → nat_lt m n ≡ true
passes_lt m n h = grind (arith, nat_tests)

pub test_lt : (m n : ℕ) → nat_lt m n ≡ true → m < n
test_lt m n h = grind (arith, nat_tests)

pub test_not_lt : (m n : ℕ) → nat_lt m n ≡ false → n ≤ m
test_not_lt m n h = grind (arith, nat_tests)

pub test_le : (m n : ℕ) → nat_le m n ≡ true → m ≤ n
test_le m n h = grind (arith, nat_tests)

-- Facts that hold in the same cases.
use Rattle.std.proofs.Common.{◌≡◌, ◌↔◌, Bool, true, false, IsTrue, subst, sym}

-- one after the other
pub through : {P Q R : Type 0} → (P ↔ Q) → (Q ↔ R) → P ↔ R
through a b = (λ h. b.0 (a.0 h), λ h. a.1 (b.1 h))

-- a fact of equal things
pub of_equal : {X : Type 0} (P : X → Type 0) (x y : X) → x ≡ y → P x ↔ P y
of_equal P x y e = (subst P e, subst P (sym e))

-- no, where the fact has no proof
pub never : {P : Type 0} → (P → ⊥) → (false ≡ true) ↔ P
never n = (λ h. absurd (cc), λ p. absurd (n p))

-- yes, where the fact has one
pub always : {P : Type 0} → P → (true ≡ true) ↔ P
always p = (λ h. p, λ q. (cc))

-- a step whose answer was yes
pub stepped : {P Q : Type 0} (r : Bool) → r ≡ true → P ↔ (IsTrue r × Q) → P ↔ Q
stepped r answer h = (λ p. (h.0 p).1, λ q. h.1 (answer, q))

-- and one whose answer was no
pub refused : {P Q : Type 0} (r : Bool) → r ≡ false → P ↔ (IsTrue r × Q) → P → ⊥
refused r answer h p = absurd (cc (answer, (h.0 p).0))

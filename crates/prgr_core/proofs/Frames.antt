-- One member becomes another, and no other changes: what holds of each member, and of each two.
use Rattle.std.proofs.Common.{◌≡◌, ◌⊎◌, inl, inr, sym, subst}
use Rattle.prgr_core.specs.declared.member.Member.{Member}

-- a was a member, and each new member is b or was one before, with another number
pub record Becomes (Old New : Member → Type 0) (a b : Member) : Type 0 where
  pub was : Old a
  pub each : (x : Member) → New x → (x ≡ b) ⊎ (Old x × (x.number ≡ b.number → ⊥))

module _ {Old New : Member → Type 0} {a b : Member} (change : Becomes Old New a b) where
  -- a fact of each member
  pub each_member : (P : Member → Type 0) → P b → ((x : Member) → Old x → (x.number ≡ b.number → ⊥) → P x) → (x : Member) → New x → P x
  each_member P new old x is = elim (change.each x is) as (λ _. P x) [ inl e ↦ subst P (sym e) new | inr o ↦ old x o.0 o.1 ]

  -- a fact of each two members
  pub each_two : (R : Member → Member → Type 0) → R b b → ((y : Member) → Old y → R b y) → ((x : Member) → Old x → R x b) → ((x y : Member) → Old x → Old y → R x y) → (x y : Member) → New x → New y → R x y
  each_two R both left right old x y is_x is_y =
      each_member (λ z. R z y)
      (each_member (λ z. R b z) both (λ z o _. left z o) y is_y)
      (λ z o _. each_member (λ w. R z w) (right z o) (λ w p _. old z w o p) y is_y)
      x is_x

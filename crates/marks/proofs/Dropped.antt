-- The newest of marks up to a generation, and what does not name an area that was dropped.
use Rattle.std.proofs.Common.{◌≡◌, ℕ, zero, suc, ◌≤◌, Bool, true, false, cond, List, [], ◌∷◌, Option, Some, inl, inr, refl, subst, arith}
use Rattle.std.specs.Prelude.{nat_le, slice_get}
use Rattle.std.specs.Option.{IfSome}
use Rattle.std.proofs.lemmas.Bool.{cases_Bool, leb-true, leb-false}
use Rattle.marks.specs.declared.kept.LookKind.{LookKind}
use Rattle.marks.specs.declared.kept.DroppedArea.{DroppedArea}
use Rattle.marks.specs.declared.mark.Mark.{Mark}
use Rattle.marks.specs.declared.mark.ProcessView.{ProcessView}
use Rattle.marks.specs.Names.{MarkNames, last_names, IsAtRest}
use Rattle.marks.specs.Kept.{AreFalling, mark_now, last_mark_up_to, MarksNameNot, IsDropped}
use Rattle.marks.proofs.Anchors.{last_rest}

-- ---- a choice

pub first_or_rest : (b : Bool) (m : Mark) (rest : Option Mark) (P : Mark → Type 0) → (b ≡ true → P m) → (b ≡ false → IfSome rest P) → IfSome (cond b (Some m) rest) P
first_or_rest true m rest P first others = first refl
first_or_rest false m rest P first others = others refl

rest_of : (b : Bool) (m : Mark) (rest : Option Mark) (P : Mark → Type 0) → IfSome (cond b (Some m) rest) P → b ≡ false → IfSome rest P
rest_of true m rest P some e = absurd (cc)
rest_of false m rest P some e = some

-- ---- marks that fall

-- marks that fall from a generation fall from a later one
pub falling_from : (g later : ℕ) (marks : List Mark) → g ≤ later → AreFalling g marks → AreFalling later marks
falling_from g later [] most falling = falling
falling_from g later (m ∷ marks) most falling = (omega (arith, most, falling.0), falling.1)

-- each is under no later generation
pub falling_each : (g : ℕ) (marks : List Mark) (i : ℕ) (m : Mark) → AreFalling g marks → slice_get marks i ≡ Some m → m.generation ≤ g
falling_each g [] i m falling at = absurd (cc)
falling_each g (x ∷ marks) zero m falling at = let same : x ≡ m = cc in subst (λ (y : Mark). y.generation ≤ g) same falling.0
falling_each g (x ∷ marks) (suc i) m falling at = let below = falling_each x.generation marks i m falling.1 at in omega (arith, below, falling.0)

-- where all marks are under no later generation than this, the newest up to it is the last
pub newest_unnamed : (g n : ℕ) (kind : LookKind) (serial : ℕ) (marks : List Mark) → AreFalling g marks → g ≤ n → (MarkNames kind (last_names marks) serial → ⊥) → IfSome (last_mark_up_to n marks) (MarksNameNot kind serial)
newest_unnamed g n kind serial [] falling most unnamed = tt
newest_unnamed g n kind serial (m ∷ marks) falling most unnamed =
    first_or_rest (nat_le m.generation n) m (last_mark_up_to n marks) (MarksNameNot kind serial) (λ _. unnamed)
    (λ beyond. absurd (let above = leb-false m.generation n beyond in omega (arith, above, falling.0, most)))

-- ---- a drop

module _ (d : DroppedArea) (p : ProcessView) where
  -- beneath the mark that a turn under way counts as
  pub beneath_now : (g : ℕ) → IfSome (last_mark_up_to d.generation (mark_now g p ∷ p.marks)) (MarksNameNot d.wait.kind d.wait.serial) → nat_le g d.generation ≡ false → IfSome (last_mark_up_to d.generation p.marks) (MarksNameNot d.wait.kind d.wait.serial)
  beneath_now g some beyond = rest_of (nat_le g d.generation) (mark_now g p) (last_mark_up_to d.generation p.marks) (MarksNameNot d.wait.kind d.wait.serial) some beyond

  -- at rest, the last mark up to the drop does not name the area
  pub dropped_rest : (g process : ℕ) → AreFalling g p.marks → IsAtRest p → IsDropped g process d p → IfSome (last_mark_up_to d.generation p.marks) (MarksNameNot d.wait.kind d.wait.serial)
  dropped_rest g process falling rest dropped =
      elim (cases_Bool (nat_le g d.generation)) as (λ _. IfSome (last_mark_up_to d.generation p.marks) (MarksNameNot d.wait.kind d.wait.serial)) [
        | inl under ↦ newest_unnamed g d.generation d.wait.kind d.wait.serial p.marks falling (leb-true g d.generation under) (λ named. dropped.slot (last_rest p rest d.wait.kind d.wait.serial named))
        | inr beyond ↦ beneath_now g dropped.marks beyond
      ]

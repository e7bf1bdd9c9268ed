-- What is kept of marks, newest first, holds of the turns from the first on.
use Rattle.std.proofs.Common.{◌≡◌, ℕ, zero, suc, ◌+◌, ◌-◌, ◌≤◌, Bool, true, false, cond, List, [], ◌∷◌, ◌++◌, Option, Some, None, is_some, length, refl, sym, ap, ◌∙◌, subst, arith}
use Rattle.std.specs.Prelude.{nat_le, slice_get, reverse}
use Rattle.std.specs.Option.{IfSome}
use Rattle.std.proofs.lemmas.Grind.{reverse_onto}
use Rattle.std.proofs.lemmas.List.{length-reverse}
use Rattle.std.proofs.lemmas.Option.{slice_get_within}
use Rattle.area_core.specs.Blocks.{Among}
use Rattle.marks.specs.declared.kept.DroppedArea.{DroppedArea}
use Rattle.marks.specs.declared.kept.LingeringFrame.{LingeringFrame}
use Rattle.marks.specs.declared.kept.WriterKept.{WriterKept}
use Rattle.marks.specs.declared.mark.Mark.{Mark}
use Rattle.marks.specs.declared.mark.ProcessView.{ProcessView}
use Rattle.marks.specs.Names.{IsAtRest}
use Rattle.marks.specs.Kept.{Under, mark_now, last_mark_up_to, MarksNameNot, LingersByMarks, IsKnown}
use Rattle.marks.specs.InOrder.{last_turn_up_to, LingersAfter}
use Rattle.marks.proofs.Anchors.{has_element}
use Rattle.marks.proofs.Dropped.{dropped_rest}

-- ---- the last turn up to a generation

-- one more turn at the end
last_more : (n : ℕ) (turns : List Mark) (m : Mark) → last_turn_up_to n (turns ++ m ∷ []) ≡ cond (nat_le m.generation n) (Some m) (last_turn_up_to n turns)
last_more n [] m = refl
last_more n (x ∷ turns) m = ap (λ (o : Option Mark). cond (is_some o) o (cond (nat_le x.generation n) (Some x) None)) (last_more n turns m) ∙ by_case (nat_le m.generation n)
  where
    by_case : (b : Bool) → cond (is_some (cond b (Some m) (last_turn_up_to n turns))) (cond b (Some m) (last_turn_up_to n turns)) (cond (nat_le x.generation n) (Some x) None) ≡ cond b (Some m) (last_turn_up_to n (x ∷ turns))
    by_case true = refl
    by_case false = refl

-- the last turn is the newest mark
last_reverse : (n : ℕ) (marks : List Mark) → last_turn_up_to n (reverse marks) ≡ last_mark_up_to n marks
last_reverse n [] = refl
last_reverse n (m ∷ marks) = ap (last_turn_up_to n) (reverse_onto marks m []) ∙ last_more n (reverse marks) m ∙ ap (cond (nat_le m.generation n) (Some m)) (last_reverse n marks)

in_order : (n : ℕ) (marks : List Mark) (P : Mark → Type 0) → IfSome (last_mark_up_to n marks) P → IfSome (last_turn_up_to n (reverse marks)) P
in_order n marks P some = subst (λ (o : Option Mark). IfSome o P) (sym (last_reverse n marks)) some

pub drop_true : (u : Under) (process : ℕ) (p : ProcessView) (k : WriterKept) (d : DroppedArea) → IsKnown u process p k → IsAtRest p → Among k.dropped d → IfSome (last_turn_up_to d.generation (reverse p.marks)) (MarksNameNot d.wait.kind d.wait.serial)
drop_true u process p k d s rest among = in_order d.generation p.marks (MarksNameNot d.wait.kind d.wait.serial) (dropped_rest d p u.generation process s.falling rest (s.dropped d among))

pub drop_true_under_way : (u : Under) (process : ℕ) (p : ProcessView) (k : WriterKept) (d : DroppedArea) → IsKnown u process p k → Among k.dropped d → IfSome (last_turn_up_to d.generation (reverse (mark_now u.generation p ∷ p.marks))) (MarksNameNot d.wait.kind d.wait.serial)
drop_true_under_way u process p k d s among = in_order d.generation (mark_now u.generation p ∷ p.marks) (MarksNameNot d.wait.kind d.wait.serial) (s.dropped d among).marks

-- ---- places

-- a place of a list is one of the list with more behind it
at_front : {X : Type 0} (xs ys : List X) (i : ℕ) (x : X) → slice_get xs i ≡ Some x → slice_get (xs ++ ys) i ≡ Some x
at_front [] ys i x at = absurd (cc)
at_front (z ∷ zs) ys zero x at = at
at_front (z ∷ zs) ys (suc i) x at = at_front zs ys i x at

-- what is behind a list stands at its length
at_end : {X : Type 0} (xs : List X) (x : X) (i : ℕ) → i ≡ length xs → slice_get (xs ++ x ∷ []) i ≡ Some x
at_end [] x zero e = refl
at_end [] x (suc i) e = absurd (omega (arith, e))
at_end (z ∷ zs) x zero e = absurd (omega (arith, e))
at_end (z ∷ zs) x (suc i) e = at_end zs x i (omega (arith, e))

-- a place counted from the other end
at_reverse : {X : Type 0} (xs : List X) (i j : ℕ) (x : X) → i + j + 1 ≡ length xs → slice_get xs i ≡ Some x → slice_get (reverse xs) j ≡ Some x
at_reverse [] i j x e at = absurd (cc)
at_reverse (z ∷ zs) zero j x e at =
    let same : z ≡ x = cc in
    ap (λ (ys : List _). slice_get ys j) (reverse_onto zs z []) ∙ at_end (reverse zs) z j (omega (arith, e, length-reverse zs)) ∙ ap Some same
at_reverse (z ∷ zs) (suc i) j x e at = ap (λ (ys : List _). slice_get ys j) (reverse_onto zs z []) ∙ at_front (reverse zs) (z ∷ []) j x (at_reverse zs i j x (omega (arith, e)) at)

from_reverse : {X : Type 0} (xs : List X) (i j : ℕ) (x : X) → i + j + 1 ≡ length xs → slice_get (reverse xs) j ≡ Some x → slice_get xs i ≡ Some x
from_reverse xs i j x e at =
    let there = has_element xs i (omega (arith, e)) in
    there.1 ∙ sym (at_reverse xs i j there.0 e there.1) ∙ at

-- ---- answers

module _ (l : LingeringFrame) (marks : List Mark) (lingers : LingersByMarks l marks) where
  abbrev turn : ℕ
  turn = l.turns - 1

  counted : lingers.place + turn + 1 ≡ length marks
  counted = omega (arith, lingers.counted, lingers.some)

  next : (found : Option Mark) → slice_get (reverse marks) (turn + 1) ≡ found → IfSome found (λ m. l.wait.generation ≤ m.generation)
  next None at = tt
  next (Some m) at =
      let within = slice_get_within (reverse marks) (turn + 1) m at in
      lingers.later (lingers.place - 1) m (from_reverse marks (lingers.place - 1) (turn + 1) m (omega (arith, counted, within, length-reverse marks)) at) (omega (arith, counted, within, length-reverse marks, lingers.some))

  lingers_in_order : LingersAfter l.wait.serial l.wait.generation l.turns (reverse marks)
  lingers_in_order = record {
    place = turn;
    mark = lingers.mark;
    counted = omega (arith, lingers.some);
    had = at_reverse marks lingers.place turn lingers.mark counted lingers.at;
    seen = lingers.seen;
    stands = lingers.named;
    next = next (slice_get (reverse marks) (turn + 1)) refl;
  }

pub answer_true : (u : Under) (process : ℕ) (p : ProcessView) (k : WriterKept) (l : LingeringFrame) → IsKnown u process p k → Among k.lingering l → l.process ≡ process → LingersAfter l.wait.serial l.wait.generation l.turns (reverse p.marks)
answer_true u process p k l s among own = lingers_in_order l p.marks (s.lingering l among own)

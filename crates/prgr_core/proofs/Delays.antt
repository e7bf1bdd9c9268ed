-- The two delay counters, and how many watchers hold the count of each.
use Rattle.std.proofs.Common.{◌≡◌, ℕ, ◌+◌, ◌≤◌, ◌%◌, Bool, true, false, cond, not, List, Some, refl, sym, ◌∙◌, ap, subst, arith, eqb}
use Rattle.std.proofs.Math.Nat.{add-mod_right}
use Rattle.std.proofs.lemmas.List.Sums.{sum_by-set}
use Rattle.std.proofs.lemmas.Option.{slice_get_within, get_or_from_slice_get}
use Rattle.std.specs.Prelude.{slice_get, slice_set, if◌then◌else◌}
use Rattle.prgr_core.specs.declared.watcher.Delay.{Delay}
use Rattle.prgr_core.specs.declared.watcher.Delay.TheVariants.{Even, Odd}
use Rattle.prgr_core.specs.declared.watcher.Watcher.{Watcher}
use Rattle.prgr_core.specs.Watchers.{delay_of, other_delay, is_same_delay, of_delay, holds_delay, holders, with_held_count}
use Rattle.prgr_core.specs.Invariant.{CountsHolders}

-- ---- the two

pub same_delay : (d e : Delay) → is_same_delay d e ≡ true → d ≡ e
same_delay Even Odd is = absurd (cc)
same_delay Odd Even is = absurd (cc)
same_delay d e is = refl

pub different_delay : (d e : Delay) → not (is_same_delay d e) ≡ true → d ≡ other_delay e
different_delay Even Odd is = refl
different_delay Odd Even is = refl
different_delay d e is = absurd (cc)

-- two values further the delay counter is the same
pub delay_of-two : (c : ℕ) → delay_of (c + 1 + 1) ≡ delay_of c
delay_of-two c =
    let two : (c + 1 + 1) % 2 ≡ c % 2 = ap (λ (n : ℕ). n % 2) (omega arith) ∙ add-mod_right c 2 in
    ap (λ (r : ℕ). if eqb r 0 then Even else Odd) two

-- ---- what a watcher holds

pub hold_set : (d : Delay) (b : Bool) (w : Watcher) → holds_delay d (with_held_count d b w) ≡ b
hold_set Even b w = refl
hold_set Odd b w = refl

pub hold_kept : (d : Delay) (b : Bool) (w : Watcher) → holds_delay (other_delay d) (with_held_count d b w) ≡ holds_delay (other_delay d) w
hold_kept Even b w = refl
hold_kept Odd b w = refl

-- ---- the holders

-- where a watcher gives way to another, the number of holders changes by what the two hold
holders_set : (d : Delay) (ws : List Watcher) (k : ℕ) (a b : Watcher) → slice_get ws k ≡ Some a → holders d (slice_set ws k b) + cond (holds_delay d a) 1 0 ≡ holders d ws + cond (holds_delay d b) 1 0
holders_set d ws k a b at =
    subst (λ (x : Watcher). holders d (slice_set ws k b) + cond (holds_delay d x) 1 0 ≡ holders d ws + cond (holds_delay d b) 1 0)
    (get_or_from_slice_get ws k a a at)
    (sum_by-set (λ x. cond (holds_delay d x) 1 0) ws k b a (slice_get_within ws k a at))

module _ (d : Delay) (ws : List Watcher) (k : ℕ) (a b : Watcher) (at : slice_get ws k ≡ Some a) where
  -- one holds what the other did not
  pub holders_gain : holds_delay d a ≡ false → holds_delay d b ≡ true → holders d (slice_set ws k b) ≡ holders d ws + 1
  holders_gain before now =
      let changed = holders_set d ws k a b at in
      let none : ◌≡◌ {A = ℕ} (cond (holds_delay d a) 1 0) 0 = ap (λ (x : Bool). cond x 1 0) before in
      let one : ◌≡◌ {A = ℕ} (cond (holds_delay d b) 1 0) 1 = ap (λ (x : Bool). cond x 1 0) now in
      omega (arith, changed, none, one)

  -- one does not hold what the other did
  pub holders_lose : holds_delay d a ≡ true → holds_delay d b ≡ false → holders d (slice_set ws k b) + 1 ≡ holders d ws
  holders_lose before now =
      let changed = holders_set d ws k a b at in
      let one : ◌≡◌ {A = ℕ} (cond (holds_delay d a) 1 0) 1 = ap (λ (x : Bool). cond x 1 0) before in
      let none : ◌≡◌ {A = ℕ} (cond (holds_delay d b) 1 0) 0 = ap (λ (x : Bool). cond x 1 0) now in
      omega (arith, changed, none, one)

  -- the two hold the same
  pub holders_keep : holds_delay d b ≡ holds_delay d a → holders d (slice_set ws k b) ≡ holders d ws
  holders_keep same =
      let changed = holders_set d ws k a b at in
      let as_before : ◌≡◌ {A = ℕ} (cond (holds_delay d b) 1 0) (cond (holds_delay d a) 1 0) = ap (λ (x : Bool). cond x 1 0) same in
      omega (arith, changed, as_before)

-- a count that a watcher holds has a holder
pub is_held : (d : Delay) (ws : List Watcher) (k : ℕ) (a : Watcher) → slice_get ws k ≡ Some a → holds_delay d a ≡ true → 1 ≤ holders d ws
is_held d ws k a at held =
    let fewer = holders_lose d ws k a (with_held_count d false a) at held (hold_set d false a) in
    omega (arith, fewer)

-- ---- the counts

-- of two counts one has changed, as its holders have
pub counted_after : (d : Delay) (even odd count : ℕ) (old new : List Watcher) → ((e : Delay) → CountsHolders old e (of_delay e even odd)) → count ≡ holders d new → holders (other_delay d) new ≡ holders (other_delay d) old → (e : Delay) → CountsHolders new e (of_delay e (of_delay d count even) (of_delay d odd count))
counted_after Even even odd count old new before changed kept Odd = before Odd ∙ sym kept
counted_after Odd even odd count old new before changed kept Even = before Even ∙ sym kept
counted_after d even odd count old new before changed kept e = changed

-- of two counts none has changed
pub counted_still : (even odd : ℕ) (old new : List Watcher) → ((e : Delay) → CountsHolders old e (of_delay e even odd)) → ((e : Delay) → holders e new ≡ holders e old) → (e : Delay) → CountsHolders new e (of_delay e even odd)
counted_still even odd old new before kept e = before e ∙ sym (kept e)

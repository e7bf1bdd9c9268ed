-- The place of a text tells its name and version, so no two texts agree in both.
use Rattle.std.proofs.Common.{◌≡◌, ℕ, zero, suc, ◌+◌, ◌/◌, ◌%◌, List, [], ◌∷◌, ◌++◌, length, All, Some, slice_get, length-append, refl, subst, sym, ap, arith}
use Rattle.std.proofs.lemmas.List.Elements.{All-push, All-nil}
use Rattle.std.proofs.lemmas.Option.{none-some, same_Some}
use Rattle.mod_core.specs.declared.code.Module.{Module}
use Rattle.mod_core.specs.Module.{IsModule}
use Rattle.server_core.specs.CommandTable.{AreTexts}
use Rattle.server_tests.proofs.steps.texts.Goals as goal

placed_push : (P : ℕ → Module → Type 0) (xs : List Module) (x : Module) → ((i : ℕ) (m : Module) → slice_get xs i ≡ Some m → P i m) → P (length xs) x
    → (i : ℕ) (m : Module) → slice_get (xs ++ x ∷ []) i ≡ Some m → P i m
placed_push P [] x each here zero m at = subst (P 0) (same_Some x m at) here
placed_push P [] x each here (suc i) m at = absurd (grind arith)
placed_push P (y ∷ ys) x each here zero m at = each 0 m at
placed_push P (y ∷ ys) x each here (suc i) m at = placed_push (λ k. P (suc k)) ys x (λ k. each (suc k)) here i m at

abbrev IsPlaced : ℕ → Module → Type 0
IsPlaced i m = (m.name.0 ≡ 3 + i / 3) × (m.version ≡ 1 + i % 3)

are_texts : (texts : List Module) → All IsModule texts → ((i : ℕ) (m : Module) → slice_get texts i ≡ Some m → IsPlaced i m) → AreTexts texts
are_texts texts sound placed = record {
  sound = sound;
  apart = λ i j m n below at_i at_j name version. omega (arith, placed i m at_i, placed j n at_j, ap (λ a. a.0) name, version);
}

-- what holds of the texts made so far
record AreMade (texts : List Module) (k : ℕ) : Type 0 where
  sound : All IsModule texts
  placed : (i : ℕ) (m : Module) → slice_get texts i ≡ Some m → IsPlaced i m
  len : length texts ≡ k

none_made : (texts : List Module) → texts ≡ [] → AreMade texts 0
none_made texts none =
    let empty : AreMade [] 0 = record { sound = All-nil IsModule; placed = λ i m at. absurd (none-some m at); len = refl } in
    subst (λ ts. AreMade ts 0) (sym none) empty

one_made : (texts more : List Module) (m : Module) (k : ℕ) → AreMade texts k → more ≡ texts ++ m ∷ [] → IsModule m → m.name.0 ≡ 3 + k / 3 → m.version ≡ 1 + k % 3 → AreMade more (k + 1)
one_made texts more m k made pushed sound name version =
    let here : IsPlaced (length texts) m = subst (λ n. IsPlaced n m) (sym made.len) (name, version) in
    let all : AreMade (texts ++ m ∷ []) (k + 1) = record {
      sound = All-push IsModule texts m made.sound sound;
      placed = placed_push IsPlaced texts m made.placed here;
      len = omega (arith, length-append texts (m ∷ []), made.len);
    } in
    subst (λ ts. AreMade ts (k + 1)) (sym pushed) all

pub loop-k-init : goal.loop-k-init
loop-k-init c = let made = none_made c.new-texts.result c.new-texts.ensures in record { sound = made.sound; placed = made.placed; len = made.len }

pub loop-k-preserved : goal.loop-k-preserved
loop-k-preserved c =
    let before : AreMade c.loop-k.texts c.loop-k.k = record { sound = c.loop-k.invariant.sound; placed = c.loop-k.invariant.placed; len = c.loop-k.invariant.len } in
    let made = one_made c.loop-k.texts c.push.new.self c.in_ok-text.field-0 c.loop-k.k before c.in_ok-push.ensures.ok c.in_ok-text.ensures.sound c.in_ok-text.ensures.named c.in_ok-text.ensures.version in
    record { sound = made.sound; placed = made.placed; len = made.len }

pub returns : goal.returns
returns c = are_texts c.loop-k.texts c.loop-k.invariant.sound c.loop-k.invariant.placed

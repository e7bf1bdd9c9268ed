-- What the place of the first operation that is due says of the operations.
use Rattle.std.proofs.Common.{◌≡◌, ℕ, ◌+◌, ◌<◌, Bool, true, false, cond, List, [], ◌∷◌, Option, Some, None, option_map, position, slice_index_or, refl, sym, ap, subst, ◌∙◌, arith, add-one}
use Rattle.std.specs.List.{remove}
use Rattle.std.proofs.lemmas.Bool.Decides.{nat_tests}
use Rattle.std.proofs.lemmas.List.Elements.{All-nil, All-cons, All-head, All-tail}
use Rattle.term_core.proofs.Places.{position-cons}
use Rattle.later_ops.specs.Later.{Waiting, is_due, first_due, without_due, NoneIsDue}

-- what there is to say where none is due
pub record NothingDue {T : Type 0} (current : ℕ) (ws : List (ℕ × T)) : Type 0 where
  pub first : first_due current ws ≡ None
  pub rest : without_due current ws ≡ ws
  pub none : NoneIsDue current ws

-- what there is to say where the first that is due stands at this place
pub record DueAt {T : Type 0} (current : ℕ) (ws : List (ℕ × T)) (i : ℕ) : Type 0 where
  pub first : (d : ℕ × T) → first_due current ws ≡ Some (slice_index_or ws i d).1
  pub rest : without_due current ws ≡ remove ws i
  pub some : NoneIsDue current ws → ⊥

-- the same of what was found
abbrev IsPlaced : {T : Type 0} → ℕ → List (ℕ × T) → Option ℕ → Type 0
IsPlaced current ws None = NothingDue current ws
IsPlaced current ws (Some i) = DueAt current ws i

module _ {T : Type 0} (current : ℕ) where
  -- one more in front
  placed_after : (w : ℕ × T) (ws : List (ℕ × T)) (b : Bool) → is_due current w ≡ b → (o : Option ℕ) → IsPlaced current ws o → IsPlaced current (w ∷ ws) (cond b (Some 0) (option_map (λ i. i + 1) o))
  placed_after w ws true is o h = record {
    first = λ d. ap (λ t. cond t (Some w.1) (first_due current ws)) is;
    rest = ap (λ t. cond t ws (w ∷ without_due current ws)) is;
    some = λ none. (let late : current < w.0 = All-head (λ (x : ℕ × T). current < x.0) w ws none in absurd (grind (arith, nat_tests)));
  }
  placed_after w ws false is None h = record {
    first = ap (λ t. cond t (Some w.1) (first_due current ws)) is ∙ h.first;
    rest = ap (λ t. cond t ws (w ∷ without_due current ws)) is ∙ ap (λ (xs : List (ℕ × T)). w ∷ xs) h.rest;
    none = All-cons (λ (x : ℕ × T). current < x.0) w ws (grind (arith, nat_tests)) h.none;
  }
  placed_after w ws false is (Some i) h = subst (λ k. DueAt current (w ∷ ws) k) (sym (add-one i)) (record {
    first = λ d. ap (λ t. cond t (Some w.1) (first_due current ws)) is ∙ h.first d;
    rest = ap (λ t. cond t ws (w ∷ without_due current ws)) is ∙ ap (λ (xs : List (ℕ × T)). w ∷ xs) h.rest;
    some = λ none. h.some (All-tail (λ (x : ℕ × T). current < x.0) w ws none);
  })

  placed : (ws : List (ℕ × T)) → IsPlaced current ws (position (is_due current) ws)
  placed [] = record { first = refl; rest = refl; none = All-nil (λ (x : ℕ × T). current < x.0) }
  placed (w ∷ ws) =
      subst (λ o. IsPlaced current (w ∷ ws) o) (sym (position-cons (is_due current) w ws)) (placed_after w ws (is_due current w) refl (position (is_due current) ws) (placed ws))

  module _ (now : Waiting T) (held slice : List (ℕ × T)) (room : ℕ) (seen : now ≡ (held, room)) (lent : slice ≡ held) (found : Option ℕ) (sought : found ≡ position (is_due current) slice) where
    -- what was found of what is held
    is_placed : (o : Option ℕ) → found ≡ o → IsPlaced current now.0 o
    is_placed o e =
        subst (IsPlaced current now.0) (sym (ap (position (is_due current)) (lent ∙ sym (ap (λ (w : Waiting T). w.0) seen))) ∙ sym sought ∙ e) (placed now.0)

    -- where none is due
    pub nothing_due : found ≡ None → NothingDue current now.0
    nothing_due e = is_placed None e

    -- where one is due
    pub due_at : (i : ℕ) → found ≡ Some i → DueAt current now.0 i
    due_at i e = is_placed (Some i) e

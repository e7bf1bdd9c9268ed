-- A loop over the observers.
use Rattle.std.proofs.Common.{◌≡◌, ◌⊎◌, inl, inr, ℕ, zero, suc, ◌+◌, ◌<◌, ◌≤◌, Bool, true, false, List, [], ◌∷◌, length, get_or, set, length-set, slice_get, Some, refl, sym, ap, subst, ◌∙◌, arith}
use Rattle.std.proofs.lemmas.Bool.{cases_lt}
use Rattle.std.proofs.lemmas.Option.{none-some, same_Some, slice_get-get_or, slice_get_read, slice_get_within}
use Rattle.server_core.specs.ServerState.{ServerState}
use Rattle.run_log.specs.declared.logs.Snapshot.{Snapshot}
use Rattle.legality.specs.Observers.{AllSee, OneErrs, SeesMore, SeesOther, SeesSo}

-- ---- a write in a list

pub set_here : {X : Type 0} (xs : List X) (i : ℕ) (y z : X) → slice_get (set xs i y) i ≡ Some z → y ≡ z
set_here [] i y z h = absurd (none-some z h)
set_here (x ∷ xs) zero y z h = same_Some y z h
set_here (x ∷ xs) (suc i) y z h = set_here xs i y z h

pub set_there : {X : Type 0} (xs : List X) (i : ℕ) (y : X) (k : ℕ) → (k ≡ i → ⊥) → slice_get (set xs i y) k ≡ slice_get xs k
set_there [] i y k n = refl
set_there (x ∷ xs) zero y zero n = absurd (n refl)
set_there (x ∷ xs) zero y (suc k) n = refl
set_there (x ∷ xs) (suc i) y zero n = refl
set_there (x ∷ xs) (suc i) y (suc k) n = set_there xs i y k (λ e. n (ap suc e))

-- ---- observers

-- the observers before a place see more, and the others were not looked at
pub record HaveSeen (names : List (List ℕ)) (s : ServerState) (observers : List (List Snapshot)) (before now : List ℕ) (place : ℕ) : Type 0 where
  pub many : length now ≡ length before
  pub each : (observer from to : ℕ) (shots : List Snapshot) → observer < place → slice_get observers observer ≡ Some shots → slice_get before observer ≡ Some from → slice_get now observer ≡ Some to → SeesMore names s shots from to
  pub rest : (observer : ℕ) → place ≤ observer → slice_get now observer ≡ slice_get before observer

module _ (names : List (List ℕ)) (s : ServerState) (observers : List (List Snapshot)) (before : List ℕ) where
  -- none was looked at
  pub none_seen : HaveSeen names s observers before before 0
  none_seen = record { many = refl; each = λ observer from to shots low at was is. absurd (omega (arith, low)); rest = λ observer low. refl }

  module _ (now : List ℕ) (place : ℕ) (so_far : HaveSeen names s observers before now place) where
    -- one more sees
    pub one_seen : (shots : List Snapshot) (from to : ℕ) → slice_get observers place ≡ Some shots → slice_get now place ≡ Some from → SeesMore names s shots from to → HaveSeen names s observers before (set now place to) (place + 1)
    one_seen shots from to at was more = record {
      many = length-set now place to ∙ so_far.many;
      each = λ observer f t xs low at_xs was_f is_t. by observer f t xs low at_xs was_f is_t (cases_lt observer place);
      rest = λ observer low. set_there now place to observer (λ e. omega (arith, e, low)) ∙ so_far.rest observer (omega (arith, low));
    }
      where
        by : (observer f t : ℕ) (xs : List Snapshot) → observer < place + 1 → slice_get observers observer ≡ Some xs → slice_get before observer ≡ Some f → slice_get (set now place to) observer ≡ Some t → (observer < place) ⊎ (place ≤ observer)
            → SeesMore names s xs f t
        by observer f t xs low at_xs was_f is_t (inl less) = so_far.each observer f t xs less at_xs was_f (sym (set_there now place to observer (λ e. omega (arith, e, less))) ∙ is_t)
        by observer f t xs low at_xs was_f is_t (inr high) =
            let same : place ≡ observer = omega (arith, low, high) in
            let to_is : to ≡ t = set_here now place to t (ap (slice_get (set now place to)) same ∙ is_t) in
            let from_is : from ≡ f = same_Some from f (sym was ∙ so_far.rest place (omega arith) ∙ ap (slice_get before) same ∙ was_f) in
            let shots_is : shots ≡ xs = same_Some shots xs (sym at ∙ ap (slice_get observers) same ∙ at_xs) in
            subst (λ x. SeesMore names s x f t) shots_is (subst (λ x. SeesMore names s shots x t) from_is (subst (λ x. SeesMore names s shots from x) to_is more))

    -- all see
    pub all_seen : length observers ≤ place → AllSee names s observers before now
    all_seen end = record {
      many = so_far.many;
      each = λ observer from to shots at was is. so_far.each observer from to shots (let h = slice_get_within observers observer shots at in omega (arith, h, end)) at was is;
    }

    module _ (shots : List Snapshot) (place_within : place < length observers) (as_many : length before ≡ length observers) (is : shots ≡ get_or observers place shots) where
      shots_at : slice_get observers place ≡ Some shots
      shots_at = slice_get_read observers (length observers) place shots refl place_within is

      now_at : slice_get now place ≡ Some (get_or now place 0)
      now_at = slice_get-get_or now place 0 (omega (arith, place_within, as_many, so_far.many))

      -- what the code reads of the next observer
      pub next_within : (read : List Snapshot) → read ≡ shots → ((observer count : ℕ) (xs : List Snapshot) → slice_get observers observer ≡ Some xs → slice_get before observer ≡ Some count → count ≤ length xs) → get_or now place 0 ≤ length read
      next_within read e h = subst (λ xs. get_or now place 0 ≤ length xs) (sym e) (h place (get_or now place 0) shots shots_at (sym (so_far.rest place (omega arith)) ∙ now_at))

      -- and of its snapshots
      pub next_seen : (read : List Snapshot) (to : ℕ) (yes : Bool) → read ≡ shots → yes ≡ true → SeesSo names s read (get_or now place 0) to yes → HaveSeen names s observers before (set now place to) (place + 1)
      next_seen read to judged e is_yes h =
          one_seen shots (get_or now place 0) to shots_at now_at (subst (λ xs. SeesMore names s xs (get_or now place 0) to) e (subst (SeesSo names s read (get_or now place 0) to) is_yes h))

      pub next_errs : (read : List Snapshot) (to : ℕ) (yes : Bool) → read ≡ shots → yes ≡ false → SeesSo names s read (get_or now place 0) to yes → OneErrs names s observers
      next_errs read to judged e is_no h = record { observer = place; shots = shots; at = shots_at; other = subst (SeesOther names s) e (subst (SeesSo names s read (get_or now place 0) to) is_no h) }

-- A loop over the snapshots of an observer.
use Rattle.std.proofs.Common.{◌≡◌, ◌≢◌, ◌⊎◌, inl, inr, ℕ, ◌+◌, ◌<◌, ◌≤◌, List, length, get_or, slice_get, Option, Some, None, IfSome, refl, sym, ap, subst, ◌∙◌, arith}
use Rattle.std.proofs.lemmas.Bool.{cases_lt}
use Rattle.std.proofs.lemmas.Option.{same_Some, slice_get_read, slice_get_within}
use Rattle.server_core.specs.ServerState.{ServerState}
use Rattle.run_log.specs.declared.logs.Snapshot.{Snapshot}
use Rattle.run_log.specs.Snapshots.{AreExports}
use Rattle.legality.specs.Observers.{IsSnapshotOfSweep, SeesMore, SeesOther}

-- the snapshots from one place up to another are true ones of the state's generation
pub record HasSeen (names : List (List ℕ)) (s : ServerState) (shots : List Snapshot) (from to : ℕ) : Type 0 where
  pub low : from ≤ to
  pub each : (k : ℕ) (shot : Snapshot) → from ≤ k → k < to → slice_get shots k ≡ Some shot → IsSnapshotOfSweep names s shot

some_if : (o : Option Snapshot) (P : Snapshot → Type 0) (shot : Snapshot) → o ≡ Some shot → P shot → IfSome o P
some_if o P shot e p = subst (λ x. IfSome x P) (sym e) p

none_if : (shots : List Snapshot) (k : ℕ) (P : Snapshot → Type 0) → length shots ≤ k → (o : Option Snapshot) → slice_get shots k ≡ o → IfSome o P
none_if shots k P end None at = tt
none_if shots k P end (Some shot) at = absurd (let h = slice_get_within shots k shot at in omega (arith, h, end))

module _ (names : List (List ℕ)) (s : ServerState) (shots : List Snapshot) (from : ℕ) where
  -- at first none is seen
  pub seen_first : HasSeen names s shots from from
  seen_first = record { low = omega arith; each = λ k shot low high at. absurd (omega (arith, low, high)) }

  module _ (place : ℕ) (so_far : HasSeen names s shots from place) where
    -- there are no more
    pub seen_all : length shots ≤ place → place ≤ length shots → SeesMore names s shots from place
    seen_all end within = record { low = so_far.low; within = within; each = so_far.each; behind = none_if shots place (λ (x : Snapshot). x.generation ≢ s.generation) end (slice_get shots place) refl }

    module _ (shot : Snapshot) (within : place < length shots) (is : shot ≡ get_or shots place shot) where
      read : slice_get shots place ≡ Some shot
      read = slice_get_read shots (length shots) place shot refl within is

      -- the next one is of another generation
      pub seen_up_to : shot.generation ≢ s.generation → SeesMore names s shots from place
      seen_up_to other = record {
        low = so_far.low;
        within = omega (arith, within);
        each = so_far.each;
        behind = some_if (slice_get shots place) (λ (x : Snapshot). x.generation ≢ s.generation) shot read other;
      }

      -- the next one is true
      pub seen_next : shot.generation ≡ s.generation → AreExports names s shot.exports → HasSeen names s shots from (place + 1)
      seen_next generation exports = record {
        low = omega (arith, so_far.low);
        each = λ k x low high at. by k x low high at (cases_lt k place);
      }
        where
          by : (k : ℕ) (x : Snapshot) → from ≤ k → k < place + 1 → slice_get shots k ≡ Some x → (k < place) ⊎ (place ≤ k) → IsSnapshotOfSweep names s x
          by k x low high at (inl before) = so_far.each k x low before at
          by k x low high at (inr behind) =
              let same : place ≡ k = omega (arith, high, behind) in
              subst (IsSnapshotOfSweep names s) (same_Some shot x (sym read ∙ ap (slice_get shots) same ∙ at)) (record { generation = generation; exports = exports })

      -- the next one is not
      pub sees_other : shot.generation ≡ s.generation → (AreExports names s shot.exports → ⊥) → SeesOther names s shots
      sees_other generation other = record { place = place; shot = shot; at = read; generation = generation; other = other }

-- A generation that is published, and one that is retired, keep the progress invariant.
use Rattle.std.proofs.Common.{◌≡◌, ℕ, ◌+◌, ◌⊎◌, inl, inr, arith}
use Rattle.prgr_core.specs.Machine.{Machine}
use Rattle.prgr_core.specs.Invariant.{ProgressInvariant, NeedIsNear, ConfirmedIsLater, LoadedIsLater, ClaimIsLater}
use Rattle.prgr_core.proofs.GraceHolds.{loaded_before_root}

-- publish
pub publish_keeps : (m : Machine) → ProgressInvariant m → ProgressInvariant (record m { generation = m.generation + 1 })
publish_keeps m h = record {
  counter_in_range = h.counter_in_range;
  words_fit = h.words_fit;
  words_near = h.words_near;
  loads_near = h.loads_near;
  scanned_done = h.scanned_done;
  scanned_counter = h.scanned_counter;
  leads_as_leader = h.leads_as_leader;
  leader_leads = h.leader_leads;
  leader_awake = h.leader_awake;
  leader_knows = h.leader_knows;
  needs_near = λ n v was. let old = h.needs_near n v was in (omega (arith, old), old.1);
  confirmed_later = h.confirmed_later;
  loaded_later = h.loaded_later;
  delays_counted = h.delays_counted;
  claims_hold_back = h.claims_hold_back;
  each_watcher = h.each_watcher;
}

-- retire
pub retire_keeps : (m : Machine) → ProgressInvariant m → (Retired : ℕ → ℕ → Type 0) → ((n v : ℕ) → Retired n v → m.WasRetired n v ⊎ ((n ≡ m.generation) × (v ≡ m.counter + 2))) → ProgressInvariant (record m { WasRetired = Retired })
retire_keeps m h Retired each = record {
  counter_in_range = h.counter_in_range;
  words_fit = h.words_fit;
  words_near = h.words_near;
  loads_near = h.loads_near;
  scanned_done = h.scanned_done;
  scanned_counter = h.scanned_counter;
  leads_as_leader = h.leads_as_leader;
  leader_leads = h.leader_leads;
  leader_awake = h.leader_awake;
  leader_knows = h.leader_knows;
  needs_near = λ n v was. elim (each n v was) as (λ _. NeedIsNear m.counter m.generation n v) [
    | inl before ↦ h.needs_near n v before
    | inr now ↦ (omega (arith, now), omega (arith, now))
  ];
  confirmed_later = λ x is n v was. elim (each n v was) as (λ _. ConfirmedIsLater x n v) [
    | inl before ↦ h.confirmed_later x is n v before
    | inr now ↦ λ value reached. let near = h.words_near x is value in absurd (omega (arith, now, near, reached))
  ];
  loaded_later = λ x is n v was. elim (each n v was) as (λ _. LoadedIsLater x n v) [
    | inl before ↦ h.loaded_later x is n v before
    | inr now ↦ λ c root reached. let near = h.loads_near x is c (loaded_before_root x.loaded c root) in absurd (omega (arith, now, near, reached))
  ];
  delays_counted = h.delays_counted;
  claims_hold_back = h.claims_hold_back;
  each_watcher = λ w is. let old = h.each_watcher w is in record {
    watched_reached = old.watched_reached;
    holds_as_phase = old.holds_as_phase;
    claim_near = old.claim_near;
    root_claimed = old.root_claimed;
    claim_later = λ n v was. elim (each n v was) as (λ _. ClaimIsLater w n v) [
      | inl before ↦ old.claim_later n v before
      | inr now ↦ λ c g claim root reached. let near = old.claim_near c claim in absurd (omega (arith, now, near, reached))
    ];
  };
}

-- Events that change one watcher, and the delay counts with it, keep the progress invariant.
use Rattle.std.proofs.Common.{◌≡◌, ℕ, ◌⊎◌, ◌≤◌, inl, inr, sym, subst, true, List, arith}
use Rattle.prgr_core.specs.declared.member.Member.{Member}
use Rattle.prgr_core.specs.declared.watcher.Delay.{Delay}
use Rattle.prgr_core.specs.declared.watcher.Watcher.{Watcher}
use Rattle.prgr_core.specs.Watchers.{of_delay, may_add, is_claimed, counter_watched, delay_added, root_watched, delay_dropped}
use Rattle.prgr_core.specs.Machine.{Machine, IsAmongWatchers}
use Rattle.prgr_core.specs.Invariant.{ProgressInvariant, WatcherInvariant, CountsHolders, ClaimHoldsBack}
use Rattle.prgr_core.proofs.WatcherSteps.{seen_claim, added_claim, dropped_claim, counter_watched_invariant, delay_added_invariant, root_watched_invariant, delay_dropped_invariant}

-- b meets what the invariant says of a watcher of m
pub record WatcherFits (m : Machine) (b : Watcher) : Type 0 where
  pub own : WatcherInvariant m.counter m.WasRetired b
  pub held_back : (x : Member) → m.IsMember x → ClaimHoldsBack m.counter x b

-- each new watcher is b, or was one before
abbrev pub ComesIn : List Watcher → List Watcher → Watcher → Type 0
ComesIn old new b = (w : Watcher) → IsAmongWatchers new w → (w ≡ b) ⊎ IsAmongWatchers old w

-- a watcher becomes another that fits, no other changes, and the counts are those of the new holders
pub watcher_changes : (m : Machine) (new : List Watcher) (even odd : ℕ) (b : Watcher) → ProgressInvariant m → ComesIn m.watchers new b → ((delay : Delay) → CountsHolders new delay (of_delay delay even odd)) → WatcherFits m b → ProgressInvariant (record m { delay_even = even; delay_odd = odd; watchers = new })
watcher_changes m new even odd b h comes counted fits = record {
  counter_in_range = h.counter_in_range;
  words_fit = h.words_fit;
  words_near = h.words_near;
  loads_near = h.loads_near;
  scanned_done = h.scanned_done;
  scanned_counter = h.scanned_counter;
  leads_as_leader = h.leads_as_leader;
  leader_leads = h.leader_leads;
  leader_awake = h.leader_awake;
  leader_knows = h.leader_knows;
  needs_near = h.needs_near;
  confirmed_later = h.confirmed_later;
  loaded_later = h.loaded_later;
  delays_counted = counted;
  claims_hold_back = λ x w is_x is_w. elim (comes w is_w) as (λ _. ClaimHoldsBack m.counter x w) [
    | inl same ↦ subst (ClaimHoldsBack m.counter x) (sym same) (fits.held_back x is_x)
    | inr before ↦ h.claims_hold_back x w is_x before
  ];
  each_watcher = λ w is_w. elim (comes w is_w) as (λ _. WatcherInvariant m.counter m.WasRetired w) [
    | inl same ↦ subst (WatcherInvariant m.counter m.WasRetired) (sym same) fits.own
    | inr before ↦ h.each_watcher w before
  ];
}

module _ (m : Machine) (h : ProgressInvariant m) (w : Watcher) (is : IsAmongWatchers m.watchers w) where
  -- watch_load
  pub counter_watched_fits : WatcherFits m (counter_watched m.counter w)
  counter_watched_fits = record {
    own = counter_watched_invariant m.counter m.WasRetired w (h.each_watcher w is);
    held_back = λ x is_x scanned c claim. elim (seen_claim m.counter w.phase c claim) as (λ _. m.counter ≤ c) [
      | inl now ↦ omega (arith, now)
      | inr before ↦ h.claims_hold_back x w is_x is scanned c before
    ];
  }

  -- watch_add
  pub delay_added_fits : (d : Delay) → may_add w.phase d ≡ true → WatcherFits m (delay_added d w)
  delay_added_fits d may = record {
    own = delay_added_invariant m.counter m.WasRetired w (h.each_watcher w is) d may;
    held_back = λ x is_x scanned c claim. h.claims_hold_back x w is_x is scanned c (added_claim w.phase c claim);
  }

  -- watch_root
  pub root_watched_fits : is_claimed w.phase ≡ true → WatcherFits m (root_watched m.generation w)
  root_watched_fits claimed = record {
    own = root_watched_invariant m.counter m.WasRetired w (h.each_watcher w is) m.generation claimed (λ n v was. (h.needs_near n v was).0);
    held_back = λ x is_x. h.claims_hold_back x w is_x is;
  }

  -- watch_sub
  pub delay_dropped_fits : (d : Delay) → WatcherFits m (delay_dropped d w)
  delay_dropped_fits d = record {
    own = delay_dropped_invariant m.counter m.WasRetired w (h.each_watcher w is) d;
    held_back = λ x is_x scanned c claim. absurd (dropped_claim d w c claim);
  }

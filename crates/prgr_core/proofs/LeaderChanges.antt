-- The scans of a leader, and events that change the leader or the counter, keep the progress invariant.
use Rattle.std.proofs.lemmas.Bool.{cases_lt}
use Rattle.std.proofs.Common.{◌≡◌, ℕ, suc, true, false, replicate, ◌+◌, ◌<◌, ◌≤◌, ◌⊎◌, inl, inr, sym, subst, arith, Some, None, refl, ◌∙◌, ap}
use Rattle.std.specs.Prelude.{slice_get}
use Rattle.prgr_core.specs.declared.member.TheConstants.{WAITING, LAST_VALUE, MOST_MEMBERS}
use Rattle.prgr_core.specs.declared.member.Member.{Member}
use Rattle.prgr_core.specs.declared.member.Role.{Role}
use Rattle.prgr_core.specs.declared.member.Role.TheVariants.{Follows, Leads}
use Rattle.prgr_core.specs.declared.member.Scans.{Scans}
use Rattle.prgr_core.specs.declared.watcher.Watcher.{Watcher}
use Rattle.prgr_core.specs.Members.{IsValue, HasLoaded, IsLeading, HasScanned, HasScannedDelay, KnowsCounter, leading, following, leading_with, no_scans}
use Rattle.prgr_core.specs.Watchers.{delay_of, HasClaim, holders}
use Rattle.prgr_core.specs.Machine.{Machine, IsWatcher, count_of}
use Rattle.prgr_core.specs.Invariant.{ProgressInvariant, WordFits, WordIsNear, LoadedIsNear, LeadsAsLeader, LeaderLeads, LeaderIsAwake, LeaderKnows, ConfirmedIsLater, LoadedIsLater, ClaimHoldsBack, WatcherInvariant}
use Rattle.prgr_core.proofs.Frames.{Becomes, each_member}
use Rattle.prgr_core.proofs.MemberChanges.{FitsIn}
use Rattle.prgr_core.proofs.Delays.{delay_of-two, is_held}
use Rattle.prgr_core.proofs.WatcherSteps.{claim_holds}

-- who has scanned leads
leads_who_scanned : (role : Role) (k : ℕ) → HasScanned role k → IsLeading role
leads_who_scanned Follows k is = is
leads_who_scanned (Leads scans) k is = tt

leads_who_looked : (role : Role) → HasScannedDelay role → IsLeading role
leads_who_looked Follows is = is
leads_who_looked (Leads scans) is = tt

leads_who_knows : (role : Role) (c : ℕ) → KnowsCounter role c → IsLeading role
leads_who_knows Follows c is = is
leads_who_knows (Leads scans) c is = tt

-- a scan finds a member done by its word
abbrev pub IsDoneWord : ℕ → ℕ → Type 0
IsDoneWord counter word = (word ≡ WAITING) ⊎ (word ≡ counter + 1)

-- who is found done is waiting, or has confirmed the value after the counter, and has loaded no earlier counter
found_done : (m : Machine) → ProgressInvariant m → (y : Member) → m.IsMember y → IsDoneWord m.counter y.word → (IsValue y.word → m.counter + 1 ≤ y.word) × ((c : ℕ) → HasLoaded y.loaded c → m.counter ≤ c)
found_done m h y is found =
    let range = h.counter_in_range in
    elim found as (λ _. (IsValue y.word → m.counter + 1 ≤ y.word) × ((c : ℕ) → HasLoaded y.loaded c → m.counter ≤ c)) [
      | inl waits ↦ (λ value. absurd (omega (arith, value, waits)), λ c loaded. let near = h.loads_near y is c loaded in absurd (omega (arith, near, range, waits)))
      | inr confirmed ↦ (λ value. omega (arith, confirmed), λ c loaded. let near = h.loads_near y is c loaded in omega (arith, near, confirmed))
    ]

-- each member that the new scans have was scanned before, or is found done
abbrev pub AddDone : Machine → Scans → Scans → Type 0
AddDone m old new = (y : Member) → m.IsMember y → slice_get new.members y.number ≡ Some true → (slice_get old.members y.number ≡ Some true) ⊎ IsDoneWord m.counter y.word

-- no claim is of the counter before
abbrev pub NoClaimBefore : Machine → Type 0
NoClaimBefore m = (w : Watcher) → IsWatcher m w → (c : ℕ) → HasClaim w.phase c → m.counter ≤ c

-- the new scans have the delay where the old have it, or where no claim is of the counter before
abbrev pub AddDelay : Machine → Scans → Scans → Type 0
AddDelay m old new = new.delay ≡ true → (old.delay ≡ true) ⊎ NoClaimBefore m

-- where the count that the next value depends on is 0, no claim is of the counter before: it would hold that count
pub free_delay : (m : Machine) → ProgressInvariant m → count_of m (delay_of (m.counter + 1)) ≡ 0 → NoClaimBefore m
free_delay m h free w is c claim =
    let each = h.each_watcher w is in
    let near = each.claim_near c claim in
    elim (cases_lt c m.counter) as (λ _. m.counter ≤ c) [
      | inr within ↦ within
      | inl past ↦
          let next : m.counter + 1 ≡ c + 1 + 1 = omega (arith, near, past) in
          let same : delay_of (m.counter + 1) ≡ delay_of c = ap delay_of next ∙ delay_of-two c in
          let held = claim_holds w.phase w.holds_even w.holds_odd c claim each.holds_as_phase in
          let some = is_held (delay_of c) m.watchers is.0 w is.1 held in
          let counted : count_of m (delay_of c) ≡ holders (delay_of c) m.watchers = h.delays_counted (delay_of c) in
          let none : count_of m (delay_of c) ≡ 0 = ap (count_of m) (sym same) ∙ free in
          absurd (omega (arith, some, counted, none))
    ]

-- scan and scan_delay
pub rescanned_fits : (m : Machine) → ProgressInvariant m → (a : Member) → m.IsMember a → (old new : Scans) → a.role ≡ Leads old → new.counter ≡ old.counter → AddDone m old new → AddDelay m old new → FitsIn m (leading_with new a)
rescanned_fits m h a is old new role known adds delays =
    let leads : IsLeading a.role = subst IsLeading (sym role) tt in
    let done : (y : Member) → m.IsMember y → slice_get new.members y.number ≡ Some true → (IsValue y.word → m.counter + 1 ≤ y.word) × ((c : ℕ) → HasLoaded y.loaded c → m.counter ≤ c) =
    λ y is_y scanned.
    elim (adds y is_y scanned) as (λ _. (IsValue y.word → m.counter + 1 ≤ y.word) × ((c : ℕ) → HasLoaded y.loaded c → m.counter ≤ c)) [
      | inl before ↦ let before_too : HasScanned a.role y.number = subst (λ r. HasScanned r y.number) (sym role) before in (h.scanned_done a y is is_y before_too, h.scanned_counter a y is is_y before_too)
      | inr found ↦ found_done m h y is_y found
    ] in
    record {
      word_fits = h.words_fit a is;
      word_near = h.words_near a is;
      load_near = h.loads_near a is;
      own_done = λ scanned. (done a is scanned).0;
      scans_done = λ y is_y scanned. (done y is_y scanned).0;
      done = λ x is_x. h.scanned_done x a is_x is;
      own_counter = λ scanned. (done a is scanned).1;
      scans_counter = λ y is_y scanned. (done y is_y scanned).1;
      counter = λ x is_x. h.scanned_counter x a is_x is;
      leads = λ _. h.leads_as_leader a is leads;
      led = λ _. tt;
      awake = λ _. h.leader_awake a is leads;
      knows = λ c knows. h.leader_knows a is c (subst (λ r. KnowsCounter r c) (sym role) (sym known ∙ knows));
      confirmed = h.confirmed_later a is;
      loaded = h.loaded_later a is;
      held_back = λ w is_w scanned. elim (delays scanned) as (λ _. (c : ℕ) → HasClaim w.phase c → m.counter ≤ c) [
        | inl before ↦ h.claims_hold_back a w is is_w (subst HasScannedDelay (sym role) before)
        | inr free ↦ free w is_w
      ];
    }

-- of no members one is scanned
none_scanned : (n k : ℕ) → slice_get (replicate n false) k ≡ Some true → ⊥
none_scanned (suc n) (suc k) e = none_scanned n k e
none_scanned n k e = (cc)

-- two that lead have one number
one_leads : (m : Machine) → ProgressInvariant m → (a x : Member) → m.IsMember a → m.IsMember x → IsLeading a.role → IsLeading x.role → x.number ≡ a.number
one_leads m h a x is_a is_x leads_a leads_x =
    let by_a = h.leads_as_leader a is_a leads_a in
    let by_x = h.leads_as_leader x is_x leads_x in
    cc

-- a watcher whose claim is of the present counter may stay while the counter is raised
pub watcher_advances : (m : Machine) (w : Watcher) → WatcherInvariant m.counter m.WasRetired w → ((c : ℕ) → HasClaim w.phase c → m.counter ≤ c) → WatcherInvariant (m.counter + 1) m.WasRetired w
watcher_advances m w h present = record {
  watched_reached = λ c watched. let old = h.watched_reached c watched in omega (arith, old);
  holds_as_phase = h.holds_as_phase;
  claim_near = λ c claim. let old = h.claim_near c claim in let now = present c claim in (omega (arith, old), omega (arith, now));
  root_claimed = h.root_claimed;
  claim_later = h.claim_later;
}

module _ (m : Machine) (h : ProgressInvariant m) (New : Member → Type 0) (a : Member) where
  -- lead
  pub lead_keeps : Becomes m.IsMember New a (leading a) → m.leader ≡ None → IsValue a.word → ProgressInvariant (record m { IsMember = New; leader = Some a.number })
  lead_keeps change free value =
      let nobody : (x : Member) → m.IsMember x → IsLeading x.role → ⊥ = λ x is leads. let by = h.leads_as_leader x is leads in cc in
      let nothing : (x : Member) → New x → (k : ℕ) → HasScanned x.role k → ⊥ =
      each_member change (λ x. (k : ℕ) → HasScanned x.role k → ⊥) (λ k scanned. none_scanned MOST_MEMBERS k scanned) (λ x is _ k scanned. nobody x is (leads_who_scanned x.role k scanned)) in
      record {
        counter_in_range = h.counter_in_range;
        words_fit = each_member change WordFits (h.words_fit a change.was) (λ x is _. h.words_fit x is);
        words_near = each_member change (WordIsNear m.counter) (h.words_near a change.was) (λ x is _. h.words_near x is);
        loads_near = each_member change (LoadedIsNear m.counter) (h.loads_near a change.was) (λ x is _. h.loads_near x is);
        scanned_done = λ x y is_x is_y scanned. absurd (nothing x is_x y.number scanned);
        scanned_counter = λ x y is_x is_y scanned. absurd (nothing x is_x y.number scanned);
        leads_as_leader = each_member change (LeadsAsLeader (Some a.number)) (λ _. refl) (λ x is _ leads. absurd (nobody x is leads));
        leader_leads = each_member change (LeaderLeads (Some a.number)) (λ _. tt) (λ x is apart e. absurd (apart (cc)));
        leader_awake = each_member change LeaderIsAwake (λ _. value) (λ x is _. h.leader_awake x is);
        leader_knows = each_member change (LeaderKnows m.counter) (λ c e. absurd (cc)) (λ x is _. h.leader_knows x is);
        needs_near = h.needs_near;
        confirmed_later = each_member change (λ x. (n v : ℕ) → m.WasRetired n v → ConfirmedIsLater x n v) (h.confirmed_later a change.was) (λ x is _. h.confirmed_later x is);
        loaded_later = each_member change (λ x. (n v : ℕ) → m.WasRetired n v → LoadedIsLater x n v) (h.loaded_later a change.was) (λ x is _. h.loaded_later x is);
        delays_counted = h.delays_counted;
        claims_hold_back = λ x w is_x is_w. each_member change (λ y. ClaimHoldsBack m.counter y w) (λ none. absurd (cc)) (λ y is_y _ scanned. absurd (nobody y is_y (leads_who_looked y.role scanned))) x is_x;
        each_watcher = h.each_watcher;
      }

  -- give_up
  pub give_up_keeps : Becomes m.IsMember New a (following a) → IsLeading a.role → ProgressInvariant (record m { IsMember = New; leader = None })
  give_up_keeps change leads =
      let nobody : (x : Member) → New x → IsLeading x.role → ⊥ =
      each_member change (λ x. IsLeading x.role → ⊥) (λ none. none) (λ x is apart leads_x. apart (one_leads m h a x change.was is leads leads_x)) in
      record {
        counter_in_range = h.counter_in_range;
        words_fit = each_member change WordFits (h.words_fit a change.was) (λ x is _. h.words_fit x is);
        words_near = each_member change (WordIsNear m.counter) (h.words_near a change.was) (λ x is _. h.words_near x is);
        loads_near = each_member change (LoadedIsNear m.counter) (h.loads_near a change.was) (λ x is _. h.loads_near x is);
        scanned_done = λ x y is_x is_y scanned. absurd (nobody x is_x (leads_who_scanned x.role y.number scanned));
        scanned_counter = λ x y is_x is_y scanned. absurd (nobody x is_x (leads_who_scanned x.role y.number scanned));
        leads_as_leader = λ x is_x leads_x. absurd (nobody x is_x leads_x);
        leader_leads = λ x is_x e. absurd (cc);
        leader_awake = λ x is_x leads_x. absurd (nobody x is_x leads_x);
        leader_knows = λ x is_x c known. absurd (nobody x is_x (leads_who_knows x.role c known));
        needs_near = h.needs_near;
        confirmed_later = each_member change (λ x. (n v : ℕ) → m.WasRetired n v → ConfirmedIsLater x n v) (h.confirmed_later a change.was) (λ x is _. h.confirmed_later x is);
        loaded_later = each_member change (λ x. (n v : ℕ) → m.WasRetired n v → LoadedIsLater x n v) (h.loaded_later a change.was) (λ x is _. h.loaded_later x is);
        delays_counted = h.delays_counted;
        claims_hold_back = λ x w is_x is_w scanned. absurd (nobody x is_x (leads_who_looked x.role scanned));
        each_watcher = h.each_watcher;
      }

  -- advance
  pub advance_keeps : Becomes m.IsMember New a (leading_with (no_scans (Some (m.counter + 1))) a) → IsLeading a.role → ((y : Member) → m.IsMember y → HasScanned a.role y.number) → ((w : Watcher) → IsWatcher m w → HasScannedDelay a.role) → m.counter < LAST_VALUE → ProgressInvariant (record m { IsMember = New; counter = m.counter + 1 })
  advance_keeps change leads all looked room =
      let is = change.was in
      let range = h.counter_in_range in
      let near : (x : Member) → m.IsMember x → WordIsNear (m.counter + 1) x =
      λ x is_x value. let old = h.words_near x is_x value in let done = h.scanned_done a x is is_x (all x is_x) value in (done, omega (arith, old)) in
      let loads : (x : Member) → m.IsMember x → LoadedIsNear (m.counter + 1) x =
      λ x is_x c loaded. let old = h.loads_near x is_x c loaded in let latest = h.scanned_counter a x is is_x (all x is_x) c loaded in (omega (arith, old), omega (arith, latest), old.2) in
      let nothing : (x : Member) → New x → (k : ℕ) → HasScanned x.role k → ⊥ =
      each_member change (λ x. (k : ℕ) → HasScanned x.role k → ⊥) (λ k scanned. none_scanned MOST_MEMBERS k scanned) (λ x is_x apart k scanned. apart (one_leads m h a x is is_x leads (leads_who_scanned x.role k scanned))) in
      record {
        counter_in_range = (omega (arith, range), omega (arith, room));
        words_fit = each_member change WordFits (h.words_fit a is) (λ x is_x _. h.words_fit x is_x);
        words_near = each_member change (WordIsNear (m.counter + 1)) (near a is) (λ x is_x _. near x is_x);
        loads_near = each_member change (LoadedIsNear (m.counter + 1)) (loads a is) (λ x is_x _. loads x is_x);
        scanned_done = λ x y is_x is_y scanned. absurd (nothing x is_x y.number scanned);
        scanned_counter = λ x y is_x is_y scanned. absurd (nothing x is_x y.number scanned);
        leads_as_leader = each_member change (LeadsAsLeader m.leader) (λ _. h.leads_as_leader a is leads) (λ x is_x _. h.leads_as_leader x is_x);
        leader_leads = each_member change (LeaderLeads m.leader) (λ _. tt) (λ x is_x _. h.leader_leads x is_x);
        leader_awake = each_member change LeaderIsAwake (λ _. h.leader_awake a is leads) (λ x is_x _. h.leader_awake x is_x);
        leader_knows = each_member change (LeaderKnows (m.counter + 1)) (λ c e. (cc)) (λ x is_x apart c known. absurd (apart (one_leads m h a x is is_x leads (leads_who_knows x.role c known))));
        needs_near = λ n v was. let old = h.needs_near n v was in (old.0, omega (arith, old));
        confirmed_later = each_member change (λ x. (n v : ℕ) → m.WasRetired n v → ConfirmedIsLater x n v) (h.confirmed_later a is) (λ x is_x _. h.confirmed_later x is_x);
        loaded_later = each_member change (λ x. (n v : ℕ) → m.WasRetired n v → LoadedIsLater x n v) (h.loaded_later a is) (λ x is_x _. h.loaded_later x is_x);
        delays_counted = h.delays_counted;
        claims_hold_back = λ x w is_x is_w. each_member change (λ y. ClaimHoldsBack (m.counter + 1) y w) (λ none. absurd (cc)) (λ y is_y apart scanned. absurd (apart (one_leads m h a y is is_y leads (leads_who_looked y.role scanned)))) x is_x;
        each_watcher = λ w is_w. watcher_advances m w (h.each_watcher w is_w) (h.claims_hold_back a w is is_w (looked w is_w));
      }

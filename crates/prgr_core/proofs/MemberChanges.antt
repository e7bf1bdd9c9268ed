-- Events that change one member alone, neither the leader nor the counter, keep the progress invariant.
-- Members are a predicate, so that lists of members and views of threads both fit.
use Rattle.std.proofs.lemmas.Bool.{cases_lt}
use Rattle.std.proofs.Common.{◌≡◌, ℕ, ◌+◌, ◌<◌, ◌≤◌, inl, inr, arith}
use Rattle.prgr_core.specs.declared.member.TheConstants.{WAITING, ENTERING}
use Rattle.prgr_core.specs.declared.member.Member.{Member}
use Rattle.prgr_core.specs.declared.member.Loaded.{Loaded}
use Rattle.prgr_core.specs.declared.member.Loaded.TheVariants.{Nothing}
use Rattle.prgr_core.specs.declared.member.Role.{Role}
use Rattle.prgr_core.specs.declared.member.Role.TheVariants.{Follows, Leads}
use Rattle.prgr_core.specs.declared.watcher.Watcher.{Watcher}
use Rattle.prgr_core.specs.Members.{HasLoaded, HasLoadedRoot, IsLeading, HasScanned, HasScannedDelay, KnowsCounter, role_knowing, with_root, counter_loaded, root_loaded, confirmed, waiting, entering}
use Rattle.prgr_core.specs.Machine.{Machine, IsWatcher}
use Rattle.prgr_core.specs.Invariant.{ProgressInvariant, WordFits, WordIsNear, LoadedIsNear, ScannedIsDone, ScannedHasCounter, LeadsAsLeader, LeaderLeads, LeaderIsAwake, LeaderKnows, ConfirmedIsLater, LoadedIsLater, ClaimHoldsBack}
use Rattle.prgr_core.proofs.Frames.{Becomes, each_member, each_two}
use Rattle.prgr_core.proofs.GraceHolds.{loaded_before_root}

-- b meets what the invariant says of a member of m
pub record FitsIn (m : Machine) (b : Member) : Type 0 where
  pub word_fits : WordFits b
  pub word_near : WordIsNear m.counter b
  pub load_near : LoadedIsNear m.counter b
  pub own_done : ScannedIsDone m.counter b b
  pub scans_done : (y : Member) → m.IsMember y → ScannedIsDone m.counter b y
  pub done : (x : Member) → m.IsMember x → ScannedIsDone m.counter x b
  pub own_counter : ScannedHasCounter m.counter b b
  pub scans_counter : (y : Member) → m.IsMember y → ScannedHasCounter m.counter b y
  pub counter : (x : Member) → m.IsMember x → ScannedHasCounter m.counter x b
  pub leads : LeadsAsLeader m.leader b
  pub led : LeaderLeads m.leader b
  pub awake : LeaderIsAwake b
  pub knows : LeaderKnows m.counter b
  pub confirmed : (n v : ℕ) → m.WasRetired n v → ConfirmedIsLater b n v
  pub loaded : (n v : ℕ) → m.WasRetired n v → LoadedIsLater b n v
  pub held_back : (w : Watcher) → IsWatcher m w → ClaimHoldsBack m.counter b w

-- a member becomes another that fits, and no other changes
pub member_changes : (m : Machine) (New : Member → Type 0) (a b : Member) → ProgressInvariant m → Becomes m.IsMember New a b → FitsIn m b → ProgressInvariant (record m { IsMember = New })
member_changes m New a b h change fits = record {
  counter_in_range = h.counter_in_range;
  words_fit = each_member change WordFits fits.word_fits (λ x is _. h.words_fit x is);
  words_near = each_member change (WordIsNear m.counter) fits.word_near (λ x is _. h.words_near x is);
  loads_near = each_member change (LoadedIsNear m.counter) fits.load_near (λ x is _. h.loads_near x is);
  scanned_done = each_two change (ScannedIsDone m.counter) fits.own_done fits.scans_done fits.done h.scanned_done;
  scanned_counter = each_two change (ScannedHasCounter m.counter) fits.own_counter fits.scans_counter fits.counter h.scanned_counter;
  leads_as_leader = each_member change (LeadsAsLeader m.leader) fits.leads (λ x is _. h.leads_as_leader x is);
  leader_leads = each_member change (LeaderLeads m.leader) fits.led (λ x is _. h.leader_leads x is);
  leader_awake = each_member change LeaderIsAwake fits.awake (λ x is _. h.leader_awake x is);
  leader_knows = each_member change (LeaderKnows m.counter) fits.knows (λ x is _. h.leader_knows x is);
  needs_near = h.needs_near;
  confirmed_later = each_member change (λ x. (n v : ℕ) → m.WasRetired n v → ConfirmedIsLater x n v) fits.confirmed (λ x is _. h.confirmed_later x is);
  loaded_later = each_member change (λ x. (n v : ℕ) → m.WasRetired n v → LoadedIsLater x n v) fits.loaded (λ x is _. h.loaded_later x is);
  delays_counted = h.delays_counted;
  claims_hold_back = λ x w is is_w. each_member change (λ y. ClaimHoldsBack m.counter y w) (fits.held_back w is_w) (λ y is_y _. h.claims_hold_back y w is_y is_w) x is;
  each_watcher = h.each_watcher;
}

-- to know the counter changes neither who leads nor what is scanned
leads_before : (c : ℕ) (role : Role) → IsLeading (role_knowing c role) → IsLeading role
leads_before c Follows is = is
leads_before c (Leads scans) is = is

leads_still : (c : ℕ) (role : Role) → IsLeading role → IsLeading (role_knowing c role)
leads_still c Follows is = is
leads_still c (Leads scans) is = is

scanned_before : (c k : ℕ) (role : Role) → HasScanned (role_knowing c role) k → HasScanned role k
scanned_before c k Follows is = is
scanned_before c k (Leads scans) is = is

delay_before : (c : ℕ) (role : Role) → HasScannedDelay (role_knowing c role) → HasScannedDelay role
delay_before c Follows is = is
delay_before c (Leads scans) is = is

knows_that : (c d : ℕ) (role : Role) → KnowsCounter (role_knowing c role) d → d ≡ c
knows_that c d Follows is = absurd is
knows_that c d (Leads scans) is = (cc)

-- a word below WAITING is at most one above the counter
word_bound : (m : Machine) → ProgressInvariant m → (a : Member) → m.IsMember a → (a.word ≡ WAITING → ⊥) → a.word ≤ m.counter + 1
word_bound m h a is awake =
    elim (cases_lt ENTERING a.word) as (λ _. a.word ≤ m.counter + 1) [
      | inl above ↦ let fit = h.words_fit a is in let below : a.word < WAITING = omega (arith, fit, awake) in (h.words_near a is (above, below)).1
      | inr low ↦ omega arith
    ]

-- load_counter
pub counter_loaded_fits : (m : Machine) → ProgressInvariant m → (a : Member) → m.IsMember a → (a.word ≡ WAITING → ⊥) → FitsIn m (counter_loaded m.counter a)
counter_loaded_fits m h a is awake =
    let bound = word_bound m h a is awake in
    record {
      word_fits = h.words_fit a is;
      word_near = h.words_near a is;
      load_near = λ c loaded. (omega (arith, loaded), omega (arith, loaded), omega (arith, loaded, bound));
      own_done = λ scanned. h.scanned_done a a is is (scanned_before m.counter a.number a.role scanned);
      scans_done = λ y is_y scanned. h.scanned_done a y is is_y (scanned_before m.counter y.number a.role scanned);
      done = λ x is_x. h.scanned_done x a is_x is;
      own_counter = λ _ c loaded. omega (arith, loaded);
      scans_counter = λ y is_y scanned. h.scanned_counter a y is is_y (scanned_before m.counter y.number a.role scanned);
      counter = λ x is_x _ c loaded. omega (arith, loaded);
      leads = λ leads. h.leads_as_leader a is (leads_before m.counter a.role leads);
      led = λ e. leads_still m.counter a.role (h.leader_leads a is e);
      awake = λ leads. h.leader_awake a is (leads_before m.counter a.role leads);
      knows = λ c known. knows_that m.counter c a.role known;
      confirmed = h.confirmed_later a is;
      loaded = λ n v was c loaded. absurd loaded;
      held_back = λ w is_w scanned. h.claims_hold_back a w is is_w (delay_before m.counter a.role scanned);
    }

-- a root that is loaded changes no counter
loaded_before : (loaded : Loaded) (c : ℕ) → HasLoaded (with_root loaded) c → HasLoaded loaded c
loaded_before Nothing c is = is
loaded_before loaded c is = is

-- load_root
pub root_loaded_fits : (m : Machine) → ProgressInvariant m → (a : Member) → m.IsMember a → FitsIn m (root_loaded m.generation a)
root_loaded_fits m h a is = record {
  word_fits = h.words_fit a is;
  word_near = h.words_near a is;
  load_near = λ c loaded. h.loads_near a is c (loaded_before a.loaded c loaded);
  own_done = h.scanned_done a a is is;
  scans_done = λ y is_y. h.scanned_done a y is is_y;
  done = λ x is_x. h.scanned_done x a is_x is;
  own_counter = λ scanned c loaded. h.scanned_counter a a is is scanned c (loaded_before a.loaded c loaded);
  scans_counter = λ y is_y. h.scanned_counter a y is is_y;
  counter = λ x is_x scanned c loaded. h.scanned_counter x a is_x is scanned c (loaded_before a.loaded c loaded);
  leads = h.leads_as_leader a is;
  led = h.leader_leads a is;
  awake = h.leader_awake a is;
  knows = h.leader_knows a is;
  confirmed = λ n v was _ _. (h.needs_near n v was).0;
  loaded = λ n v was _ _ _. (h.needs_near n v was).0;
  held_back = λ w is_w. h.claims_hold_back a w is is_w;
}

-- report
pub confirmed_fits : (m : Machine) → ProgressInvariant m → (a : Member) → m.IsMember a → (c : ℕ) → HasLoadedRoot a.loaded c → FitsIn m (confirmed c a)
confirmed_fits m h a is c root =
    let loaded = loaded_before_root a.loaded c root in
    let near = h.loads_near a is c loaded in
    let range = h.counter_in_range in
    record {
      word_fits = omega (arith, near, range);
      word_near = λ _. (omega (arith, near), omega (arith, near));
      load_near = λ d none. absurd none;
      own_done = λ scanned _. let latest = h.scanned_counter a a is is scanned c loaded in omega (arith, latest);
      scans_done = λ y is_y. h.scanned_done a y is is_y;
      done = λ x is_x scanned _. let latest = h.scanned_counter x a is_x is scanned c loaded in omega (arith, latest);
      own_counter = λ _ d none. absurd none;
      scans_counter = λ y is_y. h.scanned_counter a y is is_y;
      counter = λ x is_x _ d none. absurd none;
      leads = h.leads_as_leader a is;
      led = h.leader_leads a is;
      awake = λ _. (omega arith, omega (arith, near, range));
      knows = h.leader_knows a is;
      confirmed = λ n v was _ reached. h.loaded_later a is n v was c root reached;
      loaded = λ n v was d none. absurd none;
      held_back = λ w is_w. h.claims_hold_back a w is is_w;
    }

-- wait
pub waiting_fits : (m : Machine) → ProgressInvariant m → (a : Member) → m.IsMember a → (IsLeading a.role → ⊥) → FitsIn m (waiting a)
waiting_fits m h a is follows = record {
  word_fits = omega arith;
  word_near = λ value. absurd (omega (arith, value));
  load_near = λ d none. absurd none;
  own_done = λ _ value. absurd (omega (arith, value));
  scans_done = λ y is_y. h.scanned_done a y is is_y;
  done = λ x is_x _ value. absurd (omega (arith, value));
  own_counter = λ _ d none. absurd none;
  scans_counter = λ y is_y. h.scanned_counter a y is is_y;
  counter = λ x is_x _ d none. absurd none;
  leads = h.leads_as_leader a is;
  led = h.leader_leads a is;
  awake = λ leads. absurd (follows leads);
  knows = h.leader_knows a is;
  confirmed = λ n v was value. absurd (omega (arith, value));
  loaded = λ n v was d none. absurd none;
  held_back = λ w is_w. h.claims_hold_back a w is is_w;
}

-- enter
pub entering_fits : (m : Machine) → ProgressInvariant m → (a : Member) → m.IsMember a → a.word ≡ WAITING → FitsIn m (entering a)
entering_fits m h a is waits = record {
  word_fits = omega arith;
  word_near = λ value. absurd (omega (arith, value));
  load_near = λ d none. absurd none;
  own_done = λ _ value. absurd (omega (arith, value));
  scans_done = λ y is_y. h.scanned_done a y is is_y;
  done = λ x is_x _ value. absurd (omega (arith, value));
  own_counter = λ _ d none. absurd none;
  scans_counter = λ y is_y. h.scanned_counter a y is is_y;
  counter = λ x is_x _ d none. absurd none;
  leads = h.leads_as_leader a is;
  led = h.leader_leads a is;
  awake = λ leads. let value = h.leader_awake a is leads in absurd (omega (arith, value, waits));
  knows = h.leader_knows a is;
  confirmed = λ n v was value. absurd (omega (arith, value));
  loaded = λ n v was d none. absurd none;
  held_back = λ w is_w. h.claims_hold_back a w is is_w;
}

-- What every event of the progress machine keeps, and grace, which follows from it.
-- Each clause is a definition on just what it reads. The numbers are this project's own.
use Rattle.std.specs.Prelude.{◌≡◌, ℕ, ◌+◌, ◌≤◌, List, Option, Some}
use Rattle.prgr_core.specs.declared.member.TheConstants.{WAITING, LAST_VALUE}
use Rattle.prgr_core.specs.declared.member.Member.{Member}
use Rattle.prgr_core.specs.declared.watcher.Delay.{Delay}
use Rattle.prgr_core.specs.declared.watcher.Watcher.{Watcher}
use Rattle.prgr_core.specs.Members.{IsValue, HasLoaded, HasLoadedRoot, IsLeading, HasScanned, HasScannedDelay, KnowsCounter}
use Rattle.prgr_core.specs.Watchers.{holders, HasWatched, HasClaim, IsClaimed, HoldsIn}
use Rattle.prgr_core.specs.Machine.{Machine, IsWatcher, count_of, Readable}

-- ---- the counter and the members

-- the counter is at least 1, and at most the last value
abbrev pub CounterInRange : ℕ → Type 0
CounterInRange counter = (1 ≤ counter) × (counter ≤ LAST_VALUE)

-- a word is at most WAITING, the last that there is
abbrev pub WordFits : Member → Type 0
WordFits member = member.word ≤ WAITING

-- a word that is a value is the counter, or the value after it
abbrev pub WordIsNear : ℕ → Member → Type 0
WordIsNear counter member = IsValue member.word → (counter ≤ member.word) × (member.word ≤ counter + 1)

-- a loaded counter is the counter or the value before, and to confirm it takes no word back; since WAITING is above
-- every such value, a waiting member has nothing loaded
abbrev pub LoadedIsNear : ℕ → Member → Type 0
LoadedIsNear counter member =
    (c : ℕ) → HasLoaded member.loaded c → (c ≤ counter) × (counter ≤ c + 1) × (member.word ≤ c + 1)

-- a scanned member is waiting or entering, or has confirmed the value after the counter
abbrev pub ScannedIsDone : ℕ → Member → Member → Type 0
ScannedIsDone counter leader member = HasScanned leader.role member.number → IsValue member.word → counter + 1 ≤ member.word

-- a scanned member that has loaded a counter has loaded the present one
abbrev pub ScannedHasCounter : ℕ → Member → Member → Type 0
ScannedHasCounter counter leader member = HasScanned leader.role member.number → (c : ℕ) → HasLoaded member.loaded c → counter ≤ c

-- who leads is the leader, so where there is none nothing is scanned
abbrev pub LeadsAsLeader : Option ℕ → Member → Type 0
LeadsAsLeader leader member = IsLeading member.role → leader ≡ Some member.number

-- the leader leads
abbrev pub LeaderLeads : Option ℕ → Member → Type 0
LeaderLeads leader member = leader ≡ Some member.number → IsLeading member.role

-- the leader's word is a value
abbrev pub LeaderIsAwake : Member → Type 0
LeaderIsAwake member = IsLeading member.role → IsValue member.word

-- the counter that a leader has loaded or raised since it leads is the present one
abbrev pub LeaderKnows : ℕ → Member → Type 0
LeaderKnows counter member = (c : ℕ) → KnowsCounter member.role c → c ≡ counter

-- what was retired was published, and its need is at most two above the counter
abbrev pub NeedIsNear : ℕ → ℕ → ℕ → ℕ → Type 0
NeedIsNear counter generation retired need = (retired ≤ generation) × (need ≤ counter + 2)

-- who has confirmed the need of a retired generation holds that generation or a later one
abbrev pub ConfirmedIsLater : Member → ℕ → ℕ → Type 0
ConfirmedIsLater member retired need = IsValue member.word → need ≤ member.word → retired ≤ member.generation

-- who would confirm the need by its next report holds that generation or a later one already
abbrev pub LoadedIsLater : Member → ℕ → ℕ → Type 0
LoadedIsLater member retired need = (c : ℕ) → HasLoadedRoot member.loaded c → need ≤ c + 1 → retired ≤ member.generation

-- ---- the watchers

-- a delay count is the number of the watchers that hold it
abbrev pub CountsHolders : List Watcher → Delay → ℕ → Type 0
CountsHolders watchers delay count = count ≡ holders delay watchers

-- the counter that a watcher has loaded is the present one or an earlier one
abbrev pub WatchedIsReached : ℕ → Watcher → Type 0
WatchedIsReached counter watcher = (c : ℕ) → HasWatched watcher.phase c → c ≤ counter

-- a watcher holds the counts that go with its phase
abbrev pub HoldsAsPhase : Watcher → Type 0
HoldsAsPhase watcher = HoldsIn watcher.phase watcher.holds_even watcher.holds_odd

-- the counter of a claim is the present one or the one before
abbrev pub ClaimIsNear : ℕ → Watcher → Type 0
ClaimIsNear counter watcher = (c : ℕ) → HasClaim watcher.phase c → (c ≤ counter) × (counter ≤ c + 1)

-- while a claim is of the counter before, the delay is not scanned
abbrev pub ClaimHoldsBack : ℕ → Member → Watcher → Type 0
ClaimHoldsBack counter leader watcher = HasScannedDelay leader.role → (c : ℕ) → HasClaim watcher.phase c → counter ≤ c

-- who holds a generation has a claim
abbrev pub RootIsClaimed : Watcher → Type 0
RootIsClaimed watcher = (g : ℕ) → watcher.generation ≡ Some g → IsClaimed watcher.phase

-- who has loaded the root in a claim that reaches the need of a retired generation holds that generation or a later one
abbrev pub ClaimIsLater : Watcher → ℕ → ℕ → Type 0
ClaimIsLater watcher retired need =
    (c g : ℕ) → HasClaim watcher.phase c → watcher.generation ≡ Some g → need ≤ c + 1 → retired ≤ g

-- what holds of each watcher
pub record WatcherInvariant (counter : ℕ) (WasRetired : ℕ → ℕ → Type 0) (watcher : Watcher) : Type 0 where
  -- what it has loaded is the counter, or an earlier one
  pub watched_reached : WatchedIsReached counter watcher
  -- it holds what its phase says
  pub holds_as_phase : HoldsAsPhase watcher
  -- its claim is of the counter, or of the one before
  pub claim_near : ClaimIsNear counter watcher
  -- without a claim it holds no generation
  pub root_claimed : RootIsClaimed watcher
  -- with a claim that reaches a need it holds what needs it
  pub claim_later : (n v : ℕ) → WasRetired n v → ClaimIsLater watcher n v

-- ---- the whole

-- the progress invariant
pub record ProgressInvariant (m : Machine) : Type 0 where
  -- the counter is at least 1, and at most the last value
  pub counter_in_range : CounterInRange m.counter
  -- no word is above WAITING
  pub words_fit : (member : Member) → m.IsMember member → WordFits member
  -- values are the counter, or the one after it
  pub words_near : (member : Member) → m.IsMember member → WordIsNear m.counter member
  -- loaded counters are the counter, or the one before
  pub loads_near : (member : Member) → m.IsMember member → LoadedIsNear m.counter member
  -- who is scanned waits, enters or has confirmed
  pub scanned_done : (leader member : Member) → m.IsMember leader → m.IsMember member → ScannedIsDone m.counter leader member
  -- who is scanned and has loaded a counter has loaded the present one
  pub scanned_counter : (leader member : Member) → m.IsMember leader → m.IsMember member → ScannedHasCounter m.counter leader member
  -- who leads is the leader
  pub leads_as_leader : (member : Member) → m.IsMember member → LeadsAsLeader m.leader member
  -- the leader leads
  pub leader_leads : (member : Member) → m.IsMember member → LeaderLeads m.leader member
  -- the leader's word is a value
  pub leader_awake : (member : Member) → m.IsMember member → LeaderIsAwake member
  -- what the leader has loaded is the counter
  pub leader_knows : (member : Member) → m.IsMember member → LeaderKnows m.counter member
  -- what was retired was published, with a need at most two above the counter
  pub needs_near : (n v : ℕ) → m.WasRetired n v → NeedIsNear m.counter m.generation n v
  -- who has confirmed a need holds what needs it
  pub confirmed_later : (member : Member) → m.IsMember member → (n v : ℕ) → m.WasRetired n v → ConfirmedIsLater member n v
  -- who would confirm a need by its next report holds what needs it
  pub loaded_later : (member : Member) → m.IsMember member → (n v : ℕ) → m.WasRetired n v → LoadedIsLater member n v
  -- each delay count is the number of its holders
  pub delays_counted : (delay : Delay) → CountsHolders m.watchers delay (count_of m delay)
  -- a claim of the counter before keeps the delay from being scanned
  pub claims_hold_back : (leader : Member) (watcher : Watcher) → m.IsMember leader → IsWatcher m watcher → ClaimHoldsBack m.counter leader watcher
  -- what holds of each watcher
  pub each_watcher : (watcher : Watcher) → IsWatcher m watcher → WatcherInvariant m.counter m.WasRetired watcher

-- grace: once the counter has reached the need of a retired generation, no thread may read an earlier one
abbrev pub Grace : Machine → Type 0
Grace m = (n v : ℕ) → m.WasRetired n v → v ≤ m.counter → (g : ℕ) → Readable m g → n ≤ g

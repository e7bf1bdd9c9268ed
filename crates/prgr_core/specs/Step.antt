-- The events of the progress machine: where each is enabled, and what it leaves. Lists and single events;
-- the running program has words and threads.
-- Source: Erlang/OTP erts internal documentation, ThreadProgress. The numbers are this project's own.
use Rattle.std.specs.Prelude.{◌≡◌, ℕ, zero, suc, ◌+◌, ◌-◌, ◌^◌, ◌≤◌, ◌==◌, Bool, true, false, ◌&&◌, ◌||◌, nat_lt, nat_le, is_none, if◌then◌else◌, List, [], ◌∷◌, ◌++◌, length, take, slice_get, slice_set, Option, Some, None, IsSomeAnd}
use Rattle.std.specs.Option.{option_and_then}
use Rattle.prgr_core.specs.declared.member.TheConstants.{OPENING_COUNTER, OPENING_WORD, LAST_VALUE, MOST_MEMBERS}
use Rattle.prgr_core.specs.declared.watcher.TheConstants.{MOST_WATCHERS}
use Rattle.prgr_core.specs.declared.watcher.Delay.{Delay}
use Rattle.prgr_core.specs.declared.watcher.Phase.TheVariants.{Idle}
use Rattle.prgr_core.specs.declared.watcher.Watcher.{Watcher}
use Rattle.prgr_core.specs.declared.member.Loaded.{Loaded}
use Rattle.prgr_core.specs.declared.member.Loaded.TheVariants.{Nothing, Counter, CounterAndRoot}
use Rattle.prgr_core.specs.declared.member.Scans.{Scans}
use Rattle.prgr_core.specs.declared.member.Role.{Role}
use Rattle.prgr_core.specs.declared.member.Role.TheVariants.{Follows, Leads}
use Rattle.prgr_core.specs.declared.member.Member.{Member}
use Rattle.prgr_core.specs.declared.progress.Progress.{Progress}
use Rattle.prgr_core.specs.declared.event.PrgrEvent.{PrgrEvent}
use Rattle.prgr_core.specs.declared.event.PrgrEvent.TheVariants.{LoadCounter, LoadRoot, Report, Lead, Scan, ScanDelay, Advance, GiveUp, Wait, Enter, Publish, Retire, Release, WatchLoad, WatchAdd, WatchRoot, WatchSub}
use Rattle.prgr_core.specs.declared.fault.ReplayFault.{ReplayFault}
use Rattle.prgr_core.specs.declared.fault.ReplayFault.TheVariants as replays
use Rattle.prgr_core.specs.Needs.{need_of, with_need, without_need}
use Rattle.prgr_core.specs.Members.{is_waiting, is_value, have_scanned_all, is_done, no_scans, counter_loaded, root_loaded, confirmed, leading, following, with_scanned, leading_with, waiting, entering}
use Rattle.prgr_core.specs.Watchers.{delay_of, delay_numbered, of_delay, holds_delay, may_look, may_add, is_claimed, may_leave, counter_watched, delay_added, root_watched, delay_dropped}
use Rattle.prgr_core.specs.Machine.{machine_of}
use Rattle.prgr_core.specs.Invariant.{ProgressInvariant}

-- ---- parts

-- the state in which member k is this one
abbrev pub with_member : Progress → ℕ → Member → Progress
with_member s k member = record s { members = slice_set s.members k member }

-- what becomes of the state by member k, if the state has one
abbrev pub by_member : Progress → ℕ → (Member → Option Progress) → Option Progress
by_member s k next = option_and_then next (slice_get s.members k)

-- what becomes of the state by the scans of this role, if it leads
abbrev pub by_role : Role → (Scans → Option Progress) → Option Progress
by_role Follows next = None
by_role (Leads scans) next = next scans

-- what becomes of the state by member k and its scans, if it leads
abbrev pub by_leader : Progress → ℕ → (Member → Scans → Option Progress) → Option Progress
by_leader s k next = by_member s k (λ member. by_role member.role (next member))

-- the state in which watcher w is this one
abbrev pub with_watcher : Progress → ℕ → Watcher → Progress
with_watcher s w watcher = record s { watchers = slice_set s.watchers w watcher }

-- what becomes of the state by watcher w, if the state has one
abbrev pub by_watcher : Progress → ℕ → (Watcher → Option Progress) → Option Progress
by_watcher s w next = option_and_then next (slice_get s.watchers w)

-- what becomes of the state by watcher w and the delay counter of this number, if the state has both
abbrev pub by_delay : Progress → ℕ → ℕ → (Watcher → Delay → Option Progress) → Option Progress
by_delay s w which next = by_watcher s w (λ watcher. option_and_then (next watcher) (delay_numbered which))

-- the count of this delay counter
abbrev pub delay_count : Progress → Delay → ℕ
delay_count s delay = of_delay delay s.delay_even s.delay_odd

-- the state with this count of this delay counter
abbrev pub with_delay_count : Progress → Delay → ℕ → Progress
with_delay_count s delay count = record s {
  delay_even = of_delay delay count s.delay_even;
  delay_odd = of_delay delay s.delay_odd count;
}

-- it has loaded the counter
abbrev pub has_loaded : Loaded → Bool
has_loaded Nothing = false
has_loaded (Counter c) = true
has_loaded (CounterAndRoot c) = true

-- it does not lead
abbrev pub follows : Role → Bool
follows Follows = true
follows (Leads scans) = false

-- ---- events

-- a report confirms the counter that was loaded, if the root was loaded after it
abbrev pub reported : Progress → ℕ → Member → Loaded → Option Progress
reported s k member Nothing = None
reported s k member (Counter c) = None
reported s k member (CounterAndRoot c) = Some (with_member s k (confirmed c member))

-- the member takes the lead
abbrev pub led : Progress → ℕ → Member → Progress
led s k member = record (with_member s k (leading member)) { leader = Some k }

-- member k is scanned too if it is done
abbrev pub scan_of : ℕ → Scans → ℕ → ℕ → Scans
scan_of counter scans k word = if is_done counter word then with_scanned k scans else scans

-- the leader looks at member j, if there is one
abbrev pub scan_of_other : Progress → ℕ → Member → Scans → ℕ → Option Progress
scan_of_other s k leader scans j =
    by_member s j (λ other. Some (with_member s k (leading_with (scan_of s.counter scans j other.word) leader)))

-- the delay is scanned if the count is 0
abbrev pub delay_scan_of : Scans → ℕ → Scans
delay_scan_of scans count = if count == 0 then record scans { delay = true } else scans

-- every member is scanned, the delay too where there are watchers, and the counter is below its last value
abbrev pub may_advance : Progress → Scans → Bool
may_advance s scans =
    have_scanned_all scans s.members && (scans.delay || (length s.watchers == 0)) && nat_lt s.counter LAST_VALUE

-- the counter is one higher, and the leader has scanned nothing
abbrev pub advanced : Progress → ℕ → Member → Progress
advanced s k member =
    record (with_member s k (leading_with (no_scans (Some (s.counter + 1))) member)) { counter = s.counter + 1 }

-- nobody leads
abbrev pub given_up : Progress → ℕ → Member → Progress
given_up s k member = record (with_member s k (following member)) { leader = None }

-- the present generation needs two more values of the counter
abbrev pub with_retirement : Progress → Progress
with_retirement s = record s {
  needs = with_need s.needs s.generation (s.counter + 2);
  retired = s.retired ++ (record { generation = s.generation; need = s.counter + 2 }) ∷ [];
}

-- the present generation has this need from now on, whatever is awaited
abbrev pub with_pair : Progress → Progress
with_pair s = record s { retired = s.retired ++ (record { generation = s.generation; need = s.counter + 2 }) ∷ [] }

-- a retirement leaves once the counter has reached its need
abbrev pub progress_released : Progress → ℕ → Option ℕ → Option Progress
progress_released s generation None = None
progress_released s generation (Some need) =
    if nat_le need s.counter then Some (record s { needs = without_need s.needs generation }) else None

-- the watcher raises the count of this delay counter
abbrev pub raised : Progress → ℕ → Watcher → Delay → Progress
raised s w watcher delay =
    with_delay_count (with_watcher s w (delay_added delay watcher)) delay (delay_count s delay + 1)

-- the watcher lowers the count of this delay counter
abbrev pub lowered : Progress → ℕ → Watcher → Delay → Progress
lowered s w watcher delay =
    with_delay_count (with_watcher s w (delay_dropped delay watcher)) delay (delay_count s delay - 1)

-- the state after an event, or none where the event is not enabled
abbrev pub after : Progress → PrgrEvent → Option Progress
after s (LoadCounter k) = by_member s k (λ member. if is_waiting member.word then None else Some (with_member s k (counter_loaded s.counter member)))
after s (LoadRoot k) = by_member s k (λ member. if has_loaded member.loaded then Some (with_member s k (root_loaded s.generation member)) else None)
after s (Report k) = by_member s k (λ member. reported s k member member.loaded)
after s (Lead k) = by_member s k (λ member. if is_none s.leader && is_value member.word then Some (led s k member) else None)
after s (Scan k j) = by_leader s k (λ leader scans. if is_waiting leader.word then None else scan_of_other s k leader scans j)
after s (ScanDelay k) = by_leader s k (λ leader scans. Some (with_member s k (leading_with (delay_scan_of scans (delay_count s (delay_of (s.counter + 1)))) leader)))
after s (Advance k) = by_leader s k (λ leader scans. if may_advance s scans then Some (advanced s k leader) else None)
after s (GiveUp k) = by_leader s k (λ leader scans. Some (given_up s k leader))
after s (Wait k) = by_member s k (λ member. if is_value member.word && follows member.role then Some (with_member s k (waiting member)) else None)
after s (Enter k) = by_member s k (λ member. if is_waiting member.word then Some (with_member s k (entering member)) else None)
after s Publish = Some (record s { generation = s.generation + 1 })
after s Retire = if nat_lt 0 s.generation && is_none (need_of s.needs s.generation) then Some (with_retirement s) else None
after s (Release g) = progress_released s g (need_of s.needs g)
after s (WatchLoad w) = by_watcher s w (λ watcher. if may_look watcher.phase then Some (with_watcher s w (counter_watched s.counter watcher)) else None)
after s (WatchAdd w which) = by_delay s w which (λ watcher delay. if may_add watcher.phase delay then Some (raised s w watcher delay) else None)
after s (WatchRoot w) = by_watcher s w (λ watcher. if is_claimed watcher.phase then Some (with_watcher s w (root_watched s.generation watcher)) else None)
after s (WatchSub w which) = by_delay s w which (λ watcher delay. if may_leave watcher.phase && holds_delay delay watcher then Some (lowered s w watcher delay) else None)

-- where memory may be refused: a retirement is kept, and no generation follows the last of a word
abbrev pub LacksMemory : Progress → PrgrEvent → Type 0
LacksMemory s Retire = Unit {0}
LacksMemory s Publish = 2 ^ 64 ≤ s.generation + 1
LacksMemory s _ = ⊥

-- the state after events in turn, or none where one of them is not enabled
abbrev pub after_all : Progress → List PrgrEvent → Option Progress
after_all s [] = Some s
after_all s (event ∷ events) = option_and_then (λ next. after_all next events) (after s event)

-- the events before the one of this index, counted from 1, lead to the new state, and that one is not enabled there
pub record StopsAt (old : Progress) (events : List PrgrEvent) (index : ℕ) (new : Progress) : Type 0 where
  pub counted : 1 ≤ index
  pub before : after_all old (take (index - 1) events) ≡ Some new
  pub refused : IsSomeAnd (slice_get events (index - 1)) (λ event. after new event ≡ None)

-- the events before the one of this index, counted from 1, lead to the new state, and that one may lack memory there
pub record ComesTo (old : Progress) (events : List PrgrEvent) (index : ℕ) (new : Progress) : Type 0 where
  pub counted : 1 ≤ index
  pub before : after_all old (take (index - 1) events) ≡ Some new
  pub lacks : IsSomeAnd (slice_get events (index - 1)) (LacksMemory new)

-- what a replay that was refused tells, and what it leaves
abbrev pub StopsBy : Progress → List PrgrEvent → ReplayFault → Progress → Type 0
StopsBy old events (replays.NotEnabled index) new = StopsAt old events index new
StopsBy old events (replays.NoMemory index) new = ComesTo old events index new

-- ---- states

-- a member as it begins: awake, and holding generation 0
abbrev pub opening_member : ℕ → Member
opening_member k = record { number = k; word = OPENING_WORD; loaded = Nothing; generation = 0; role = Follows }

-- as many members, numbered from 0
abbrev pub opening_members : ℕ → List Member
opening_members zero = []
opening_members (suc n) = opening_members n ++ opening_member n ∷ []

-- a watcher as it begins: idle, and holding nothing
abbrev pub opening_watcher : ℕ → Watcher
opening_watcher w = record { number = w; phase = Idle; holds_even = false; holds_odd = false; generation = None }

-- as many watchers, numbered from 0
abbrev pub opening_watchers : ℕ → List Watcher
opening_watchers zero = []
opening_watchers (suc n) = opening_watchers n ++ opening_watcher n ∷ []

-- the state in which a list of events begins, of so many members and watchers
abbrev pub progress_opening : ℕ → ℕ → Progress
progress_opening members watchers = record {
  counter = OPENING_COUNTER;
  generation = 0;
  leader = None;
  members = opening_members members;
  delay_even = 0;
  delay_odd = 0;
  watchers = opening_watchers watchers;
  needs = [];
  retired = [];
}

-- the state meets the progress invariant, and its members and watchers are numbered by their places
pub record IsSound (s : Progress) : Type 0 where
  pub invariant : ProgressInvariant (machine_of s)
  pub numbered : (k : ℕ) (member : Member) → slice_get s.members k ≡ Some member → member.number ≡ k
  pub few : length s.members ≤ MOST_MEMBERS
  pub watchers_numbered : (k : ℕ) (watcher : Watcher) → slice_get s.watchers k ≡ Some watcher → watcher.number ≡ k
  pub watchers_few : length s.watchers ≤ MOST_WATCHERS

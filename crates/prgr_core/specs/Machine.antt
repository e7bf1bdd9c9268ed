-- The progress machine as the invariant sees it: the counter, the generation, a leader, the two delay counts with
-- the watchers, and predicates that say which members and retirements there are. Lists of members and views of
-- threads both show such a machine; the watchers are a list, since the holders of a delay count are counted.
-- Source: Erlang/OTP erts internal documentation, ThreadProgress. The numbers and the watchers' part are this project's own.
use Rattle.std.specs.Prelude.{◌≡◌, ℕ, List, Option, Some, slice_get, ◌⊎◌}
use Rattle.prgr_core.specs.declared.member.TheConstants.{ENTERING}
use Rattle.prgr_core.specs.declared.member.Member.{Member}
use Rattle.prgr_core.specs.declared.watcher.Delay.{Delay}
use Rattle.prgr_core.specs.declared.watcher.Watcher.{Watcher}
use Rattle.prgr_core.specs.declared.progress.Progress.{Progress}
use Rattle.prgr_core.specs.Members.{IsValue, HasLoadedRoot}
use Rattle.prgr_core.specs.Watchers.{of_delay, IsClaimed}

-- a state of the machine
pub record Machine : Type 1 where
  pub counter : ℕ
  pub generation : ℕ
  -- the number of the leader, where there is one
  pub leader : Option ℕ
  pub IsMember : Member → Type 0
  -- the delay count of even values of the counter
  pub delay_even : ℕ
  -- the delay count of odd values of the counter
  pub delay_odd : ℕ
  pub watchers : List Watcher
  -- a generation was retired with this need, and may have been released since
  pub WasRetired : ℕ → ℕ → Type 0

-- the machine of a state with lists
abbrev pub machine_of : Progress → Machine
machine_of s = record {
  counter = s.counter;
  generation = s.generation;
  leader = s.leader;
  IsMember = λ member. slice_get s.members member.number ≡ Some member;
  delay_even = s.delay_even;
  delay_odd = s.delay_odd;
  watchers = s.watchers;
  WasRetired = λ generation need. (k : ℕ) × (slice_get s.retired k ≡ Some (record { generation = generation; need = need }));
}

-- the watcher is one of these
abbrev pub IsAmongWatchers : List Watcher → Watcher → Type 0
IsAmongWatchers watchers watcher = (k : ℕ) × (slice_get watchers k ≡ Some watcher)

-- a watcher of the machine
abbrev pub IsWatcher : Machine → Watcher → Type 0
IsWatcher m watcher = IsAmongWatchers m.watchers watcher

-- the count of this delay counter
abbrev pub count_of : Machine → Delay → ℕ
count_of m delay = of_delay delay m.delay_even m.delay_odd

-- it may read what it holds since it confirmed a value, or since it loaded counter and root while entering
abbrev pub MayRead : Member → Type 0
MayRead member = IsValue member.word ⊎ ((member.word ≡ ENTERING) × ((c : ℕ) × HasLoadedRoot member.loaded c))

-- a member that may read holds this generation
abbrev pub IsReadByMember : Machine → ℕ → Type 0
IsReadByMember m g = (member : Member) × m.IsMember member × MayRead member × (member.generation ≡ g)

-- a watcher with a claim has loaded the root, and holds this generation
abbrev pub IsReadByWatcher : Machine → ℕ → Type 0
IsReadByWatcher m g = (watcher : Watcher) × IsWatcher m watcher × IsClaimed watcher.phase × (watcher.generation ≡ Some g)

-- some thread may read a block of this generation, or may come to by one load of the root
abbrev pub Readable : Machine → ℕ → Type 0
Readable m g = (g ≡ m.generation) ⊎ (IsReadByMember m g ⊎ IsReadByWatcher m g)

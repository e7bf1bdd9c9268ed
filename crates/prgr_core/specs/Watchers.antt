-- One watcher of the progress machine: what its record says, and what each event does to its record.
-- A watcher is a thread that is no member. It raises the delay count of the counter that it has loaded, and may
-- read once it finds the counter where it was; where the counter has gone on it raises the other count too.
-- Source: of the Erlang/OTP erts internal documentation, ThreadProgress, the purpose alone, that an unmanaged thread
-- delays progress. The two counts and the order of the steps are this project's own.
-- Plain records, one event at a time; the running program has words and threads.
use Rattle.std.specs.Prelude.{◌≡◌, ℕ, ◌%◌, ◌==◌, Bool, true, false, not, if◌then◌else◌, List, Option, Some, None}
use Rattle.std.specs.List.{count_by}
use Rattle.prgr_core.specs.declared.watcher.Delay.{Delay}
use Rattle.prgr_core.specs.declared.watcher.Delay.TheVariants.{Even, Odd}
use Rattle.prgr_core.specs.declared.watcher.Phase.{Phase}
use Rattle.prgr_core.specs.declared.watcher.Phase.TheVariants.{Idle, Loaded, Added, Moved, Both, Claimed, Leaving}
use Rattle.prgr_core.specs.declared.watcher.Watcher.{Watcher}

-- ---- the two delay counters

-- the delay counter of a value: that of its parity
abbrev pub delay_of : ℕ → Delay
delay_of value = if value % 2 == 0 then Even else Odd

-- the delay counter of this number, if there is one
abbrev pub delay_numbered : ℕ → Option Delay
delay_numbered which = if which == 0 then Some Even else if which == 1 then Some Odd else None

-- the other delay counter
abbrev pub other_delay : Delay → Delay
other_delay Even = Odd
other_delay Odd = Even

-- they are one delay counter
abbrev pub is_same_delay : Delay → Delay → Bool
is_same_delay Even Even = true
is_same_delay Even Odd = false
is_same_delay Odd Even = false
is_same_delay Odd Odd = true

-- of two, the one that belongs to this delay counter
abbrev pub of_delay : {T : Type 0} → Delay → T → T → T
of_delay Even even odd = even
of_delay Odd even odd = odd

-- it holds the count of this delay counter
abbrev pub holds_delay : Delay → Watcher → Bool
holds_delay delay watcher = of_delay delay watcher.holds_even watcher.holds_odd

-- how many of them hold the count of this delay counter
abbrev pub holders : Delay → List Watcher → ℕ
holders delay watchers = count_by (holds_delay delay) watchers

-- ---- facts

-- it has loaded this counter, and not looked at it since
abbrev pub HasWatched : Phase → ℕ → Type 0
HasWatched (Loaded x) c = x ≡ c
HasWatched (Added x) c = x ≡ c
HasWatched _ c = ⊥

-- it may read, and claimed that at this counter
abbrev pub HasClaim : Phase → ℕ → Type 0
HasClaim (Claimed x) c = x ≡ c
HasClaim _ c = ⊥

-- it may read
abbrev pub IsClaimed : Phase → Type 0
IsClaimed phase = (c : ℕ) × HasClaim phase c

-- of the counts of even and of odd values, this one is held and the other is not
abbrev pub HoldsAlone : Delay → Bool → Bool → Type 0
HoldsAlone delay even odd = (of_delay delay even odd ≡ true) × (of_delay (other_delay delay) even odd ≡ false)

-- no count is held
abbrev pub HoldsNone : Bool → Bool → Type 0
HoldsNone even odd = (even ≡ false) × (odd ≡ false)

-- both counts are held
abbrev pub HoldsBoth : Bool → Bool → Type 0
HoldsBoth even odd = (even ≡ true) × (odd ≡ true)

-- the counts that are held go with the phase; with a claim that of its counter is held, whatever is held besides
abbrev pub HoldsIn : Phase → Bool → Bool → Type 0
HoldsIn Idle even odd = HoldsNone even odd
HoldsIn (Loaded c) even odd = HoldsNone even odd
HoldsIn (Added c) even odd = HoldsAlone (delay_of c) even odd
HoldsIn (Moved delay) even odd = HoldsAlone delay even odd
HoldsIn Both even odd = HoldsBoth even odd
HoldsIn (Claimed c) even odd = of_delay (delay_of c) even odd ≡ true
HoldsIn Leaving even odd = Unit {0}

-- ---- tests

-- in this phase a watcher may load the counter
abbrev pub may_look : Phase → Bool
may_look (Moved delay) = false
may_look (Claimed c) = false
may_look Leaving = false
may_look _ = true

-- in this phase a watcher may raise this count: that of the counter it loaded, or the one that it does not hold
abbrev pub may_add : Phase → Delay → Bool
may_add (Loaded c) delay = is_same_delay delay (delay_of c)
may_add (Moved held) delay = not (is_same_delay delay held)
may_add _ delay = false

-- in this phase a watcher may load the root, and read
abbrev pub is_claimed : Phase → Bool
is_claimed (Claimed c) = true
is_claimed _ = false

-- in this phase a watcher may lower a count that it holds
abbrev pub may_leave : Phase → Bool
may_leave (Claimed c) = true
may_leave Leaving = true
may_leave _ = false

-- ---- what events do

-- the phase after a load of the counter
abbrev pub phase_seeing : ℕ → Phase → Phase
phase_seeing counter Idle = Loaded counter
phase_seeing counter (Loaded c) = Loaded counter
phase_seeing counter (Added c) = if counter == c then Claimed counter else Moved (delay_of c)
phase_seeing counter (Moved delay) = Moved delay
phase_seeing counter Both = Claimed counter
phase_seeing counter (Claimed c) = Claimed c
phase_seeing counter Leaving = Leaving

-- it has loaded the counter
abbrev pub counter_watched : ℕ → Watcher → Watcher
counter_watched counter watcher = record watcher { phase = phase_seeing counter watcher.phase }

-- it holds the count of this delay counter, or does not, as is said
abbrev pub with_held_count : Delay → Bool → Watcher → Watcher
with_held_count delay held watcher = record watcher {
  holds_even = of_delay delay held watcher.holds_even;
  holds_odd = of_delay delay watcher.holds_odd held;
}

-- the phase after a count was raised
abbrev pub phase_holding : Phase → Phase
phase_holding (Loaded c) = Added c
phase_holding (Added c) = Added c
phase_holding (Moved delay) = Both
phase_holding (Claimed c) = Claimed c
phase_holding phase = phase

-- it has raised this count
abbrev pub delay_added : Delay → Watcher → Watcher
delay_added delay watcher = record (with_held_count delay true watcher) { phase = phase_holding watcher.phase }

-- it has loaded the root in its claim, and holds this generation
abbrev pub root_watched : ℕ → Watcher → Watcher
root_watched generation watcher = record watcher { generation = Some generation }

-- it has lowered this count, and its claim, if it had one, is over
abbrev pub delay_dropped : Delay → Watcher → Watcher
delay_dropped delay watcher =
    record (with_held_count delay false watcher) { phase = if holds_delay (other_delay delay) watcher then Leaving else Idle; generation = None }

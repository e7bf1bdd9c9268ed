-- One member of the progress machine: what its word and its record say, and what each event does to its record.
-- Source: Erlang/OTP erts internal documentation, ThreadProgress. The numbers are this project's own.
-- Plain records, one event at a time; the running program has words and threads.
use Rattle.std.specs.Prelude.{◌≡◌, ℕ, ◌+◌, ◌<◌, ◌==◌, Bool, true, false, ◌&&◌, ◌||◌, nat_lt, List, slice_get, slice_set, replicate, Option, Some, None, unwrap_or}
use Rattle.std.specs.List.{list_all}
use Rattle.prgr_core.specs.declared.member.TheConstants.{WAITING, ENTERING, MOST_MEMBERS}
use Rattle.prgr_core.specs.declared.member.Loaded.{Loaded}
use Rattle.prgr_core.specs.declared.member.Loaded.TheVariants.{Nothing, Counter, CounterAndRoot}
use Rattle.prgr_core.specs.declared.member.Scans.{Scans}
use Rattle.prgr_core.specs.declared.member.Role.{Role}
use Rattle.prgr_core.specs.declared.member.Role.TheVariants.{Follows, Leads}
use Rattle.prgr_core.specs.declared.member.Member.{Member}

-- ---- facts

-- a word is a value where it is neither ENTERING nor WAITING
abbrev pub IsValue : ℕ → Type 0
IsValue word = (ENTERING < word) × (word < WAITING)

-- the counter c was loaded, and nothing confirmed since
abbrev pub HasLoaded : Loaded → ℕ → Type 0
HasLoaded Nothing c = ⊥
HasLoaded (Counter d) c = d ≡ c
HasLoaded (CounterAndRoot d) c = d ≡ c

-- the counter c was loaded, and then the root
abbrev pub HasLoadedRoot : Loaded → ℕ → Type 0
HasLoadedRoot Nothing c = ⊥
HasLoadedRoot (Counter d) c = ⊥
HasLoadedRoot (CounterAndRoot d) c = d ≡ c

-- it leads
abbrev pub IsLeading : Role → Type 0
IsLeading Follows = ⊥
IsLeading (Leads scans) = Unit {0}

-- it leads, and member k is among those that it has scanned
abbrev pub HasScanned : Role → ℕ → Type 0
HasScanned Follows k = ⊥
HasScanned (Leads scans) k = slice_get scans.members k ≡ Some true

-- it leads, and has scanned the delay
abbrev pub HasScannedDelay : Role → Type 0
HasScannedDelay Follows = ⊥
HasScannedDelay (Leads scans) = scans.delay ≡ true

-- it leads, and has loaded or raised the counter to c since
abbrev pub KnowsCounter : Role → ℕ → Type 0
KnowsCounter Follows c = ⊥
KnowsCounter (Leads scans) c = scans.counter ≡ Some c

-- ---- tests

-- the word of a member that waits
abbrev pub is_waiting : ℕ → Bool
is_waiting word = word == WAITING

-- the word is a value
abbrev pub is_value : ℕ → Bool
is_value word = nat_lt ENTERING word && nat_lt word WAITING

-- member k is among those scanned
abbrev pub has_scanned : Scans → ℕ → Bool
has_scanned scans k = unwrap_or (slice_get scans.members k) false

-- each of the members is scanned
abbrev pub have_scanned_all : Scans → List Member → Bool
have_scanned_all scans members = list_all (λ member. has_scanned scans member.number) members

-- a scan finds a member done where it waits, or has confirmed the value after the counter
abbrev pub is_done : ℕ → ℕ → Bool
is_done counter word = is_waiting word || (word == counter + 1)

-- ---- what events do

-- nothing is scanned
abbrev pub no_scans : Option ℕ → Scans
no_scans counter = record { counter = counter; members = replicate MOST_MEMBERS false; delay = false }

-- a leader knows the counter that it loads
abbrev pub role_knowing : ℕ → Role → Role
role_knowing c Follows = Follows
role_knowing c (Leads scans) = Leads (record scans { counter = Some c })

-- it has loaded the counter, and the root not since
abbrev pub counter_loaded : ℕ → Member → Member
counter_loaded counter member = record member { loaded = Counter counter; role = role_knowing counter member.role }

-- what is loaded once the root is, if the counter was
abbrev pub with_root : Loaded → Loaded
with_root Nothing = Nothing
with_root (Counter c) = CounterAndRoot c
with_root (CounterAndRoot c) = CounterAndRoot c

-- it has loaded the root, and holds this generation
abbrev pub root_loaded : ℕ → Member → Member
root_loaded generation member = record member { generation = generation; loaded = with_root member.loaded }

-- its word is the value after the counter c that it had loaded
abbrev pub confirmed : ℕ → Member → Member
confirmed c member = record member { word = c + 1; loaded = Nothing }

-- it leads, and has scanned nothing
abbrev pub leading : Member → Member
leading member = record member { role = Leads (no_scans None) }

-- it no longer leads
abbrev pub following : Member → Member
following member = record member { role = Follows }

-- it has scanned member k
abbrev pub with_scanned : ℕ → Scans → Scans
with_scanned k scans = record scans { members = slice_set scans.members k true }

-- it leads with these scans
abbrev pub leading_with : Scans → Member → Member
leading_with scans member = record member { role = Leads scans }

-- it waits
abbrev pub waiting : Member → Member
waiting member = record member { word = WAITING; loaded = Nothing }

-- it has ended its wait, and has not reported since
abbrev pub entering : Member → Member
entering member = record member { word = ENTERING; loaded = Nothing }

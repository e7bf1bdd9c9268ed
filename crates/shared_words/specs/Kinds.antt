-- The kinds of steps: which view may make each, and what it makes of the view.
-- Each is an event of the progress machine or of blocks and slots, and says so by the function of that event.
use Rattle.std.specs.Prelude.{◌≡◌, ℕ, ◌+◌, ◌-◌, ◌%◌, ◌<◌, ◌≤◌, ◌⊎◌, ◌==◌, ◌||◌, if◌then◌else◌, List, [], ◌∷◌, ◌++◌, length, false, IsTrue, Some, None, unwrap_or}
use Rattle.atomic_table.specs.Table.{Me, Step}
use Rattle.prgr_core.specs.declared.member.Member as machines
use Rattle.prgr_core.specs.declared.watcher.Watcher as watching
use Rattle.prgr_core.specs.declared.watcher.TheConstants.{DELAY_COUNTS}
use Rattle.prgr_core.specs.declared.member.Loaded.TheVariants.{Nothing}
use Rattle.prgr_core.specs.declared.member.TheConstants.{LAST_VALUE, MOST_MEMBERS}
use Rattle.prgr_core.specs.declared.member.Scans.{Scans}
use Rattle.prgr_core.specs.declared.member.Role.{Role}
use Rattle.prgr_core.specs.declared.member.Role.TheVariants.{Follows, Leads}
use Rattle.prgr_core.specs.Members.{IsLeading, no_scans}
use Rattle.prgr_core.specs.Members as members
use Rattle.prgr_core.specs.Watchers as watchers
use Rattle.prgr_core.specs.Step.{has_loaded, follows, scan_of, delay_scan_of}
use Rattle.prgr_core.specs.Invariant.{CounterInRange}
use Rattle.term_core.specs.declared.area.AreaRef.{AreaRef}
use Rattle.area_core.specs.declared.table.Published.{Published}
use Rattle.area_core.specs.Step.{confirms}
use Rattle.area_core.specs.Blocks.{RootFits, Among}
use Rattle.area_core.specs.Roots.{serial_image}
use Rattle.shared_words.specs.declared.table.TheConstants.{DELAYS, CONFIRMED}
use Rattle.shared_words.specs.declared.opening.Opening.{Opening}
use Rattle.shared_words.specs.declared.view.FoundWord.TheVariants.{MemberWord, LeaderWord, DelayCount}
use Rattle.shared_words.specs.declared.view.NoteNumber.{NoteNumber}
use Rattle.shared_words.specs.declared.view.MemberView.{MemberView}
use Rattle.shared_words.specs.declared.view.WatcherView.{WatcherView}
use Rattle.shared_words.specs.declared.view.WriterView.{WriterView}
use Rattle.shared_words.specs.declared.view.View.{View}
use Rattle.shared_words.specs.declared.view.View.TheVariants.{Writer, Member, Watcher, Note, Spent}
use Rattle.shared_words.specs.Views.{newest_number, newest_root, published_at, seen_generations, notes_of}
use Rattle.shared_words.specs.Processes.{held_by_view, NamesArea, AreAtRest}
use Rattle.shared_words.specs.Rule.{IsBeginning, HasItsAreas}
use Rattle.shared_words.specs.Seats.{member_of, watcher_of}

-- a seat of the table, which has no slots
abbrev pub Sat : Type 0
Sat = Me (Unit {0}) View

-- ---- the load of the counter

-- who may load the counter: a member that does not wait, as none that leads does, the writer and a note; and a watcher that
-- holds no delay count, that has raised the count of the counter that it loaded, or that holds both counts
abbrev pub MayLoadCounter : View → Type 0
MayLoadCounter (Writer w) = Unit {0}
MayLoadCounter (Member m) = (members.is_waiting m.member.word ≡ false) ⊎ IsLeading m.member.role
MayLoadCounter (Watcher w) = IsTrue (watchers.may_look w.watcher.phase)
MayLoadCounter (Note n) = Unit {0}
MayLoadCounter Spent = ⊥

-- the writer keeps from when on what its newest generation replaced is no longer read
abbrev pub counter_kept : ℕ → WriterView → WriterView
counter_kept counter w = record w {
  pairs = w.pairs ++ (record { generation = newest_number w.published; need = counter + 2 }) ∷ [];
  counter = counter;
}

-- what a seat knows once it has found this counter
abbrev pub counter_found : ℕ → View → View
counter_found counter (Writer w) = Writer (counter_kept counter w)
counter_found counter (Member m) = Member (record m { member = members.counter_loaded counter m.member })
counter_found counter (Watcher w) = Watcher (record w { watcher = watchers.counter_watched counter w.watcher })
counter_found counter (Note n) = Note n
counter_found counter Spent = Spent

-- for the writer the counter is not below what it loaded before
abbrev pub IsRising : View → ℕ → Type 0
IsRising v counter = (w : WriterView) → v ≡ Writer w → w.counter ≤ counter

-- what a load of the counter tells: the counter is in its range, it does not fall, and the seat knows it
pub record counter_loaded (st : Step (Unit {0})) (me : Sat) (counter : ℕ) (me' : Sat) : Type 0 where
  pub range : CounterInRange counter
  pub rising : IsRising me.0 counter
  pub view : me' ≡ (counter_found counter me.0, me.1)

-- ---- the load of the root

-- who may load the root: a member that is awake and has loaded the counter only while no turn of its processes is under way
abbrev pub MayLoadRoot : View → Type 0
MayLoadRoot (Writer w) = Unit {0}
MayLoadRoot (Member m) = IsTrue (has_loaded m.member.loaded) → IsTrue (members.is_value m.member.word) → AreAtRest m
MayLoadRoot (Watcher w) = Unit {0}
MayLoadRoot (Note n) = Unit {0}
MayLoadRoot Spent = ⊥

-- a member that has loaded the counter holds the newest generation from now on; another goes on as it was
abbrev pub member_with_root : ℕ → machines.Member → machines.Member
member_with_root g member = if has_loaded member.loaded then members.root_loaded g member else member

-- a watcher with a claim holds the newest generation from now on; another goes on as it was
abbrev pub watcher_with_root : ℕ → watching.Watcher → watching.Watcher
watcher_with_root g watcher = if watchers.is_claimed watcher.phase then watchers.root_watched g watcher else watcher

-- what a seat knows once it has found the root of the last of these generations
abbrev pub root_found : List Published → View → View
root_found published (Writer w) = Writer w
root_found published (Member m) = Member (record m { member = member_with_root (newest_number published) m.member; seen = published })
root_found published (Watcher w) = Watcher (record w { watcher = watcher_with_root (newest_number published) w.watcher; seen = published })
root_found published (Note n) = Note (record n { seen = published })
root_found published Spent = Spent

-- a generation has the area that another has, in the same block and with the same image
pub record IsSameIn (p q : Published) (a : AreaRef) : Type 0 where
  pub listed : Among q.areas a
  pub image : serial_image q.state.areas a.serial ≡ serial_image p.state.areas a.serial

-- what a slot of the member names, and the generation has that it held, the generation has that it holds now
abbrev pub NamedStay : View → View → Type 0
NamedStay old new =
    (m n : MemberView) → old ≡ Member m → new ≡ Member n → (a : AreaRef) → NamesArea m a.serial → Among (held_by_view m).areas a → IsSameIn (held_by_view m) (held_by_view n) a

-- what a load of the root tells: the generations so far are learnt, and the root found is that of the last of them,
-- which the code server has made, and names blocks that there are; and what was published at a spawn is among them, of
-- which the seat keeps a note
pub record RootLoaded (Served : Published → Type 0) (old new : View) (found : ℕ) : Type 0 where
  pub learnt : IsBeginning (seen_generations old) (seen_generations new)
  pub some : 0 < length (seen_generations new)
  pub root : found ≡ newest_root (seen_generations new)
  pub fits : RootFits (published_at (seen_generations new) (newest_number (seen_generations new))).root
  pub served : Served (published_at (seen_generations new) (newest_number (seen_generations new)))
  pub promised : (note : NoteNumber) → Among (notes_of old) note → note.published < length (seen_generations new)
  pub areas : HasItsAreas (published_at (seen_generations new) (newest_number (seen_generations new)))
  pub named : NamedStay old new
  pub view : new ≡ root_found (seen_generations new) old

-- the same of a step, which moves no slot
pub record root_loaded (Served : Published → Type 0) (st : Step (Unit {0})) (me : Sat) (found : ℕ) (me' : Sat) : Type 0 where
  pub told : RootLoaded Served me.0 me'.0 found
  pub slots : me'.1 ≡ me.1

-- ---- the store of a confirmed word

-- the member has loaded the counter and then the root, and confirms the value after that counter
abbrev pub MayConfirm : ℕ → MemberView → Type 0
MayConfirm value m = IsTrue (confirms value m.member.loaded)

-- it has confirmed this value
abbrev pub value_confirmed : ℕ → MemberView → MemberView
value_confirmed value m = record m { member = record m.member { word = value; loaded = Nothing } }

-- by the store it has confirmed the value, and nothing else of it changes
abbrev pub confirmed : Step (Unit {0}) → Sat → ℕ → Sat → Type 0
confirmed st me value me' = me' ≡ (Member (value_confirmed value (member_of me.0)), me.1)

-- ---- the stores by which a member begins and ends to wait

-- it may begin to wait: it is awake, and does not lead, and no turn of its processes is under way
pub record MayWait (m : MemberView) : Type 0 where
  pub awake : IsTrue (members.is_value m.member.word)
  pub follows : IsTrue (follows m.member.role)
  pub rest : AreAtRest m

-- it waits
abbrev pub now_waiting : MemberView → MemberView
now_waiting m = record m { member = members.waiting m.member }

-- by the store it waits, and nothing else of it changes
abbrev pub waiting_stored : Step (Unit {0}) → Sat → ℕ → Sat → Type 0
waiting_stored st me stored me' = me' ≡ (Member (now_waiting (member_of me.0)), me.1)

-- it may end its wait
abbrev pub MayEnter : MemberView → Type 0
MayEnter m = IsTrue (members.is_waiting m.member.word)

-- it enters
abbrev pub now_entering : MemberView → MemberView
now_entering m = record m { member = members.entering m.member }

-- by the store it enters, and nothing else of it changes
abbrev pub entering_stored : Step (Unit {0}) → Sat → ℕ → Sat → Type 0
entering_stored st me stored me' = me' ≡ (Member (now_entering (member_of me.0)), me.1)

-- ---- the steps of a leader

-- what a leader has scanned; a member that follows has scanned nothing
abbrev pub scans_of : Role → Scans
scans_of Follows = no_scans None
scans_of (Leads scans) = scans

-- the counter that a leader has loaded or raised since it leads, or 0
abbrev pub known_counter : MemberView → ℕ
known_counter m = unwrap_or (scans_of m.member.role).counter 0

-- the member leads, and knows the counter
pub record KnowsAsLeader (m : MemberView) : Type 0 where
  pub leads : IsLeading m.member.role
  pub knows : members.KnowsCounter m.member.role (known_counter m)

-- it may look at the word of this member
pub record MayScan (opening : Opening) (other : ℕ) (m : MemberView) : Type 0 where
  pub leader : KnowsAsLeader m
  pub there : other < opening.members

-- it has found this word of a member
abbrev pub word_scanned : ℕ → ℕ → MemberView → MemberView
word_scanned other word m = record m {
  member = members.leading_with (scan_of (known_counter m) (scans_of m.member.role) other word) m.member;
  found = MemberWord other word ∷ m.found;
}

-- the word of a member that does not wait is at most the value after the counter
pub record scanned (st : Step (Unit {0})) (me : Sat) (word : ℕ) (me' : Sat) : Type 0 where
  pub near : members.is_waiting word ≡ false → word ≤ known_counter (member_of me.0) + 1
  pub view : me' ≡ (Member (word_scanned (st.word - CONFIRMED) word (member_of me.0)), me.1)

-- it may look at this delay count: that of the value after the counter
pub record MayScanDelay (which : ℕ) (m : MemberView) : Type 0 where
  pub leader : KnowsAsLeader m
  pub is : which ≡ (known_counter m + 1) % 2

-- it has found so many watchers there, and the delay is scanned where there are none
abbrev pub delay_looked : ℕ → ℕ → MemberView → MemberView
delay_looked which count m = record m {
  member = members.leading_with (delay_scan_of (scans_of m.member.role) count) m.member;
  found = DelayCount which count ∷ m.found;
}

-- there are no more than watchers were made
pub record delay_scanned (made : ℕ) (st : Step (Unit {0})) (me : Sat) (count : ℕ) (me' : Sat) : Type 0 where
  pub few : count ≤ made
  pub view : me' ≡ (Member (delay_looked (st.word - DELAYS) count (member_of me.0)), me.1)

-- it has scanned each member, and the delay where there are watchers, and the counter is below its last value
pub record MayRaise (opening : Opening) (m : MemberView) : Type 0 where
  pub leader : KnowsAsLeader m
  pub all : (j : ℕ) → j < opening.members → IsTrue (members.has_scanned (scans_of m.member.role) j)
  pub delay : IsTrue ((scans_of m.member.role).delay || (opening.watchers == 0))
  pub below : known_counter m < LAST_VALUE

-- it has raised the counter by one, and scanned nothing since
abbrev pub counter_raised : MemberView → MemberView
counter_raised m = record m { member = members.leading_with (members.no_scans (Some (known_counter m + 1))) m.member }

-- by the step the counter is raised, and nothing else of the member changes
abbrev pub raised : Step (Unit {0}) → Sat → ℕ → Sat → Type 0
raised st me found me' = me' ≡ (Member (counter_raised (member_of me.0)), me.1)

-- it may try to take the lead
pub record MayLead (m : MemberView) : Type 0 where
  pub awake : IsTrue (members.is_value m.member.word)
  pub follows : IsTrue (follows m.member.role)

-- it has found this word of the leader, and leads where that told that nobody did
abbrev pub lead_found : ℕ → MemberView → MemberView
lead_found word m = record m {
  member = if word == 0 then members.leading m.member else m.member;
  found = LeaderWord word ∷ m.found;
}

-- who leads is a member
pub record lead_taken (st : Step (Unit {0})) (me : Sat) (found : ℕ) (me' : Sat) : Type 0 where
  pub leader : found ≤ MOST_MEMBERS
  pub view : me' ≡ (Member (lead_found found (member_of me.0)), me.1)

-- the member leads
abbrev pub IsLeader : MemberView → Type 0
IsLeader m = IsLeading m.member.role

-- it no longer leads
abbrev pub lead_given : MemberView → MemberView
lead_given m = record m { member = members.following m.member }

-- by the store it no longer leads, and nothing else of it changes
abbrev pub lead_dropped : Step (Unit {0}) → Sat → ℕ → Sat → Type 0
lead_dropped st me stored me' = me' ≡ (Member (lead_given (member_of me.0)), me.1)

-- ---- the steps of a watcher on the delay counts

-- it may raise this count: that of the counter that it has loaded, or, where the counter went on since, the other one
pub record MayAddDelay (which : ℕ) (v : WatcherView) : Type 0 where
  pub there : which < DELAY_COUNTS
  pub may : IsTrue (watchers.may_add v.watcher.phase (watchers.delay_of which))

-- it holds the count
abbrev pub with_delay : ℕ → WatcherView → WatcherView
with_delay which v = record v { watcher = watchers.delay_added (watchers.delay_of which) v.watcher }

-- by the step it holds the count, and nothing else of it changes
abbrev pub delay_raised : Step (Unit {0}) → Sat → ℕ → Sat → Type 0
delay_raised st me found me' = me' ≡ (Watcher (with_delay (st.word - DELAYS) (watcher_of me.0)), me.1)

-- it may lower this count: it holds it, and has a claim, or has lowered the other one since it had
pub record MayDropDelay (which : ℕ) (v : WatcherView) : Type 0 where
  pub there : which < DELAY_COUNTS
  pub leaves : IsTrue (watchers.may_leave v.watcher.phase)
  pub holds : IsTrue (watchers.holds_delay (watchers.delay_of which) v.watcher)

-- it no longer holds the count, and no longer a generation
abbrev pub without_delay : ℕ → WatcherView → WatcherView
without_delay which v = record v { watcher = watchers.delay_dropped (watchers.delay_of which) v.watcher }

-- by the step it no longer holds the count, and nothing else of it changes
abbrev pub delay_lowered : Step (Unit {0}) → Sat → ℕ → Sat → Type 0
delay_lowered st me found me' = me' ≡ (Watcher (without_delay (st.word - DELAYS) (watcher_of me.0)), me.1)

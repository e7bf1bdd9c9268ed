-- The text of a list of events: a relation on whole texts. Each list has one text.
use Rattle.std.specs.Prelude.{◌≡◌, ℕ, ◌<◌, ◌≤◌, ◌^◌, List, [], ◌∷◌, ◌++◌, codes, decimal}
use Rattle.std.specs.List.{AllByRecursion}
use Rattle.prgr_core.specs.declared.member.TheConstants.{MOST_MEMBERS}
use Rattle.prgr_core.specs.declared.watcher.TheConstants.{MOST_WATCHERS, DELAY_COUNTS}
use Rattle.prgr_core.specs.declared.event.Events.{Events}
use Rattle.prgr_core.specs.declared.event.PrgrEvent.{PrgrEvent}
use Rattle.prgr_core.specs.declared.event.PrgrEvent.TheVariants.{LoadCounter, LoadRoot, Report, Lead, Scan, ScanDelay, Advance, GiveUp, Wait, Enter, Publish, Retire, Release, WatchLoad, WatchAdd, WatchRoot, WatchSub}

-- the byte between words and numbers
abbrev pub space : ℕ
space = 32

-- the byte that ends a line
abbrev pub line_feed : ℕ
line_feed = 10

-- a word and a number
abbrev pub worded : List ℕ → ℕ → List ℕ
worded word n = word ++ space ∷ decimal n

-- a word and two numbers
abbrev pub worded_twice : List ℕ → ℕ → ℕ → List ℕ
worded_twice word n k = word ++ space ∷ (decimal n ++ space ∷ decimal k)

-- the line of an event, without its line feed
abbrev pub event_text : PrgrEvent → List ℕ
event_text (LoadCounter m) = worded (codes "load_counter") m
event_text (LoadRoot m) = worded (codes "load_root") m
event_text (Report m) = worded (codes "report") m
event_text (Lead m) = worded (codes "lead") m
event_text (Scan m k) = worded_twice (codes "scan") m k
event_text (ScanDelay m) = worded (codes "scan_delay") m
event_text (Advance m) = worded (codes "advance") m
event_text (GiveUp m) = worded (codes "give_up") m
event_text (Wait m) = worded (codes "wait") m
event_text (Enter m) = worded (codes "enter") m
event_text Publish = codes "publish"
event_text Retire = codes "retire"
event_text (Release g) = worded (codes "release") g
event_text (WatchLoad w) = worded (codes "watch_load") w
event_text (WatchAdd w k) = worded_twice (codes "watch_add") w k
event_text (WatchRoot w) = worded (codes "watch_root") w
event_text (WatchSub w k) = worded_twice (codes "watch_sub") w k

-- what a list may say where there are so many members and watchers: both go by numbers from 0, and so do the delay counts
abbrev pub IsAllowed : ℕ → ℕ → PrgrEvent → Type 0
IsAllowed members watchers (LoadCounter m) = m < members
IsAllowed members watchers (LoadRoot m) = m < members
IsAllowed members watchers (Report m) = m < members
IsAllowed members watchers (Lead m) = m < members
IsAllowed members watchers (Scan m k) = (m < members) × (k < members)
IsAllowed members watchers (ScanDelay m) = m < members
IsAllowed members watchers (Advance m) = m < members
IsAllowed members watchers (GiveUp m) = m < members
IsAllowed members watchers (Wait m) = m < members
IsAllowed members watchers (Enter m) = m < members
IsAllowed members watchers Publish = Unit {0}
IsAllowed members watchers Retire = Unit {0}
IsAllowed members watchers (Release g) = g < 2 ^ 64
IsAllowed members watchers (WatchLoad w) = w < watchers
IsAllowed members watchers (WatchAdd w k) = (w < watchers) × (k < DELAY_COUNTS)
IsAllowed members watchers (WatchRoot w) = w < watchers
IsAllowed members watchers (WatchSub w k) = (w < watchers) × (k < DELAY_COUNTS)

-- a line and what follows it
abbrev pub line_then : List ℕ → List ℕ → List ℕ
line_then line rest = line ++ line_feed ∷ rest

-- the lines of events, and then `go`
abbrev pub list_text : List PrgrEvent → List ℕ
list_text [] = line_then (codes "go") []
list_text (event ∷ events) = line_then (event_text event) (list_text events)

-- the whole text
abbrev pub events_text : Events → List ℕ
events_text e =
    line_then (codes "beam progress 1")
    (line_then (worded (codes "members") e.members)
    (line_then (worded (codes "watchers") e.watchers)
    (list_text e.list)))

-- the text is that of these events, which name only what there is
pub record EventText (text : List ℕ) (e : Events) : Type 0 where
  pub some_member : 1 ≤ e.members
  pub few_members : e.members ≤ MOST_MEMBERS
  pub few_watchers : e.watchers ≤ MOST_WATCHERS
  pub allowed : AllByRecursion (IsAllowed e.members e.watchers) e.list
  pub spelled : text ≡ events_text e

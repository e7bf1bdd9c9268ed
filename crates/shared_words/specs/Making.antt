-- How a table is made: its words at first, and the seats that are taken from the writer's.
use Rattle.std.specs.Prelude.{◌≡◌, ℕ, ◌+◌, ◌-◌, ◌<◌, ◌≤◌, List, [], length, slice_get, slice_index, Some, unwrap_or}
use Rattle.prgr_core.specs.declared.member.TheConstants.{WAITING, OPENING_COUNTER, OPENING_WORD, MOST_MEMBERS}
use Rattle.area_core.specs.declared.map.TheConstants.{TABLE_WORDS, SLOTS_START}
use Rattle.shared_words.specs.declared.table.TheConstants.{ROOT, OPENING_ROOT, COUNTER, LEAD, DELAYS, CONFIRMED}
use Rattle.shared_words.specs.declared.opening.Opening.{Opening}
use Rattle.shared_words.specs.declared.view.View.{View}
use Rattle.shared_words.specs.declared.view.View.TheVariants.{Writer, Member, Watcher}
use Rattle.atomic_table.specs.Seated.{TableId}
use Rattle.shared_words.specs.declared.seats.Member as tokens
use Rattle.shared_words.specs.declared.seats.Watcher as watching
use Rattle.shared_words.specs.declared.view.WriterView.{WriterView}
use Rattle.shared_words.specs.Opening.{member_begun, watcher_begun, writer_begun}
use Rattle.shared_words.specs.Processes.{AreCopied}
use Rattle.shared_words.specs.Seats.{SeatPlace, IsSeatOf}

-- ---- words

-- the words of a table of so many members as they are at first
pub record AreBegun (members : ℕ) (words : List ℕ) : Type 0 where
  pub all : length words ≡ TABLE_WORDS
  pub root : slice_index words ROOT ≡ 0
  pub counter : slice_index words COUNTER ≡ OPENING_COUNTER
  pub lead : slice_index words LEAD ≡ 0
  pub even : slice_index words DELAYS ≡ 0
  pub odd : slice_index words (DELAYS + 1) ≡ 0
  pub awake : (k : ℕ) → k < members → slice_index words (CONFIRMED + k) ≡ OPENING_WORD
  pub waiting : (k : ℕ) → members ≤ k → k < MOST_MEMBERS → slice_index words (CONFIRMED + k) ≡ WAITING
  pub behind : (place : ℕ) → SLOTS_START ≤ place → slice_index words place ≡ 0

-- the same while the words of the first members alone are stored
pub record AreBegunTo (members count : ℕ) (words : List ℕ) : Type 0 where
  pub all : length words ≡ TABLE_WORDS
  pub root : slice_index words ROOT ≡ 0
  pub counter : slice_index words COUNTER ≡ OPENING_COUNTER
  pub lead : slice_index words LEAD ≡ 0
  pub even : slice_index words DELAYS ≡ 0
  pub odd : slice_index words (DELAYS + 1) ≡ 0
  pub awake : (k : ℕ) → k < members → k < count → slice_index words (CONFIRMED + k) ≡ OPENING_WORD
  pub waiting : (k : ℕ) → members ≤ k → k < count → slice_index words (CONFIRMED + k) ≡ WAITING
  pub behind : (place : ℕ) → SLOTS_START ≤ place → slice_index words place ≡ 0

-- ---- seats

-- the view is the writer's, and not all seats of members are handed out
abbrev pub HasSeatsAtHome : Opening → View → Type 0
HasSeatsAtHome opening (Writer w) = w.handed < opening.members
HasSeatsAtHome opening v = ⊥

-- the writer has handed out one seat more
abbrev pub handed_on : View → View
handed_on (Writer w) = Writer (record w { handed = w.handed + 1 })
handed_on v = v

-- the member whose seat is the next
abbrev pub handed_out : View → View
handed_out (Writer w) = Member (unwrap_or (slice_get w.members w.handed) (member_begun 0))
handed_out v = v

-- the view is the writer's, and all seats of members are handed out, and not all of watchers
abbrev pub HasWatchersAtHome : Opening → View → Type 0
HasWatchersAtHome opening (Writer w) = (opening.members ≤ w.handed) × (w.handed < opening.members + opening.watchers)
HasWatchersAtHome opening v = ⊥

-- the watcher whose seat is the next; it has learnt of all that is published
abbrev pub watcher_handed_out : View → View
watcher_handed_out (Writer w) = Watcher (record {
  watcher = (unwrap_or (slice_get w.watchers (w.handed - length w.members)) (watcher_begun 0)).watcher;
  seen = w.published;
  blocks = [];
})
watcher_handed_out v = v

-- what the writer knows once so many seats of members and watchers are handed out
abbrev pub writer_handing : Opening → ℕ → WriterView
writer_handing opening handed = record (writer_begun opening.members opening.watchers) { handed = handed }

-- the writer's seat while seats are handed out
pub record IsHanding (table : TableId) (opening : Opening) (handed : ℕ) (seat : SeatPlace) : Type 0 where
  pub of_table : IsSeatOf table seat
  pub view : seat.me.0 ≡ Writer (writer_handing opening handed)

-- the token of a member as it begins
pub record IsMemberBegun (table : TableId) (number : ℕ) (token : tokens.Member) : Type 0 where
  pub of_table : IsSeatOf table token.seat
  pub view : token.seat.me.0 ≡ Member (member_begun number)
  pub number_is : token.number ≡ number
  pub root_is : token.root ≡ OPENING_ROOT
  pub copied : AreCopied token.anchors.items (member_begun number)

-- the tokens of the first members, in the order of their numbers
pub record AreMembersBegun (table : TableId) (count : ℕ) (members : List tokens.Member) : Type 0 where
  pub all : length members ≡ count
  pub each : (k : ℕ) (token : tokens.Member) → slice_get members k ≡ Some token → IsMemberBegun table k token

-- the token of a watcher as it begins: it holds no delay count
pub record IsWatcherBegun (table : TableId) (number : ℕ) (token : watching.Watcher) : Type 0 where
  pub of_table : IsSeatOf table token.seat
  pub view : token.seat.me.0 ≡ Watcher (watcher_begun number)
  pub holds_is : token.holds ≡ 0

-- the tokens of the first watchers, in the order of their numbers
pub record AreWatchersBegun (table : TableId) (count : ℕ) (watchers : List watching.Watcher) : Type 0 where
  pub all : length watchers ≡ count
  pub each : (k : ℕ) (token : watching.Watcher) → slice_get watchers k ≡ Some token → IsWatcherBegun table k token

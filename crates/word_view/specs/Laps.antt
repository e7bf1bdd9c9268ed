-- What stays known of a member's processes over the calls that it makes between and behind their turns.
-- Source: Erlang/OTP erts internal documentation, ThreadProgress: a thread reports between what it does.
use Rattle.std.specs.Prelude.{◌≡◌, ◌≢◌, ℕ, ◌%◌, ◌<◌, List, length, slice_get, Some}
use Rattle.term_core.specs.declared.atom.Mfa.{Mfa}
use Rattle.area_core.specs.declared.map.TheConstants.{PROCESSES}
use Rattle.shared_words.specs.declared.opening.Opening.{Opening}
use Rattle.shared_words.specs.declared.seats.Member as tokens
use Rattle.shared_words.specs.declared.view.MemberView.{MemberView}
use Rattle.shared_words.specs.Kinds.{now_entering, now_waiting}
use Rattle.shared_words.specs.Processes.{AreAtRest, AreCopied, held_by_view, note_in}
use Rattle.shared_words.specs.Slots.{with_slot}
use Rattle.progress_words.specs.Reports.{IsAwake, HoldsReported}
use Rattle.anchors.specs.Drops.{AnchorsStored}
use Rattle.anchors.specs.Holds.{anchors_of, view_of}
use Rattle.machine_core.specs.declared.process.Process.{Process}
use Rattle.machine_core.specs.Process.{process_of}
use Rattle.machine_core.specs.Turn.{MayTurn}
use Rattle.code_law.specs.Served.{IsServed}
use Rattle.word_view.specs.Views.{HasGoneOn, IsReader, IsView, MayBegin, Viewed, held_of_view, shown_by, shown_of_view}

-- ---- a report

-- each anchor is 0
abbrev pub NamesNothing : List ℕ → Type 0
NamesNothing anchors = (place word : ℕ) → slice_get anchors place ≡ Some word → word ≡ 0

-- the process is the member's, and names nothing; its note came, and the member has learnt of the generation that it tells
pub record HasComeTo (opening : Opening) (process published : ℕ) (m : MemberView) : Type 0 where
  pub below : process < PROCESSES
  pub own : process % opening.members ≡ m.member.number
  pub noted : note_in m.notes process ≡ Some published
  pub learnt : published < length m.seen
  pub empty : NamesNothing (anchors_of m process)

-- a process that came may begin its first turn once its member has reported
abbrev pub NewcomersBegin : Type 0
NewcomersBegin =
    (names : List Mfa) (opening : Opening) (process published : ℕ) (old new : MemberView) (generation : ℕ) → HasComeTo opening process published old → IsAwake new
    → HoldsReported (IsServed names) old new generation → MayBegin names opening process new

-- a report behind a wait is one behind what the member knew when it began to wait
abbrev pub WakesAreReports : Type 0
WakesAreReports =
    (names : List Mfa) (m new : MemberView) (generation : ℕ) → HoldsReported (IsServed names) (now_entering (now_waiting m)) new generation → HoldsReported (IsServed names) m new generation

-- what a process stands for does not change by a report
abbrev pub ReportsLeaveProcesses : Type 0
ReportsLeaveProcesses =
    (v : Viewed) (b : tokens.Member) (generation : ℕ) (process : Process) → IsView v
    → HoldsReported (IsServed v.names) (view_of v.token) (view_of b) generation → MayTurn (shown_of_view v) (held_of_view v) process
    → process_of (shown_of_view v).words process ≡ process_of (shown_by v.names (held_by_view (view_of b))).words process

-- ---- stores

-- a turn of one process leaves another one that may begin its turn
abbrev pub BeginningsStay : Type 0
BeginningsStay =
    (v w : Viewed) (other : ℕ) → HasGoneOn v w → other ≢ v.process → MayBegin v.names v.opening other (view_of v.token) → MayBegin w.names w.opening other (view_of w.token)

-- anchors that are stored for one process leave what is known of another one
abbrev pub AnchorsLeaveOthers : Type 0
AnchorsLeaveOthers =
    (names : List Mfa) (opening : Opening) (process other : ℕ) (old new : MemberView) → AnchorsStored process old new → other ≢ process
    → (MayBegin names opening other old → MayBegin names opening other new) × (IsReader names opening other old → IsReader names opening other new)

-- the end of a turn leaves what is known of each process
abbrev pub MarksLeaveReaders : Type 0
MarksLeaveReaders =
    (names : List Mfa) (opening : Opening) (process other turns : ℕ) (m : MemberView)
    → (MayBegin names opening other m → MayBegin names opening other (with_slot process 0 turns m))
    × (IsReader names opening other m → IsReader names opening other (with_slot process 0 turns m))

-- ---- steps that leave slots

-- where no slot was stored the copy of the anchors is right still
abbrev pub CopiesStay : Type 0
CopiesStay = (anchors : List ℕ) (old new : MemberView) → new.slots ≡ old.slots → AreCopied anchors old → AreCopied anchors new

-- and each process is at rest still
abbrev pub RestsStay : Type 0
RestsStay = (old new : MemberView) → new.slots ≡ old.slots → AreAtRest old → AreAtRest new

-- What a turn leaves of a process and of what its member knows.
-- Source: Erlang/OTP erts internal documentation, CodeLoading: a turn sees one state of the code.
use Rattle.std.specs.Prelude.{◌≡◌, ◌≢◌, ℕ, ◌+◌, ◌≤◌, ◌⊎◌, List, [], ◌∷◌, ◌++◌, length, Option, Some, None, IsSome}
use Rattle.atomic_table.specs.Seated.{TableId}
use Rattle.term_core.specs.declared.atom.Mfa.{Mfa}
use Rattle.shared_words.specs.declared.opening.Opening.{Opening}
use Rattle.shared_words.specs.declared.seats.Member as tokens
use Rattle.shared_words.specs.declared.view.MemberView.{MemberView}
use Rattle.shared_words.specs.Processes.{held_by_view, process_of}
use Rattle.shared_words.specs.Slots.{with_slot}
use Rattle.anchors.specs.Holds.{anchors_of, view_of}
use Rattle.anchors.specs.Turns.{LAST_TURN}
use Rattle.machine_core.specs.declared.process.End.{End}
use Rattle.machine_core.specs.declared.process.Line.{Line}
use Rattle.machine_core.specs.declared.process.Process.{Process}
use Rattle.machine_core.specs.declared.process.TurnEnd.{TurnEnd}
use Rattle.machine_core.specs.declared.process.TurnEnd.TheVariants.{Again, Ended}
use Rattle.machine_core.specs.GenerationReads.{reads_in}
use Rattle.machine_core.specs.Process.{names_of}
use Rattle.machine_core.specs.Reads.{Reads}
use Rattle.machine_core.specs.Turn.{ArePlaced, MayTurn}
use Rattle.run_log.specs.declared.logs.Span.{Span}
use Rattle.run_steps.specs.MadeTurns.{turned_by}
use Rattle.word_view.specs.Anchored.{holds_by}
use Rattle.word_view.specs.Turned.{IsTurn}
use Rattle.word_view.specs.Views.{HasGoneOn, IsView, MayBegin, shown_by}
use Rattle.word_lap.specs.declared.process_run.ProcessRun.{ProcessRun}
use Rattle.word_lap.specs.Laps.{HasEndedIn, MayEndBy}
use Rattle.word_lap.specs.Reading.{stand_under}
use Rattle.word_lap.specs.Schedulers.{HasCounted, HasEnded, MayGoOn}

-- the end of a process whose turn ended so, if it is one
abbrev pub fin_after : TurnEnd → Option End
fin_after Again = None
fin_after (Ended end) = Some end

-- what a turn reads of the generation that the member holds
abbrev pub reads_held : List Mfa → MemberView → Reads
reads_held functions m = reads_in functions (held_by_view m).state

-- a process that goes on may have a turn under the generation that the member holds
pub record IsReady (functions : List Mfa) (opening : Opening) (m : MemberView) (run : ProcessRun) : Type 0 where
  pub going : run.fin ≡ None
  pub begins : MayBegin functions opening run.process.number m
  pub turn : MayTurn (shown_by functions (held_by_view m)) (holds_by (anchors_of m run.process.number)) run.process
  pub counted : run.process.turns ≡ length (process_of m run.process.number).marks
  pub spans : HasCounted run

-- ---- the end of a turn

-- a turn may have ended so
abbrev pub MayEndWith : ℕ → MemberView → TurnEnd → Type 0
MayEndWith process m Again = Unit {0}
MayEndWith process m (Ended fin) = MayEndBy process m fin

-- where the process goes on nothing is changed; else it names nothing any more
abbrev pub HasEndedWith : ℕ → TurnEnd → MemberView → MemberView → Type 0
HasEndedWith process Again old new = new ≡ old
HasEndedWith process (Ended fin) old new = HasEndedIn process fin old new

-- so many turns are one more than there are marks; or they are as many as can be told, and the process has ended
abbrev pub CountsOn : ℕ → ℕ → TurnEnd → Type 0
CountsOn turns marks end = (turns ≡ marks + 1) ⊎ ((turns ≡ LAST_TURN) × ((LAST_TURN ≤ marks) × IsSome (fin_after end)))

-- the turn has ended so, and its mark has joined
pub record HasMarkedEnd (process turns : ℕ) (end : TurnEnd) (old new : MemberView) : Type 0 where
  pub ended : MemberView
  pub ends : HasEndedWith process end old ended
  pub marked : new ≡ with_slot process 0 turns ended

-- a process had a turn under the generation that the member held, which made these lines, and the mark of it has joined
pub record MadeTurn (functions : List Mfa) (opening : Opening) (table : TableId) (old new : tokens.Member) (before after : Process) (lines made : List Line) (end : TurnEnd) : Type 0 where
  pub mid : tokens.Member
  pub viewed : IsView (record { table = table; opening = opening; token = mid; names = functions; process = before.number })
  pub gone : HasGoneOn
      (record { table = table; opening = opening; token = old; names = functions; process = before.number })
      (record { table = table; opening = opening; token = mid; names = functions; process = before.number })
  pub turn : IsTurn (shown_by functions (held_by_view (view_of old))) (holds_by (anchors_of (view_of mid) before.number)) before after lines made end
  pub marked : HasMarkedEnd before.number after.turns end (view_of mid) (view_of new)

-- so it is, and the span has one turn more and stands behind the others
pub record JoinsTurn (functions : List Mfa) (opening : Opening) (table : TableId) (old new : tokens.Member) (span : Span) (before after : ProcessRun) : Type 0 where
  pub process : Process
  pub lines : List Line
  pub end : TurnEnd
  pub made : MadeTurn functions opening table old new before.process process span.lines lines end
  pub joins : after
      ≡ record { process = process; spans = before.spans ++ record { generation = span.generation; turns = span.turns + 1; lines = lines } ∷ []; fin = fin_after end }

-- ---- the turn

-- slots of one process and words that were found are all that is new in the view
pub record ChangesOne (process : ℕ) (old new : MemberView) : Type 0 where
  pub same : new ≡ record old { slots = new.slots; blocks = new.blocks }
  pub others : (other : ℕ) → other ≢ process → process_of new other ≡ process_of old other

-- a process had a turn under the generation that the member holds: its span has it, and its slot has the mark of it
pub record HadItsTurn (functions : List Mfa) (opening : Opening) (old new : MemberView) (before after : ProcessRun) : Type 0 where
  pub number : after.process.number ≡ before.process.number
  pub placed : ArePlaced (reads_held functions old) (stand_under old before).process.frames
  pub turn : stand_under new after ≡ turned_by (reads_held functions old) old.member.generation (stand_under old before)
  pub view : ChangesOne before.process.number old new
  pub marks : (process_of new before.process.number).marks
      ≡ record { generation = old.member.generation; anchors = anchors_of new before.process.number } ∷ (process_of old before.process.number).marks
  pub names_it : holds_by (anchors_of new before.process.number) ≡ names_of (stand_under new after).process
  pub again : after.fin ≡ None → MayGoOn functions opening new before.process.number after
  pub over : IsSome after.fin → HasEnded new before.process.number after

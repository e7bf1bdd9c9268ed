-- What a scheduler knows of its processes, over what its member has learnt: nothing that another thread does changes it.
-- Source: this project's profile: each process has its place by its number, and its turns are made by the one member whose process it is.
use Rattle.std.specs.Prelude.{◌≡◌, ◌≢◌, ℕ, ◌<◌, ◌≤◌, ◌%◌, ◌↔◌, List, [], length, slice_get, Option, Some, None, IsSome}
use Rattle.std.specs.List.{AllByRecursion}
use Rattle.atomic_table.specs.Seated.{TableId}
use Rattle.prgr_core.specs.declared.member.Role.TheVariants.{Follows}
use Rattle.term_core.specs.declared.atom.Mfa.{Mfa}
use Rattle.term_core.specs.declared.hold.Kind.{Kind}
use Rattle.area_core.specs.declared.map.TheConstants.{PROCESSES}
use Rattle.area_core.specs.Blocks.{Among}
use Rattle.area_core.specs.Generations.{anchor_names_area}
use Rattle.marks.specs.Names.{HasAnchor, tells_kill}
use Rattle.shared_words.specs.declared.opening.Opening.{Opening}
use Rattle.shared_words.specs.declared.seats.Member as tokens
use Rattle.shared_words.specs.declared.view.MemberView.{MemberView}
use Rattle.shared_words.specs.Processes.{AreAtRest, AreCopied, held_by_view, note_in, process_of}
use Rattle.shared_words.specs.Seats.{IsMemberSeat, IsRooted}
use Rattle.progress_words.specs.Reports.{IsAwake}
use Rattle.anchors.specs.Holds.{HoldsAnchors, anchors_of, view_of}
use Rattle.machine_core.specs.declared.process.End.TheVariants.{Killed}
use Rattle.machine_core.specs.declared.process.TheConstants.{MOST_TURNS}
use Rattle.machine_core.specs.Turn.{MayTurn}
use Rattle.run_log.specs.declared.logs.Span.{Span}
use Rattle.run_steps.specs.Stands.{Stand, going_stand}
use Rattle.word_view.specs.Anchored.{holds_by}
use Rattle.word_view.specs.Laps.{NamesNothing}
use Rattle.word_view.specs.Views.{MayBegin, StandsIn, shown_by}
use Rattle.run_law.specs.Ended.{HasTurned}
use Rattle.run_law.specs.Newcomers.{SpawnedProcess}
use Rattle.word_lap.specs.declared.process_run.ProcessRun.{ProcessRun}
use Rattle.word_lap.specs.Reading.{stand_under}

-- ---- one process

-- the process before its first turn
abbrev pub first_stand : ProcessRun → Stand
first_stand run = going_stand run.process.number run.process.target run.process.args

-- its turns are as many as can be told at most, and none of its spans has more
pub record HasCounted (run : ProcessRun) : Type 0 where
  pub bound : run.process.turns ≤ MOST_TURNS
  pub each : AllByRecursion (λ (span : Span). span.turns ≤ run.process.turns) run.spans

-- a turn of it may begin under the generation that the member holds, in which each area stands that its slot names
pub record IsAtHand (functions : List Mfa) (opening : Opening) (p : ℕ) (m : MemberView) : Type 0 where
  pub begins : MayBegin functions opening p m
  pub named : (serial : ℕ) → HasAnchor anchor_names_area (anchors_of m p) serial → StandsIn (held_by_view m) serial

-- what it names is what its slot names, and it may have its next turn under the generation that the member holds
pub record MayGoOn (functions : List Mfa) (opening : Opening) (m : MemberView) (p : ℕ) (run : ProcessRun) : Type 0 where
  pub knows : IsAtHand functions opening p m
  pub turn : MayTurn (shown_by functions (held_by_view m)) (holds_by (anchors_of m p)) run.process
  pub counted : run.process.turns ≡ length (process_of m p).marks
  pub spans : HasCounted run

-- it has ended: it has no frames, its slot names nothing, and tells that an instance killed it exactly where one did; no instance has serial 0
pub record HasEnded (m : MemberView) (p : ℕ) (run : ProcessRun) : Type 0 where
  pub over : IsSome run.fin
  pub left : run.process.frames ≡ []
  pub empty : (kind : Kind) (serial : ℕ) → HoldsAnchors kind (anchors_of m p) serial → ⊥
  pub killed : (serial : ℕ) → 0 < serial → HasAnchor tells_kill (anchors_of m p) serial ↔ (run.fin ≡ Some (Killed serial))

-- where it stands between two turns: it may go on, or it has ended
pub data Rests (functions : List Mfa) (opening : Opening) (m : MemberView) (p : ℕ) (run : ProcessRun) : Type 0 where
  rests_going : run.fin ≡ None → MayGoOn functions opening m p run → Rests functions opening m p run
  rests_ended : HasEnded m p run → Rests functions opening m p run

-- what is known of the process at a place, which was spawned so
pub record IsHeld (functions : List Mfa) (opening : Opening) (m : MemberView) (p : ℕ) (spawn : SpawnedProcess) (run : ProcessRun) : Type 0 where
  pub number : run.process.number ≡ p
  pub target : run.process.target ≡ spawn.target
  pub args : run.process.args ≡ spawn.args
  pub noted : note_in m.notes p ≡ Some spawn.published
  pub turns : HasTurned functions m p (first_stand run) (stand_under m run)
  pub rests : Rests functions opening m p run

-- no process stands at the place: its slot names nothing, it has had no turn, and no note came
pub record IsEmpty (m : MemberView) (p : ℕ) : Type 0 where
  pub marks : (process_of m p).marks ≡ []
  pub empty : NamesNothing (anchors_of m p)
  pub note : note_in m.notes p ≡ None

-- ---- a scheduler

-- what was taken and belongs here stands at its place: the first that came for it
abbrev pub IsHeldAt : List Mfa → Opening → MemberView → List SpawnedProcess → ℕ → Option ProcessRun → Type 0
IsHeldAt functions opening m taken p None = IsEmpty m p × ((spawn : SpawnedProcess) → Among taken spawn → spawn.number ≡ p → p % opening.members ≢ m.member.number)
IsHeldAt functions opening m taken p (Some run) = (spawn : SpawnedProcess) × (Among taken spawn × ((spawn.number ≡ p) × IsHeld functions opening m p spawn run))

-- the token is that of a member of this table, with a right copy of its anchors and the root of the generation that it holds
pub record IsToken (table : TableId) (token : tokens.Member) : Type 0 where
  pub seat : IsMemberSeat table token.number token.seat
  pub copied : AreCopied token.anchors.items (view_of token)
  pub rooted : IsRooted token.root (view_of token)

-- the member is awake, does not lead, and no turn of its processes is under way
pub record IsBetweenTurns (m : MemberView) : Type 0 where
  pub awake : IsAwake m
  pub follows : m.member.role ≡ Follows
  pub rest : AreAtRest m

-- what a scheduler keeps of its processes
pub record KeepsProcesses (functions : List Mfa) (opening : Opening) (m : MemberView) (taken : List SpawnedProcess) (processes : List (Option ProcessRun)) : Type 0 where
  pub all : length processes ≡ PROCESSES
  pub each : (p : ℕ) (place : Option ProcessRun) → slice_get processes p ≡ Some place → IsHeldAt functions opening m taken p place

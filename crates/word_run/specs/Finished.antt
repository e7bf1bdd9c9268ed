-- The end of a run: what its schedulers give back, by number, and the logs of the processes.
-- Source: this project's profile.
use Rattle.std.specs.Prelude.{◌≡◌, ℕ, ◌%◌, List, [], ◌∷◌, ◌++◌, length, slice_get, Option, Some, Vec}
use Rattle.std.specs.declared.alloc.Global.{Global}
use Rattle.term_core.specs.declared.atom.Mfa.{Mfa}
use Rattle.shared_words.specs.declared.seats.Member as tokens
use Rattle.shared_words.specs.declared.seats.Writer as writers
use Rattle.run_log.specs.declared.logs.Entry.{Entry}
use Rattle.run_log.specs.declared.logs.ProcessLog.{ProcessLog}
use Rattle.run_law.specs.Newcomers.{SpawnedProcess}
use Rattle.inbox.specs.Ends.{Posting, Taking}
use Rattle.word_permit.specs.Books.{KeepsRun}
use Rattle.word_permit.specs.Runs.{Run}
use Rattle.word_lap.specs.declared.process_run.ProcessRun.{ProcessRun}
use Rattle.word_lap.specs.Laws.{log_of_run}
use Rattle.word_run.specs.declared.seat.Seat.{Seat}
use Rattle.word_run.specs.Desks.{DeskState, IsDesk}

-- the process that stood at a place, and its log
pub record IsLogOfRun (place : Option (Option ProcessRun)) (log : ProcessLog) : Type 0 where
  pub run : ProcessRun
  pub stands : place ≡ Some (Some run)
  pub is : log ≡ log_of_run run

-- the process of this number stands at the place of its number in its home, and this is its log
pub record IsLogged (places : List (Vec (Option ProcessRun) Global)) (number : ℕ) (log : ProcessLog) : Type 0 where
  pub home : Vec (Option ProcessRun) Global
  pub homed : slice_get places (number % length places) ≡ Some home
  pub run : ProcessRun
  pub stands : slice_get home.items number ≡ Some (Some run)
  pub is : log ≡ log_of_run run

-- the first so many processes have these logs
pub record AreLogged (places : List (Vec (Option ProcessRun) Global)) (count : ℕ) (logs : List ProcessLog) : Type 0 where
  pub many : length logs ≡ count
  pub each : (number : ℕ) (log : ProcessLog) → slice_get logs number ≡ Some log → IsLogged places number log

-- what a scheduler gives back
pub record HasParts {T I : Type 0} (seat : Seat T I) (member : Option tokens.Member) (taker : Option (Taking SpawnedProcess)) (place : Option (Vec (Option ProcessRun) Global)) : Type 0 where
  pub member_is : member ≡ seat.scheduler.member
  pub taker_is : taker ≡ Some seat.scheduler.taker
  pub place_is : place ≡ Some seat.scheduler.processes

-- so it is with each, and there is no other
pub record AreParted {T I : Type 0} (seats : List (Seat T I)) (members : List tokens.Member) (takers : List (Taking SpawnedProcess)) (places : List (Vec (Option ProcessRun) Global)) : Type 0 where
  pub members_are : length members ≡ length seats
  pub takers_are : length takers ≡ length seats
  pub places_are : length places ≡ length seats
  pub each : (k : ℕ) (seat : Seat T I) → slice_get seats k ≡ Some seat → HasParts seat (slice_get members k) (slice_get takers k) (slice_get places k)

-- all that was posted was taken
abbrev pub AreSettled : List (Posting SpawnedProcess) → List (Taking SpawnedProcess) → Type 0
AreSettled ends takers = (k : ℕ) (end : Posting SpawnedProcess) (taker : Taking SpawnedProcess) → slice_get ends k ≡ Some end → slice_get takers k ≡ Some taker → end.put ≡ taker.taken

-- what one more scheduler gives back joined what those before it gave
pub record AddsParts {T I : Type 0} (seat : Seat T I) (members members_after : List tokens.Member) (takers takers_after : List (Taking SpawnedProcess)) (places places_after : List (Vec (Option ProcessRun) Global)) : Type 0 where
  pub member : tokens.Member
  pub there : seat.scheduler.member ≡ Some member
  pub member_joins : members_after ≡ members ++ member ∷ []
  pub taker_joins : takers_after ≡ takers ++ seat.scheduler.taker ∷ []
  pub place_joins : places_after ≡ places ++ seat.scheduler.processes ∷ []

-- what a desk and its schedulers have once the ends of all inboxes came together, and what the desk kept
pub record HasGathered {T I : Type 0} (names : List Mfa) (run : Option Run) (d : DeskState) (seats : List (Seat T I)) (journal : List Entry) (writer : writers.Writer) (members : List tokens.Member) (places : List (Vec (Option ProcessRun) Global)) : Type 0 where
  pub journal_is : journal ≡ d.book.plain.journal
  pub writer_is : writer ≡ d.book.tables.writer
  pub kept : KeepsRun names run d.book
  pub desk : IsDesk d
  pub takers : List (Taking SpawnedProcess)
  pub parted : AreParted seats members takers places
  pub settled : AreSettled d.posted takers

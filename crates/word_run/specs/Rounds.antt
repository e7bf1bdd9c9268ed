-- What a run has between two of its rounds.
-- Source: this project's profile.
use Rattle.std.specs.Prelude.{◌≡◌, ◌↔◌, ℕ, ◌<◌, Bool, true, List, [], length, slice_get, Option, Some, None, Ok, IfOk}
use mathlib.Core.List.{IsPrefix}
use Rattle.atomic_table.specs.Seated.{TableId}
use Rattle.term_core.specs.declared.atom.Mfa.{Mfa}
use Rattle.shared_words.specs.declared.opening.Opening.{Opening}
use Rattle.script_core.specs.declared.script.Script.{Script}
use Rattle.write_permit.specs.Permit.{next_of}
use Rattle.write_permit.specs.Book.{shown}
use Rattle.word_lap.specs.declared.process_run.ProcessRun.{ProcessRun}
use Rattle.word_run.specs.declared.scheduler.Scheduler.{Scheduler}
use Rattle.word_run.specs.declared.scheduler.Slice.TheVariants.{Idle}
use Rattle.word_run.specs.declared.scheduler.TheConstants.{SLICE_LAPS}
use Rattle.word_run.specs.declared.seat.Seat.{Seat}
use Rattle.word_run.specs.declared.sight.Sight.{Sight}
use Rattle.word_run.specs.Desks.{DeskState}
use Rattle.word_run.specs.Loaders.{AreInboxes, TellsOfLoaders}
use Rattle.word_run.specs.Schedulers.{Keeps}
use Rattle.word_run.specs.SliceTurns.{HadItsLaps}

-- a place without a process that goes on
abbrev pub RestsAt : Option ProcessRun → Type 0
RestsAt None = Unit {0}
RestsAt (Some run) = run.fin ≡ None → ⊥

-- no process goes on
abbrev pub NoneGoOn : List (Option ProcessRun) → Type 0
NoneGoOn processes = (p : ℕ) (place : Option ProcessRun) → slice_get processes p ≡ Some place → RestsAt place

-- all commands are done, and no area waits for its release
pub record IsDone (d : DeskState) : Type 0 where
  pub commands : (who : ℕ) → next_of (shown d.book.plain) who ≡ None
  pub retired : d.book.plain.server.retired ≡ []

module _ {T : Type 0} {I : Type 0} where
  -- of all that a scheduler was told that it was posted to it, it has taken each
  abbrev pub HasTakenTold : Scheduler T I → Type 0
  HasTakenTold s = IsPrefix s.taker.told s.taker.taken

  -- a scheduler keeps what it was answered in its last lap: by the desk, of each of its loaders; and by its inbox, which answered that it is empty, and by
  -- that answer all that the scheduler was told of is taken
  pub record HasAnswers (answered : ℕ → Bool → Type 0) (count loaders : ℕ) (s : Scheduler T I) : Type 0 where
    pub over : TellsOfLoaders answered s.number count loaders s.over
    pub emptied : s.emptied ≡ true
    pub taken : s.emptied ≡ true → HasTakenTold s

  -- a call leaves these answers, and the inbox
  pub record StaysAnswered (old new : Scheduler T I) : Type 0 where
    pub number : new.number ≡ old.number
    pub over : new.over ≡ old.over
    pub emptied : new.emptied ≡ old.emptied
    pub taker : new.taker ≡ old.taker

  -- in its last lap no loader had a next command and the inbox answered that it is empty, and no process goes on
  pub record IsIdle (s : Scheduler T I) : Type 0 where
    pub over : s.over ≡ true
    pub emptied : s.emptied ≡ true
    pub rest : NoneGoOn s.processes.items

  -- a scheduler may have a slice: it is one of so many, and keeps what it knows of its processes
  pub record CanGo (functions : List Mfa) (table : TableId) (opening : Opening) (count : ℕ) (seat : Seat T I) : Type 0 where
    pub below : seat.scheduler.number < count
    pub kept : Keeps functions table opening seat.scheduler

  -- a scheduler had a slice: it was told of nothing meanwhile, it keeps what it knows of its processes, each of them had its turns, it has taken all that it was
  -- told of before, and the answer tells whether it is idle
  pub record HadSlice (functions : List Mfa) (table : TableId) (opening : Opening) (before after : Seat T I) : Type 0 where
    pub number : after.scheduler.number ≡ before.scheduler.number
    pub told : after.scheduler.taker.told ≡ before.scheduler.taker.told
    pub kept : IfOk after.answer (λ _. Keeps functions table opening after.scheduler)
    pub turns : IfOk after.answer (λ _. HadItsLaps functions SLICE_LAPS before.scheduler after.scheduler)
    pub taken : IfOk after.answer (λ _. HasTakenTold after.scheduler)
    pub idle : IfOk after.answer (λ slice. (slice ≡ Idle) ↔ IsIdle after.scheduler)

  -- each scheduler has the end that takes of the inbox of its number
  abbrev pub HaveTakers : List (Seat T I) → Type 0
  HaveTakers seats = (k : ℕ) (seat : Seat T I) → slice_get seats k ≡ Some seat → seat.scheduler.taker.number ≡ k

  -- each scheduler has its number, and keeps what it knows of its processes
  abbrev pub AreKept : List Mfa → TableId → Opening → List (Seat T I) → Type 0
  AreKept functions table opening seats = (k : ℕ) (seat : Seat T I) → slice_get seats k ≡ Some seat → (seat.scheduler.number ≡ k) × Keeps functions table opening seat.scheduler

  -- no scheduler had anything left to do
  abbrev pub AreIdle : List (Seat T I) → Type 0
  AreIdle seats = (k : ℕ) (seat : Seat T I) → slice_get seats k ≡ Some seat → seat.answer ≡ Ok Idle

  -- no scheduler has a process that goes on
  abbrev pub AreAllIdle : List (Seat T I) → Type 0
  AreAllIdle seats = (k : ℕ) (seat : Seat T I) → slice_get seats k ≡ Some seat → NoneGoOn seat.scheduler.processes.items

  -- a run of the script between two of its rounds, over these words: as many inboxes, ends and schedulers as there are members, each of its number, and
  -- each scheduler keeps what it knows of its processes
  pub record IsRun (functions : List Mfa) (s : Script) (table : TableId) (opening : Opening) (d : DeskState) (inboxes : List ℕ) (seats : List (Seat T I)) (sight : Sight) : Type 0 where
    pub some : 0 < length seats
    pub members : opening.members ≡ length seats
    pub inboxes_are : AreInboxes inboxes
    pub many : length inboxes ≡ length seats
    pub homes : length d.posted ≡ length seats
    pub exports : sight.exports ≡ functions
    pub script_is : d.book.plain.script ≡ s
    pub kept : AreKept functions table opening seats

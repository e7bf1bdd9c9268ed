-- How a run begins.
-- Source: this project's profile.
use Rattle.std.specs.Prelude.{◌≡◌, ℕ, false, List, [], ◌∷◌, ◌++◌, length, slice_get, Option, Some, IsSomeAnd, Ok}
use Rattle.term_core.specs.declared.atom.Mfa.{Mfa}
use Rattle.shared_words.specs.declared.seats.Member as tokens
use Rattle.shared_words.specs.declared.seats.Writer as writers
use Rattle.progress_words.specs.Tokens.{IsWriterOf, written_by}
use Rattle.code_index.specs.Staging.{IsAtFirst}
use Rattle.script_core.specs.declared.script.Script.{Script}
use Rattle.word_permit.specs.Runs.{Run}
use Rattle.export_table.specs.Exports.{exports_with}
use Rattle.inbox.specs.Ends.{Posting}
use Rattle.run_law.specs.Newcomers.{SpawnedProcess}
use Rattle.word_lap.specs.Laws.{AreAllFree}
use Rattle.word_run.specs.declared.scheduler.Slice.TheVariants.{Again}
use Rattle.word_run.specs.declared.seat.Seat.{Seat}

-- these names, once others were added in order: one that stands there already keeps its number
abbrev pub exports_after : List Mfa → List Mfa → List Mfa
exports_after names [] = names
exports_after names (to ∷ more) = exports_after (exports_with names to) more

-- the writer has published the empty generation alone and made no note, and the run is over its words and by this script
pub record BeginsRun (writer : writers.Writer) (script : Script) (run : Option Run) : Type 0 where
  pub first : IsAtFirst (written_by writer)
  pub notes : (written_by writer).notes ≡ []
  pub drops : (written_by writer).looks.dropped ≡ []
  pub of_run : IsSomeAnd run (λ r. IsWriterOf r.table r.opening writer × (r.script ≡ script))

-- nothing was posted to a home
abbrev pub none_posted : ℕ → Posting SpawnedProcess
none_posted home = record { number = home; put = [] }

module _ {T I : Type 0} where
  -- a scheduler without processes, whose member has made no step, at the place of its number
  pub record IsOpened (number : ℕ) (member : tokens.Member) (seat : Seat T I) : Type 0 where
    pub number_is : seat.scheduler.number ≡ number
    pub member_is : seat.scheduler.member ≡ Some member
    pub awake : seat.scheduler.waits ≡ false
    pub taker_is : seat.scheduler.taker ≡ record { number = number; taken = []; told = [] }
    pub free : AreAllFree seat.scheduler.processes.items
    pub generation : seat.scheduler.generation ≡ 0
    pub answer : seat.answer ≡ Ok Again

  -- an inbox, an end that posts and a scheduler for each of these members, by number
  pub record AreOpened (members : List tokens.Member) (inboxes : List ℕ) (ends : List (Posting SpawnedProcess)) (seats : List (Seat T I)) : Type 0 where
    pub seats_are : length seats ≡ length members
    pub inboxes_are : length inboxes ≡ length members
    pub ends_are : length ends ≡ length members
    pub inbox : (k number : ℕ) → slice_get inboxes k ≡ Some number → number ≡ k
    pub end : (k : ℕ) (end : Posting SpawnedProcess) → slice_get ends k ≡ Some end → end ≡ none_posted k
    pub seat : (k : ℕ) (member : tokens.Member) (seat : Seat T I) → slice_get members k ≡ Some member → slice_get seats k ≡ Some seat → IsOpened k member seat

  -- the scheduler of one more member joined those that there are, with its inbox and the end that posts to it
  pub record AddsSeat (member : tokens.Member) (inboxes inboxes_after : List ℕ) (ends ends_after : List (Posting SpawnedProcess)) (seats seats_after : List (Seat T I)) : Type 0 where
    pub seat : Seat T I
    pub opened : IsOpened (length seats) member seat
    pub inbox_joins : inboxes_after ≡ inboxes ++ length seats ∷ []
    pub end_joins : ends_after ≡ ends ++ none_posted (length seats) ∷ []
    pub seat_joins : seats_after ≡ seats ++ seat ∷ []

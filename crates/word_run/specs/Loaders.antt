-- What a loader's step asks for and leaves.
-- Source: this project's profile.
use Rattle.std.specs.Prelude.{◌≡◌, ◌↔◌, ℕ, ◌%◌, ◌<◌, Bool, true, false, List, length, slice_get, slice_set, Option, Some, None, IsSomeAnd, option_map, unwrap_or}
use Rattle.inbox.specs.Ends.{Posting, Taking, posted}
use Rattle.script_core.specs.declared.script.ScriptCmd.{ScriptCmd}
use Rattle.run_law.specs.Newcomers.{SpawnedProcess}
use Rattle.write_permit.specs.Book.{shown}
use Rattle.write_permit.specs.Permit.{needs_permission, next_of}
use Rattle.word_run.specs.declared.slice_step.SliceStep.{SliceStep}
use Rattle.word_run.specs.declared.slice_step.SliceStep.TheVariants.{Over, AtOnce, Operates}
use Rattle.word_run.specs.Desks.{DeskState, IsSliceOf}

-- each inbox has the number of its place
abbrev pub AreInboxes : List ℕ → Type 0
AreInboxes inboxes = (home number : ℕ) → slice_get inboxes home ≡ Some number → number ≡ home

-- and so has each end that posts
abbrev pub AreEnds : List (Posting SpawnedProcess) → Type 0
AreEnds ends = (home : ℕ) (end : Posting SpawnedProcess) → slice_get ends home ≡ Some end → end.number ≡ home

-- and each end that takes
abbrev pub AreTakers : List (Taking SpawnedProcess) → Type 0
AreTakers takers = (home : ℕ) (taker : Taking SpawnedProcess) → slice_get takers home ≡ Some taker → taker.number ≡ home

-- what a loader does in a lap, by its next command: one that needs no permission is made at once
abbrev pub IsStepFor : Option ScriptCmd → SliceStep → Type 0
IsStepFor next Over = next ≡ None
IsStepFor next AtOnce = IsSomeAnd next (λ command. needs_permission command ≡ false)
IsStepFor next Operates = IsSomeAnd next (λ command. needs_permission command ≡ true)

-- on this desk, this is whether a loader has no next command
abbrev pub TellsOn : DeskState → ℕ → Bool → Type 0
TellsOn desk who over = (over ≡ true) ↔ (next_of (shown desk.book.plain) who ≡ None)

-- on some desk since the round began, this was whether a loader had no next command
pub record TellsOfLoader (began : Option DeskState) (who : ℕ) (over : Bool) : Type 0 where
  pub desk : DeskState
  pub since : IsSliceOf began desk
  pub tells : TellsOn desk who over

-- what a desk since the round began tells of a loader is an answer of the round. What these answers are a slice does not know: it has one only from what lies
-- under the lock
abbrev pub AreAnswers : Option DeskState → (ℕ → Bool → Type 0) → Type 0
AreAnswers began answered = (desk : DeskState) (who : ℕ) (over : Bool) → IsSliceOf began desk → TellsOn desk who over → answered who over

-- what lies under the lock is a desk since the round began, and what it tells are answers of the round
pub record IsUnderLock (began : Option DeskState) (answered : ℕ → Bool → Type 0) (desk : DeskState) : Type 0 where
  pub since : IsSliceOf began desk
  pub answers : AreAnswers began answered

-- a loader is one of the script's, and of the scheduler of this number among so many
pub record IsLoaderOf (number count loaders who : ℕ) : Type 0 where
  pub below : who < loaders
  pub own : who % count ≡ number

-- a loader of this scheduler answered that it had a next command
pub record HasCommands (answered : ℕ → Bool → Type 0) (number count loaders : ℕ) : Type 0 where
  pub who : ℕ
  pub own : IsLoaderOf number count loaders who
  pub answers : answered who false

-- the loaders of this scheduler were asked, and this is whether none of them answered that it had a next command
pub record TellsOfLoaders (answered : ℕ → Bool → Type 0) (number count loaders : ℕ) (over : Bool) : Type 0 where
  pub none : over ≡ true → (who : ℕ) → IsLoaderOf number count loaders who → answered who true
  pub some : over ≡ false → HasCommands answered number count loaders

-- the process is posted to the home of its number, and nothing else is
abbrev pub posted_home : List (Posting SpawnedProcess) → SpawnedProcess → List (Posting SpawnedProcess)
posted_home ends spawn = unwrap_or (option_map (λ end. slice_set ends (spawn.number % length ends) (posted end spawn)) (slice_get ends (spawn.number % length ends))) ends

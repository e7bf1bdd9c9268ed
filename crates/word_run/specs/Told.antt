-- What the schedulers of a run are told of between two rounds: what was posted to them so far. And what they have taken behind the next round.
-- Source: this project's profile. The thread that runs the rounds has both ends of each inbox then, and no other thread has one.
use Rattle.std.specs.Prelude.{◌≡◌, ℕ, List, length, slice_get, Some}
use mathlib.Core.List.{IsPrefix}
use Rattle.inbox.specs.Ends.{Posting, heard}
use Rattle.run_law.specs.Newcomers.{SpawnedProcess}
use Rattle.word_run.specs.declared.seat.Seat.{Seat}
use Rattle.word_run.specs.Rounds.{HasTakenTold}

module _ {T I : Type 0} where
  -- a scheduler once it was told that all this was posted to it: nothing else of it has changed
  abbrev pub heard_seat : Seat T I → List SpawnedProcess → Seat T I
  heard_seat seat put = record seat { scheduler = record seat.scheduler { taker = heard seat.scheduler.taker put } }

  -- each scheduler was told of just what was posted to its home, and nothing else of it has changed
  pub record HaveHeard (posted : List (Posting SpawnedProcess)) (before after : List (Seat T I)) : Type 0 where
    pub many : length after ≡ length before
    pub each : (k : ℕ) (end : Posting SpawnedProcess) (x y : Seat T I) → slice_get posted k ≡ Some end → slice_get before k ≡ Some x → slice_get after k ≡ Some y
        → y ≡ heard_seat x end.put

  -- a scheduler was told of nothing
  abbrev pub HearsNothing : Seat T I → Seat T I → Type 0
  HearsNothing before after = after.scheduler.taker.told ≡ before.scheduler.taker.told

  -- each scheduler was last told of just what was posted to its home
  abbrev pub KnowPosted : List (Posting SpawnedProcess) → List (Seat T I) → Type 0
  KnowPosted posted seats =
      (k : ℕ) (end : Posting SpawnedProcess) (seat : Seat T I) → slice_get posted k ≡ Some end → slice_get seats k ≡ Some seat → seat.scheduler.taker.told ≡ end.put

  -- each scheduler has taken all that it was told of
  abbrev pub HaveTakenTold : List (Seat T I) → Type 0
  HaveTakenTold seats = (k : ℕ) (seat : Seat T I) → slice_get seats k ≡ Some seat → HasTakenTold seat.scheduler

  -- each scheduler has taken all that was posted to its home
  abbrev pub HaveTakenPosted : List (Posting SpawnedProcess) → List (Seat T I) → Type 0
  HaveTakenPosted posted seats =
      (k : ℕ) (end : Posting SpawnedProcess) (seat : Seat T I) → slice_get posted k ≡ Some end → slice_get seats k ≡ Some seat → IsPrefix end.put seat.scheduler.taker.taken

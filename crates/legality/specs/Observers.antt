-- What a look at the snapshots of the newest generation comes to.
-- Source: this project's report text. The definitions speak of places in the list of an observer's snapshots; the code goes on in it.
use Rattle.std.specs.Prelude.{◌≡◌, ◌≢◌, ℕ, ◌<◌, ◌≤◌, Bool, true, false, List, length, slice_get, Some, IfSome}
use Rattle.server_core.specs.ServerState.{ServerState}
use Rattle.run_log.specs.declared.logs.Snapshot.{Snapshot}
use Rattle.run_log.specs.Snapshots.{AreExports}

-- a snapshot is one of the state's generation, and of its exports
pub record IsSnapshotOfSweep (names : List (List ℕ)) (s : ServerState) (shot : Snapshot) : Type 0 where
  pub generation : shot.generation ≡ s.generation
  pub exports : AreExports names s shot.exports

-- the snapshots of an observer from one place up to another are true ones of the state's generation, and the next one is of another generation
pub record SeesMore (names : List (List ℕ)) (s : ServerState) (shots : List Snapshot) (from to : ℕ) : Type 0 where
  pub low : from ≤ to
  pub within : to ≤ length shots
  pub each : (k : ℕ) (shot : Snapshot) → from ≤ k → k < to → slice_get shots k ≡ Some shot → IsSnapshotOfSweep names s shot
  pub behind : IfSome (slice_get shots to) (λ shot. shot.generation ≢ s.generation)

-- some snapshot of the state's generation is not of its exports
pub record SeesOther (names : List (List ℕ)) (s : ServerState) (shots : List Snapshot) : Type 0 where
  pub place : ℕ
  pub shot : Snapshot
  pub at : slice_get shots place ≡ Some shot
  pub generation : shot.generation ≡ s.generation
  pub other : AreExports names s shot.exports → ⊥

-- how the snapshots of an observer were judged
abbrev pub SeesSo : List (List ℕ) → ServerState → List Snapshot → ℕ → ℕ → Bool → Type 0
SeesSo names s shots from to true = SeesMore names s shots from to
SeesSo names s shots from to false = SeesOther names s shots

-- each observer sees more
pub record AllSee (names : List (List ℕ)) (s : ServerState) (observers : List (List Snapshot)) (before after : List ℕ) : Type 0 where
  pub many : length after ≡ length before
  pub each : (observer from to : ℕ) (shots : List Snapshot) → slice_get observers observer ≡ Some shots → slice_get before observer ≡ Some from → slice_get after observer ≡ Some to → SeesMore names s shots from to

-- some observer has a snapshot that is not true
pub record OneErrs (names : List (List ℕ)) (s : ServerState) (observers : List (List Snapshot)) : Type 0 where
  pub observer : ℕ
  pub shots : List Snapshot
  pub at : slice_get observers observer ≡ Some shots
  pub other : SeesOther names s shots

-- how the snapshots of a generation were judged
abbrev pub AreShotsJudged : List (List ℕ) → ServerState → List (List Snapshot) → List ℕ → List ℕ → Bool → Type 0
AreShotsJudged names s observers before after true = AllSee names s observers before after
AreShotsJudged names s observers before after false = OneErrs names s observers

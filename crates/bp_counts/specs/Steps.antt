-- What each step on the counts tells the seat that makes it. The word of a name stands one behind its number.
use Rattle.std.specs.Prelude.{◌≡◌, ℕ, ◌-◌, ◌*◌, ◌≤◌}
use Rattle.atomic_table.specs.Table.{Me, Step}
use Rattle.bp_counts.specs.declared.counter.TheConstants.{MOST_HITS}
use Rattle.bp_counts.specs.declared.sizes.TheConstants.{MOST_COUNTERS}
use Rattle.bp_counts.specs.declared.tally.Tally.{Tally}
use Rattle.bp_counts.specs.Tallies.{hits_of, with_hit}

-- a seat, with what it has hit
abbrev pub SeatTally : Type 0
SeatTally = Me (Unit {0}) Tally

-- the name of the word is hit once more
abbrev pub AddsHit : Step (Unit {0}) → SeatTally → ℕ → SeatTally → Type 0
AddsHit made old found new = new ≡ (with_hit (made.word - 1) old.0, old.1)

-- a load tells of no less than the seat has hit itself, and of no more than all can
pub record TellsLeast (made : Step (Unit {0})) (old : SeatTally) (found : ℕ) (new : SeatTally) : Type 0 where
  pub same : new ≡ old
  pub least : hits_of (made.word - 1) old.0.hits ≤ found
  pub most : found ≤ MOST_COUNTERS * MOST_HITS

-- a load by the seat that has all hits tells just these
pub record TellsTotal (made : Step (Unit {0})) (old : SeatTally) (found : ℕ) (new : SeatTally) : Type 0 where
  pub same : new ≡ old
  pub whole : found ≡ hits_of (made.word - 1) old.0.hits

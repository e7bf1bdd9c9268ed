-- The rule of the counts, which holds between any two atomic steps.
-- Source: as Tallies. In Erlang/OTP a breakpoint has a counter of its own; here the counts are a table of words.
use Rattle.std.specs.Prelude.{◌≡◌, ℕ, ◌+◌, ◌*◌, ◌<◌, ◌≤◌, length, sum_by, slice_index}
use Rattle.atomic_table.specs.Table.{State}
use Rattle.bp_counts.specs.declared.counter.TheConstants.{MOST_HITS}
use Rattle.bp_counts.specs.declared.sizes.Sizes.{Sizes}
use Rattle.bp_counts.specs.declared.sizes.TheConstants.{MOST_COUNTERS}
use Rattle.bp_counts.specs.declared.tally.Tally.{Tally}
use Rattle.bp_counts.specs.Tallies.{hits_of, share}

-- the words of so many names, raised by so many counters
pub record AreSummed (sizes : Sizes) (s : State (Unit {0}) Tally) : Type 0 where
  pub few : sizes.counters ≤ MOST_COUNTERS
  -- a word for each name, and one in front of them, which stays 0
  pub words : length s.words ≡ sizes.names + 1
  pub front : slice_index s.words 0 ≡ 0
  -- the word of a name is how often all seats together have hit it
  pub summed : (which : ℕ) → which < sizes.names → slice_index s.words (which + 1) ≡ sum_by (λ t. hits_of which t.hits) s.views
  -- no seat can hit more often than was handed out
  pub shared : sum_by share s.views ≡ sizes.counters * MOST_HITS

-- Seats are handed out and come in, which keeps the rule.
use Rattle.std.proofs.Common.{◌≡◌, ℕ, ◌≤◌, length-append, set, refl, arith}
use Rattle.std.proofs.lemmas.List.Sums.{sum_by_push}
use Rattle.atomic_table.specs.Table.{Splits, Joins}
use Rattle.bp_counts.specs.declared.counter.TheConstants.{MOST_HITS}
use Rattle.bp_counts.specs.declared.sizes.Sizes.{Sizes}
use Rattle.bp_counts.specs.declared.tally.Tally.{Tally}
use Rattle.bp_counts.specs.Rule.{AreSummed}
use Rattle.bp_counts.specs.Tallies.{hits_of, share, tally_spent, tallies_joined, tally_left, tally_given}
use Rattle.bp_counts.proofs.Hits.{hits_joined}
use Rattle.bp_counts.proofs.Sums.{sum_set}

-- the hits of a counter may be given away by a seat that has so many left
pub hand_out_is_allowed : (sizes : Sizes) (id : ℕ) (t : Tally) → MOST_HITS ≤ t.left → Splits (AreSummed sizes) id t (tally_left t) (tally_given t)
hand_out_is_allowed sizes id t many s r at = record {
  few = r.few;
  words = r.words;
  front = r.front;
  summed = λ k named.
      let hits : Tally → ℕ = λ u. hits_of k u.hits in
      let changed = sum_set hits s.views id t (tally_left t) at in
      let more = sum_by_push hits (set s.views id (tally_left t)) (tally_given t) in
      let none : hits (tally_given t) ≡ 0 = refl in
      let word = r.summed k named in
      omega arith;
  shared =
      let changed = sum_set share s.views id t (tally_left t) at in
      let more = sum_by_push share (set s.views id (tally_left t)) (tally_given t) in
      let whole = r.shared in
      omega arith;
}

-- a seat may come in to another one
pub take_in_is_allowed : (sizes : Sizes) (id : ℕ) (t : Tally) (other : ℕ) (u : Tally) → Joins (AreSummed sizes) id t other u (tallies_joined t u) tally_spent
take_in_is_allowed sizes id t other u s r at apart at' =
    let now = set s.views id (tallies_joined t u) in
    record {
      few = r.few;
      words = r.words;
      front = r.front;
      summed = λ k named.
          let hits : Tally → ℕ = λ v. hits_of k v.hits in
          let first = sum_set hits s.views id t (tallies_joined t u) at in
          let second = sum_set hits now other u tally_spent at' in
          let both = hits_joined k t.hits u.hits in
          let none : hits tally_spent ≡ 0 = refl in
          let word = r.summed k named in
          omega arith;
      shared =
          let first = sum_set share s.views id t (tallies_joined t u) at in
          let second = sum_set share now other u tally_spent at' in
          let both = length-append t.hits u.hits in
          let whole = r.shared in
          omega arith;
    }

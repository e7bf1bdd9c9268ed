-- The steps of a seat keep the rule: a hit, a load, and a load by the seat that has all hits.
use Rattle.std.proofs.Common.{◌≡◌, ℕ, ◌+◌, ◌-◌, ◌*◌, ◌%◌, ◌^◌, ◌<◌, ◌≤◌, List, length-set, set, sum_by, ◌∷◌, get_or-set_same, get_or-set_other, mod-eq_of_lt, refl, sym, ap, subst, ◌∙◌, arith}
use mathlib.Core.Option.{none, some}
use mathlib.Core.Logic.{dite}
use native.Mathlib.Decide.{ℕ_discrete}
use lib.ListN.{get_elem?}
use lib.Seq.{set-get_or}
use Rattle.std.proofs.lemmas.List.Sums.{sum_by-le-sum_by}
use Rattle.std.specs.Prelude.{slice_index}
use Rattle.atomic_table.specs.Table.{State, keeps, step, Allows}
use Rattle.atomic_table.proofs.Lists.{set_again}
use Rattle.bp_counts.specs.declared.counter.TheConstants.{MOST_HITS}
use Rattle.bp_counts.specs.declared.sizes.Sizes.{Sizes}
use Rattle.bp_counts.specs.declared.sizes.TheConstants.{MOST_COUNTERS}
use Rattle.bp_counts.specs.declared.tally.Tally.{Tally}
use Rattle.bp_counts.specs.Rule.{AreSummed}
use Rattle.bp_counts.specs.Steps.{SeatTally, AddsHit, TellsLeast, TellsTotal}
use Rattle.bp_counts.specs.Tallies.{hits_of, share, tally_spent, with_hit}
use Rattle.bp_counts.proofs.Hits.{own_hit, other_hit, hits_few}
use Rattle.bp_counts.proofs.Sums.{sum_set, part_of_sum, whole_is_all}

abbrev Table : Type 0
Table = State (Unit {0}) Tally

-- the table after a step of one seat
abbrev after_step : Table → List ℕ → ℕ → Tally → Table
after_step s words id t = record { words = words; homes = s.homes; views = set s.views id t }

module _ (sizes : Sizes) (s : Table) (r : AreSummed sizes s) where
  -- no word comes to the end of a u64
  room_left : (which : ℕ) → which < sizes.names → slice_index s.words (which + 1) ≤ MOST_COUNTERS * MOST_HITS
  room_left which below =
      let hits = sum_by-le-sum_by (λ (t : Tally). hits_of which t.hits) share s.views (λ (t : Tally). hits_few which t) in
      let word = r.summed which below in
      let whole = r.shared in
      let few = r.few in
      omega arith

  -- a hit
  hit_keeps : (id which : ℕ) (t : Tally) → get_elem? s.views id ≡ some t → which < sizes.names → 0 < t.left → AreSummed sizes (after_step s (set s.words (which + 1) (slice_index s.words (which + 1) + 1)) id (with_hit which t))
  hit_keeps id which t at below more =
      let found = slice_index s.words (which + 1) in
      let size = r.words in
      record {
        few = r.few;
        words = length-set s.words (which + 1) (found + 1) ∙ r.words;
        front = get_or-set_other s.words (which + 1) 0 (found + 1) 0 (λ e. absurd (omega arith)) ∙ r.front;
        summed = λ k named.
            let hits : Tally → ℕ = λ u. hits_of k u.hits in
            let changed = sum_set hits s.views id t (with_hit which t) at in
            let word = r.summed k named in
            dite (ℕ_discrete k which)
            (λ same.
            let one = own_hit k t.hits in
            let new : hits (with_hit which t) ≡ 1 + hits t = ap (λ (n : ℕ). hits_of k (n ∷ t.hits)) (sym same) ∙ one in
            let here : slice_index (set s.words (which + 1) (found + 1)) (k + 1) ≡ found + 1 = ap (λ (n : ℕ). slice_index (set s.words (which + 1) (found + 1)) (n + 1)) same ∙ get_or-set_same s.words (which + 1) (found + 1) 0 (omega arith) in
            let was : found ≡ sum_by hits s.views = ap (λ (n : ℕ). slice_index s.words (n + 1)) (sym same) ∙ word in
            omega arith)
            (λ other.
            let none_more = other_hit k which t.hits (λ e. other (sym e)) in
            let there = get_or-set_other s.words (which + 1) (k + 1) (found + 1) 0 (λ e. other (omega arith)) in
            omega arith);
        shared =
            let changed = sum_set share s.views id t (with_hit which t) at in
            let whole = r.shared in
            omega arith;
      }

  -- a step that only loads
  load_keeps : (id word : ℕ) (t : Tally) → get_elem? s.views id ≡ some t → AreSummed sizes (after_step s (set s.words word (slice_index s.words word)) id t)
  load_keeps id word t at = subst (λ (z : List ℕ × List Tally). AreSummed sizes (record { words = z.0; homes = s.homes; views = z.1 })) (λ i. (sym (set-get_or s.words word 0) i, sym (set_again s.views id t at) i)) r

-- a name may be hit by a seat that has a hit left
pub hit_is_allowed : (sizes : Sizes) (slots id which : ℕ) (me : SeatTally) → which < sizes.names → 0 < me.0.left → Allows (AreSummed sizes) slots id me (which + 1) (λ n. (n + 1) % 2 ^ 64) (AddsHit (step slots (which + 1) 1 0 none) me)
hit_is_allowed sizes slots id which me below more s r wide at fits =
    let found = slice_index s.words (which + 1) in
    let name : which + 1 - 1 ≡ which = omega arith in
    let whole : (found + 1) % 2 ^ 64 ≡ found + 1 = mod-eq_of_lt (let room = room_left sizes s r which below in omega arith) in (
      with_hit (which + 1 - 1) me.0,
      keeps,
      tt,
      subst (λ (z : ℕ × ℕ). AreSummed sizes (after_step s (set s.words (which + 1) z.0) id (with_hit z.1 me.0))) (λ i. (sym whole i, sym name i)) (hit_keeps sizes s r id which me.0 at below more),
      refl,
    )

-- a name may be read by any seat
pub read_is_allowed : (sizes : Sizes) (slots id which : ℕ) (me : SeatTally) → which < sizes.names → Allows (AreSummed sizes) slots id me (which + 1) (λ n. n) (TellsLeast (step slots (which + 1) 0 0 none) me)
read_is_allowed sizes slots id which me below s r wide at fits =
    let name : which + 1 - 1 ≡ which = omega arith in (
      me.0,
      keeps,
      tt,
      load_keeps sizes s r id (which + 1) me.0 at,
      record {
        same = refl;
        least = subst (λ (n : ℕ). hits_of n me.0.hits ≤ slice_index s.words (which + 1)) (sym name) (subst (λ (n : ℕ). hits_of which me.0.hits ≤ n) (sym (r.summed which below)) (part_of_sum (λ (t : Tally). hits_of which t.hits) s.views id me.0 at));
        most = room_left sizes s r which below;
      },
    )

-- the seat that has all hits is told just these
pub total_is_allowed : (sizes : Sizes) (slots id which : ℕ) (me : SeatTally) → which < sizes.names → share me.0 ≡ sizes.counters * MOST_HITS → Allows (AreSummed sizes) slots id me (which + 1) (λ n. n) (TellsTotal (step slots (which + 1) 0 0 none) me)
total_is_allowed sizes slots id which me below all s r wide at fits =
    let name : which + 1 - 1 ≡ which = omega arith in (
      me.0,
      keeps,
      tt,
      load_keeps sizes s r id (which + 1) me.0 at,
      record {
        same = refl;
        whole = r.summed which below ∙ whole_is_all (λ (t : Tally). hits_of which t.hits) share (λ (t : Tally). hits_few which t) s.views id me.0 tally_spent refl at (r.shared ∙ sym all) ∙ ap (λ (n : ℕ). hits_of n me.0.hits) (sym name);
      },
    )

use Rattle.std.proofs.Common.{◌≡◌, ◌≤◌, ◌+◌, ◌-◌, ℕ, sym, ap, subst, ◌∙◌, arith}
use Rattle.bp_counts.specs.Steps.{SeatTally}
use Rattle.bp_counts.specs.Tallies.{share, hits_of}
use Rattle.bp_counts.proofs.Steps.{total_is_allowed}
use Rattle.bp_counts.proofs.Totals.{totals_more}
use Rattle.bp_counts.proofs.closing.totals.Goals as goal

-- each load is one that the rule allows
pub load-requires : goal.load-requires
load-requires c =
    let here = c.loop-which-test.true in
    let names = c.requires.names in
    let words = c.requires.words in (
      c.loop-which.invariant.table ∙ c.requires.token.of_table,
      omega arith,
      total_is_allowed _ _ _ _ _ (omega arith) (ap (λ (me : SeatTally). share me.0) c.loop-which.invariant.view ∙ c.requires.whole),
    )

-- one more
pub loop-which-preserved : goal.loop-which-preserved
loop-which-preserved c =
    let name : c.loop-which.which + 1 - 1 ≡ c.loop-which.which = omega arith in
    let told = c.load.ensures.2 in record {
      table = c.load.ensures.0 ∙ c.loop-which.invariant.table;
      view = told.same ∙ c.loop-which.invariant.view;
      told = totals_more _ _ _ _ _ c.loop-which.invariant.told c.push_reserved.ensures.items
          (told.whole ∙ ap (λ (n : ℕ). hits_of n c.loop-which.all.me.0.hits) name ∙ ap (λ (me : SeatTally). hits_of c.loop-which.which me.0.hits) c.loop-which.invariant.view);
      room = subst (λ (n : ℕ). c.args.names ≤ n) (sym c.push_reserved.ensures.capacity) c.loop-which.invariant.room;
      many = c.push_reserved.ensures.len ∙ ap (λ (n : ℕ). n + 1) c.loop-which.invariant.many;
    }

use Rattle.std.proofs.Common.{◌+◌, ◌≤◌, sym, subst, arith}
use Rattle.std.specs.Ordering.{nat_cmp}
use Rattle.std.proofs.lemmas.Map.Views.{All-values-insert_entry}
use Rattle.fun_table.specs.FunNumbers.{AreAtLeastOne}
use Rattle.fun_table.proofs.counts.FunCounts.add.Goals as goal
use Rattle.fun_table.proofs.counts.FunCounts.add.Goals.{in-Ok, in-Err}

-- one more is no 0, and the other numbers stay
pub invariant_of-self : goal.invariant_of-self
invariant_of-self c =
    elim c.match-insert.branch [
      | in-Ok w ↦ subst AreAtLeastOne (sym w.in-Ok.ensures.entries) (All-values-insert_entry nat_cmp c.args.serial (c.count-before.result + 1) (λ n. 1 ≤ n) c.self.inside.counts.entries c.self.invariant (omega arith))
      | in-Err w ↦ subst AreAtLeastOne (sym w.in-Err.ensures.err) c.self.invariant
    ]

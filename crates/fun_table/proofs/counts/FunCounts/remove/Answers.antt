use Rattle.std.proofs.Common.{◌-◌, ◌≤◌, sym, subst, arith}
use Rattle.std.specs.BTreeMap.{is_at}
use Rattle.std.specs.Ordering.{nat_cmp}
use Rattle.std.proofs.lemmas.Map.Views.{All-map-remove_entry, All-values-set_value}
use Rattle.fun_table.specs.FunNumbers.{AreAtLeastOne}
use Rattle.fun_table.proofs.counts.FunCounts.remove.Goals as goal

-- the other numbers stay
pub invariant_of-self : goal.invariant_of-self
invariant_of-self c = subst AreAtLeastOne (sym c.remove.ensures.entries) (All-map-remove_entry (is_at (nat_cmp c.args.serial)) (λ e. e.1) (λ n. 1 ≤ n) c.self.inside.counts.entries c.self.invariant)

-- the new one is not 0
pub invariant_of-self-in-Some : goal.invariant_of-self-in-Some
invariant_of-self-in-Some c =
    let some = c.if-left-eq0.false in
    subst AreAtLeastOne (sym (c.get_mut.follows.holds (c.count-left.result - 1)).0) (All-values-set_value (is_at (nat_cmp c.args.serial)) (λ n. 1 ≤ n) c.self.inside.counts.entries (c.count-left.result - 1) c.self.invariant (omega arith))

-- One serial fewer stands in the slots, and what was told of the others is told still.
use Rattle.std.proofs.Common.{subst, arith}
use Rattle.server_core.specs.RetiredSlots.{IsNextFull}
use Rattle.server_core.proofs.Gaps.{cleared, first_cleared, first_within, one_fewer, one_slot, tell_cleared}
use Rattle.server_core.proofs.slots.SlotTable.clear.Goals as goal

pub next_full-self-requires : goal.next_full-self-requires
next_full-self-requires c = omega (arith, first_within c.args.self.now.slots.items c.args.self.now.first c.requires.table.first, c.as_slice.ensures.len)

pub overflow_sub-self : goal.overflow_sub-self
overflow_sub-self c = omega (arith, c.requires.table.count, one_fewer c.args.self.now.slots.items c.args.slot c.args.serial c.requires.there)

pub returns-clause-table : goal.returns-clause-table
returns-clause-table c =
    let slots = c.args.self.now.slots.items in
    record {
      places = tell_cleared slots c.args.self.now.places.items c.args.slot c.requires.table.places;
      first = first_cleared slots c.args.slot c.args.self.now.first c.next_full-self.result c.requires.table.first (subst (λ left. IsNextFull left c.args.self.now.first c.next_full-self.result) c.as_slice.ensures.value c.next_full-self.ensures);
      count = omega (arith, c.requires.table.count, one_fewer slots c.args.slot c.args.serial c.requires.there);
    }

pub returns-clause-serials : goal.returns-clause-serials
returns-clause-serials c =
    let slots = c.args.self.now.slots.items in
    cleared slots c.args.slot c.args.serial c.requires.there (λ other there. one_slot slots c.args.self.now.places.items c.args.serial c.args.slot other c.requires.table.places c.requires.there there)

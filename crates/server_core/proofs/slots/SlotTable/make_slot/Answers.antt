-- The block has the same serials, and no gap.
use Rattle.std.proofs.Common.{ap, sym, subst, ◌∙◌, length, slice_get}
use Rattle.std.proofs.lemmas.List.{with_items_is}
use Rattle.server_core.specs.RetiredSlots.{IsNextFull, serials_in}
use Rattle.server_core.proofs.Gaps.{first_moved, serials_moved}
use Rattle.server_core.proofs.slots.SlotTable.make_slot.Goals as goal

pub returns-then-len-capacity-clause-same : goal.returns-then-len-capacity-clause-same
returns-then-len-capacity-clause-same c = ap serials_in c.close_gaps.ensures.items ∙ serials_moved (serials_in c.as_slice.result.now) ∙ ap serials_in c.as_slice.ensures.value

pub returns-then-len-capacity-clause-table : goal.returns-then-len-capacity-clause-table
returns-then-len-capacity-clause-table c =
    let whole = with_items_is c.args.self.now.places c.close_gaps.new.places (c.close_gaps.ensures.length ∙ c.as_mut_slice.ensures.len) in
    record {
      places = λ slot serial there. ap (λ ps. slice_get ps serial) whole ∙ c.close_gaps.ensures.places slot serial there;
      first = subst (λ slots. IsNextFull slots 0 0) (sym c.close_gaps.ensures.items) (first_moved (serials_in c.as_slice.result.now));
      count = c.requires.table.count ∙ ap length (sym (returns-then-len-capacity-clause-same c));
    }

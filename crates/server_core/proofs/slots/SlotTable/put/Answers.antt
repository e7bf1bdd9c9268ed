-- The table is as it was but for one slot and its place.
use Rattle.std.proofs.Common.{ap, sym, subst, ◌∙◌, ◌∷◌, [], length, slice_get, arith}
use Rattle.std.proofs.lemmas.List.{with_items_is, length-append}
use Rattle.server_core.specs.RetiredSlots.{IsNextFull, serials_in}
use Rattle.server_core.proofs.Gaps.{fewer_serials, first_pushed, serials_pushed}
use Rattle.server_core.proofs.slots.SlotTable.put.Goals as goal

pub overflow_add-self : goal.overflow_add-self
overflow_add-self c = omega (arith, c.requires.table.count, fewer_serials c.args.self.now.slots.items, c.requires.slot)

pub returns-clause-serials : goal.returns-clause-serials
returns-clause-serials c = ap serials_in c.put_behind.ensures.items ∙ serials_pushed c.args.self.now.slots.items c.args.serial

pub returns-clause-table : goal.returns-clause-table
returns-clause-table c =
    let whole = with_items_is c.args.self.now.places c.put_behind.new.places (c.put_behind.ensures.length ∙ c.as_mut_slice.ensures.len) in
    record {
      places = λ slot serial there. ap (λ ps. slice_get ps serial) whole ∙ c.put_behind.ensures.places slot serial there;
      first = subst (λ slots. IsNextFull slots 0 c.args.self.now.first) (sym c.put_behind.ensures.items) (first_pushed c.args.self.now.slots.items c.args.serial c.args.self.now.first c.requires.table.first);
      count = omega (arith, c.requires.table.count, ap length (returns-clause-serials c), length-append (serials_in c.args.self.now.slots.items) (c.args.serial ∷ []));
    }

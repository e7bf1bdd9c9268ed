-- The next slot that is no gap has the next serial.
use Rattle.std.proofs.Common.{◌+◌, length, ap, sym, subst, refl, ◌∙◌, arith}
use Rattle.std.proofs.lemmas.Option.{slice_get_within}
use Rattle.server_core.specs.RetiredSlots.{IsNextFull, serials_in, standing}
use Rattle.server_core.proofs.Gaps.{behind_is, none_behind, one_slot}
use Rattle.server_core.proofs.slots.SlotTable.behind.Goals as goal

pub returns-in_err-slot : goal.returns-in_err-slot
returns-in_err-slot c = c.from_residual.ensures ∙ sym (none_behind (serials_in c.args.self.now.slots.items) c.args.serial (c.in_err-slot.ensures.none refl))

pub overflow_add-slot : goal.overflow_add-slot
overflow_add-slot c = omega (arith, slice_get_within c.args.self.now.slots.items c.in_ok-slot.slot _ c.in_ok-slot.ensures.some, c.as_slice.ensures.len, ap length c.as_slice.ensures.value, c.args.self.now.slots.small)

pub next_full-next-requires : goal.next_full-next-requires
next_full-next-requires c = omega (arith, slice_get_within c.args.self.now.slots.items c.in_ok-slot.slot _ c.in_ok-slot.ensures.some, ap length c.as_slice.ensures.value)

pub returns : goal.returns
returns c =
    let slots = c.args.self.now.slots.items in
    let slot = c.in_ok-slot.slot in
    let there = c.in_ok-slot.ensures.some in
    let next = subst (λ xs. IsNextFull xs (slot + 1) c.next_full-next.result) c.as_slice.ensures.value c.next_full-next.ensures in
    c.serial_at.ensures ∙ ap (λ xs. standing xs c.next_full-next.result) c.as_slice-2.ensures.value
    ∙ behind_is slots slot c.args.serial c.next_full-next.result there (λ other at. one_slot slots c.args.self.now.places.items c.args.serial slot other c.requires.places there at) next

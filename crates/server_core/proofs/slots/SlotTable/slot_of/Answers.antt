-- A serial stands in the slot that its place tells, or in none.
use Rattle.std.proofs.Common.{◌≡◌, Some, get_or, length, nat_eq, ap, ◌∙◌, arith}
use Rattle.std.proofs.lemmas.Bool.{false≢true}
use Rattle.std.proofs.lemmas.Option.{get_or_from_slice_get, slice_get_within}
use Rattle.std.specs.Option.{option_and_then, option_eq}
use Rattle.server_core.specs.RetiredSlots.{standing}
use Rattle.server_core.proofs.Gaps.{absent, itself}
use Rattle.server_core.proofs.slots.SlotTable.slot_of.Goals as goal

pub returns-in_err-slot-clause-none : goal.returns-in_err-slot-clause-none
returns-in_err-slot-clause-none c = λ none. absent c.args.self.now.slots.items c.args.serial (λ slot there.
    absurd (omega (arith, c.in_err-slot.ensures.lookup.3, ap length c.deref.ensures.value, slice_get_within c.args.self.now.places.items c.args.serial slot (c.requires.places slot c.args.serial there))))

pub returns-else-eq-clause-none : goal.returns-else-eq-clause-none
returns-else-eq-clause-none c = λ none. absent c.args.self.now.slots.items c.args.serial (λ slot there.
    let serial = c.args.serial in
    let told = get_or_from_slice_get c.args.self.now.places.items serial slot 0 (c.requires.places slot serial there) in
    let place : c.in_ok-slot.field-0.now ≡ slot = c.in_ok-slot.ensures.lookup.3.1 0 ∙ ap (λ xs. get_or xs serial 0) c.deref.ensures.value ∙ told in
    let here : c.serial_at.result ≡ Some serial = c.serial_at.ensures ∙ (λ i. standing (c.as_slice.ensures.value i) (place i)) ∙ ap (λ o. option_and_then (λ s. s) o) there in
    absurd (false≢true (c.if-eq.ensures ∙ ap (λ o. option_eq nat_eq o (Some serial)) here ∙ itself serial)))

-- The serials of the slots that were gone through stand in the block, each once.
use Rattle.std.proofs.Common.{◌≡◌, None, Some, length, slice_get, take, vec_capacity, ap, sym, ◌∙◌, arith}
use Rattle.std.proofs.lemmas.List.{length-map}
use Rattle.std.proofs.lemmas.Option.{slice_get-get_or, slice_get_within}
use Rattle.server_core.specs.RetiredSlots.{serials_in}
use Rattle.server_core.specs.ServerState.{is_serial_in}
use Rattle.server_core.proofs.Gaps.{fewer_in_front, fresh_in_front, moved_on, moved_past, serials_moved}
use Rattle.server_core.proofs.slots.close_gaps.Goals as goal
use Rattle.server_core.proofs.slots.close_gaps.Goals.{in-Some, in_default}

here : (c : goal.After-row_known-1) → slice_get c.args.slots.now c.loop-slot.slot-index ≡ Some (Some c.in-Some.serial)
here c = slice_get-get_or c.args.slots.now c.loop-slot.slot-index None c.loop-slot-test.true ∙ ap Some c.in-Some.is

pub put_behind-requires-clause-fresh : goal.put_behind-requires-clause-fresh
put_behind-requires-clause-fresh c =
    let serial = c.in-Some.serial in
    let k = c.loop-slot.slot-index in
    ap (λ xs. is_serial_in (serials_in xs) serial) c.loop-slot.invariant.items ∙ ap (λ xs. is_serial_in xs serial) (serials_moved (serials_in (take k c.args.slots.now)))
    ∙ fresh_in_front c.args.slots.now c.args.places.now k serial c.requires.places (here c)

pub put_behind-requires-clause-slot : goal.put_behind-requires-clause-slot
put_behind-requires-clause-slot c =
    omega (arith, fewer_in_front c.args.slots.now c.loop-slot.slot-index c.in-Some.serial (here c), ap length c.loop-slot.invariant.items, length-map (serials_in (take c.loop-slot.slot-index c.args.slots.now)) (λ n. Some n), c.loop-slot.invariant.capacity, c.requires.block.room)

pub put_behind-requires-clause-place : goal.put_behind-requires-clause-place
put_behind-requires-clause-place c = omega (arith, slice_get_within c.args.places.now c.in-Some.serial c.loop-slot.slot-index (c.requires.places c.loop-slot.slot-index c.in-Some.serial (here c)), c.loop-slot.invariant.length)

pub loop-slot-preserved : goal.loop-slot-preserved
loop-slot-preserved c =
    let slots = c.args.slots.now in
    let k = c.loop-slot.slot-index in
    let at = slice_get-get_or slots k None c.loop-slot-test.true in
    elim c.match-slot.branch [
      | in-Some w ↦ record {
        items = ap (λ b. b.items) w.block-is ∙ w.put_behind.ensures.items ∙ moved_on slots k w.in-Some.serial c.loop-slot.block.items (at ∙ ap Some w.in-Some.is) c.loop-slot.invariant.items;
        capacity = ap (λ b. vec_capacity b) w.block-is ∙ w.put_behind.ensures.capacity ∙ c.loop-slot.invariant.capacity;
        places = λ slot serial there. ap (λ ps. slice_get ps serial) w.places-is ∙ w.put_behind.ensures.places slot serial (ap (λ b. slice_get b.items slot) (sym w.block-is) ∙ there);
        length = ap length w.places-is ∙ w.put_behind.ensures.length ∙ c.loop-slot.invariant.length;
      }
      | in_default w ↦ record {
        items = ap (λ b. b.items) w.block-is ∙ moved_past slots k c.loop-slot.block.items (at ∙ ap Some w.in_default.is) c.loop-slot.invariant.items;
        capacity = ap (λ b. vec_capacity b) w.block-is ∙ c.loop-slot.invariant.capacity;
        places = λ slot serial there. ap (λ ps. slice_get ps serial) w.places-is ∙ c.loop-slot.invariant.places slot serial (ap (λ b. slice_get b.items slot) (sym w.block-is) ∙ there);
        length = ap length w.places-is ∙ c.loop-slot.invariant.length;
      }
    ]

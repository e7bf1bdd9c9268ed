-- The serial goes in at its place, for which there is room.
use Rattle.std.proofs.Common.{◌≡◌, ◌<◌, ◌∙◌, arith, ap, sym, subst, false, length, vec_len, vec_capacity}
use Rattle.machine_core.specs.Holds.{IsIncreasing, is_among, with_serial}
use Rattle.machine_core.proofs.SerialLists.{length-with, place-up_to, with-there}
use Rattle.machine_core.proofs.SerialEdits.{inserted, still_increasing}
use Rattle.machine_core.proofs.serials.SerialList.insert.Goals as goal

pub insert-requires : goal.insert-requires
insert-requires c =
    let p = place-up_to c.as_slice.result.now c.args.serial in
    let v = c.as_slice.ensures.value in
    omega (arith, c.as_slice.ensures.len)

fresh : (c : goal.After-insert) → is_among c.args.self.now c.args.serial ≡ false
fresh c = sym c.contains.ensures ∙ c.if-contains.false

room_for : (c : goal.After-insert) → length c.args.self.now < 16
room_for c = c.requires.room (fresh c)

room : (c : goal.After-insert) → vec_len c.self.inside.serials < vec_capacity c.self.inside.serials
room c = let v = ap length c.self.view_is in let i = c.self.invariant.room in omega (arith, (room_for c))

put_in : (c : goal.After-insert) → c.insert.new.self.items ≡ with_serial c.args.self.now c.args.serial
put_in c =
    inserted c.insert.result c.args.self.now c.self.inside.serials.items c.as_slice.result.now c.insert.new.self.items c.place_of-place.result c.args.serial
    c.self.view_is c.as_slice.ensures.value c.place_of-place.ensures (fresh c) (c.insert.ensures.succeeds (room c)) c.insert.ensures.items

pub invariant_of-self : goal.invariant_of-self
invariant_of-self c =
    let i = still_increasing c.args.self.now c.self.inside.serials.items c.insert.new.self.items c.args.serial c.self.view_is (put_in c) c.self.invariant.increasing in
    record { increasing = i; few = omega (arith, ap length (put_in c), length-with c.args.self.now c.args.serial, (room_for c)); room = omega (arith, c.insert.ensures.capacity, c.self.invariant.room) }

pub returns : goal.returns
returns c = put_in c

pub returns-then-contains : goal.returns-then-contains
returns-then-contains c = sym (with-there c.args.self.now c.args.serial (subst IsIncreasing c.self.view_is c.self.invariant.increasing) (sym c.contains.ensures ∙ c.if-contains.true))

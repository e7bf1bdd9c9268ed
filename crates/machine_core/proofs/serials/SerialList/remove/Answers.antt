-- The serial is taken out at its place, if it is there.
use Rattle.std.proofs.Common.{◌≡◌, ◌∙◌, arith, sym, subst, true}
use Rattle.machine_core.specs.Holds.{IsIncreasing, is_among, without_serial}
use Rattle.machine_core.proofs.SerialLists.{place-within, without-none}
use Rattle.machine_core.proofs.SerialEdits.{increasing_out, taken_out}
use Rattle.machine_core.proofs.serials.SerialList.remove.Goals as goal

pub remove-requires : goal.remove-requires
remove-requires c =
    let v = c.as_slice.ensures.value in
    let there : is_among c.as_slice.result.now c.args.serial ≡ true = cc in
    let p = place-within c.as_slice.result.now c.args.serial there in
    omega (arith, c.as_slice.ensures.len)

put_out : (c : goal.After-remove) → c.remove.new.self.items ≡ without_serial c.args.self.now c.args.serial
put_out c =
    taken_out c.args.self.now c.self.inside.serials.items c.as_slice.result.now c.remove.new.self.items c.place_of-place.result c.args.serial
    c.self.view_is c.as_slice.ensures.value c.place_of-place.ensures (subst IsIncreasing c.self.view_is c.self.invariant.increasing) (sym c.contains.ensures ∙ c.if-contains.true) c.remove.ensures.items

pub invariant_of-self : goal.invariant_of-self
invariant_of-self c =
    let i = increasing_out c.args.self.now c.self.inside.serials.items c.remove.new.self.items c.args.serial c.self.view_is (put_out c) c.self.invariant.increasing in
    record { increasing = i; few = omega (arith, c.remove.ensures.len, c.self.invariant.few); room = omega (arith, c.remove.ensures.capacity, c.self.invariant.room) }

pub returns-then-contains : goal.returns-then-contains
returns-then-contains c = put_out c

pub returns-else-contains : goal.returns-else-contains
returns-else-contains c = sym (without-none c.args.self.now c.args.serial (sym c.contains.ensures ∙ c.if-contains.false))

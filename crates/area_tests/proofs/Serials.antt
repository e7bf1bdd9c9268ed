-- How the next serial rises, and which area was taken last.
use Rattle.std.proofs.Common.{◌≡◌, ◌+◌, ◌≤◌, sym, ap, subst, arith}
use Rattle.term_core.specs.declared.area.AreaRef.{AreaRef}
use Rattle.literal_areas.specs.declared.blocks.Pool.{Pool}
use Rattle.literal_areas.specs.declared.blocks.BlockUse.TheVariants.{Free, Live}
use Rattle.literal_areas.specs.declared.areas.Areas.{Areas}
use Rattle.literal_areas.specs.declared.taking.Take.{Take}
use Rattle.literal_areas.specs.declared.taking.Take.TheVariants.{Area, AllLive, AwaitRelease}
use Rattle.literal_areas.specs.Blocks.{HasAnswered, HasTaken, IsLast, IsLive}
use Rattle.literal_areas.proofs.Uses.{use_here}

-- the next serial is at most one more
pub next_after : (pool : Pool) (old new : Areas) (answer : Take) → HasAnswered pool old new answer → new.next ≤ old.next + 1
next_after pool old new (Area area) told = let is : new.next ≡ old.next + 1 = ap (λ (s : Areas). s.next) told.after in omega (arith, is)
next_after pool old new AllLive told = let is : new.next ≡ old.next = ap (λ (s : Areas). s.next) told.same in omega (arith, is)
next_after pool old new AwaitRelease told = let is : new.next ≡ old.next = ap (λ (s : Areas). s.next) told.same in omega (arith, is)

-- what was taken is what was taken last
pub taken_last : (pool : Pool) (old new : Areas) (answer : Take) (area : AreaRef) → HasAnswered pool old new answer → answer ≡ Area area → IsLast new area
taken_last pool old new answer area told is =
    let took : HasTaken pool area old new = subst (HasAnswered pool old new) is told in
    let serial = took.serial in
    let next : new.next ≡ old.next + 1 = ap (λ (s : Areas). s.next) took.after in record {
      live = subst (λ (s : Areas). IsLive s area) (sym took.after) (use_here (record old { next = old.next + 1 }) area.block Free (Live area.serial) took.block.free);
      last = omega (arith, serial, next);
    }

-- and is live
pub taken_live : (pool : Pool) (old new : Areas) (answer : Take) (area : AreaRef) → HasAnswered pool old new answer → answer ≡ Area area → IsLive new area
taken_live pool old new answer area told is = (taken_last pool old new answer area told is).live

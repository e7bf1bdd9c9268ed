-- The block has the serials of the slots that were gone through, and the places tell where.
use Rattle.std.proofs.Common.{◌≡◌, Some, length, map, take, vec_capacity}
use Rattle.server_core.specs.RetiredSlots.{TellSlots, serials_in}
use Rattle.server_core.proofs.slots.close_gaps.Given as goal

abbrev pub invariant-loop-slot : goal.invariant-loop-slot
invariant-loop-slot l = record {
  items : l.block.items ≡ map Some (serials_in (take l.slot-index l.slots));
  capacity : vec_capacity l.block ≡ vec_capacity l.fn.block;
  places : TellSlots l.block.items l.places;
  length : length l.places ≡ length l.fn.places;
}

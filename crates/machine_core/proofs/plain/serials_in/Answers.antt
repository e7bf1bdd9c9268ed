-- There are at most 16, so there is room for some of them.
use Rattle.std.proofs.Common.{◌∙◌, sym}
use Rattle.machine_core.proofs.HoldLists.{next_serials, room_of_next}
use Rattle.machine_core.proofs.plain.serials_in.Goals as goal

pub insert-requires : goal.insert-requires
insert-requires c = record {
  room =
      room_of_next c.args.areas.now c.loop-area.area-index _ c.loop-area.serials c.requires
      (next_serials c.args.areas.now c.loop-area.area-index (record { serial = 0; block = 0 }) c.loop-area.serials c.loop-area-test.true c.loop-area.invariant);
}

pub loop-area-preserved : goal.loop-area-preserved
loop-area-preserved c =
    c.insert.ensures ∙ sym (next_serials c.args.areas.now c.loop-area.area-index (record { serial = 0; block = 0 }) c.loop-area.serials c.loop-area-test.true c.loop-area.invariant)

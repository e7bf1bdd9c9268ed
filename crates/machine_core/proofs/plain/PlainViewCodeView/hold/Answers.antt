-- Where less than 16 other areas are held, there is room for one more serial.
use Rattle.std.proofs.Common.{◌<◌, arith, sym, subst}
use Rattle.machine_core.specs.Holds.{IsIncreasing, other_areas}
use Rattle.machine_core.specs.View.{Viewed}
use Rattle.machine_core.proofs.HoldLists.{room_of_frames, room_of_literals}
use Rattle.machine_core.proofs.plain.PlainViewCodeView.hold.Goals as goal

pub insert-requires : goal.insert-requires
insert-requires c = record {
  room = λ fresh.
      let few : other_areas c.args.self.now.held c.args.area.serial < 16 = omega (arith, c.other_areas.ensures.value) in
      room_of_frames (record { frames = c.self.inside.frames; literals = c.self.inside.literals }) c.args.area.serial
      (subst (λ (v : Viewed). other_areas v.held c.args.area.serial < 16) (sym c.self.view_is) few) fresh;
}

pub insert-requires-in-Literal : goal.insert-requires-in-Literal
insert-requires-in-Literal c = record {
  room = λ fresh.
      let few : other_areas c.args.self.now.held c.args.area.serial < 16 = omega (arith, c.other_areas.ensures.value) in
      room_of_literals (record { frames = c.self.inside.frames; literals = c.self.inside.literals }) c.args.area.serial
      (subst (λ (v : Viewed). IsIncreasing v.held.literals) (sym c.self.view_is) c.other_areas.ensures.increasing)
      (subst (λ (v : Viewed). other_areas v.held c.args.area.serial < 16) (sym c.self.view_is) few) fresh;
}

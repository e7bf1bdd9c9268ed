-- What the next frame names is named with what those before it do.
use Rattle.std.proofs.Common.{◌∙◌, ◌++◌, All, ap, subst, sym}
use Rattle.machine_core.specs.Holds.{serials_of}
use Rattle.machine_core.specs.Process.{area_serials, value_areas}
use Rattle.machine_core.specs.View.{HasValues, IsValue}
use Rattle.machine_core.proofs.AreaLists.{next_frame, next_of}
use Rattle.machine_core.proofs.areas.areas_of.Goals as goal

pub loop-frame-preserved : goal.loop-frame-preserved
loop-frame-preserved c = record {
  names =
      next_frame c.loop-frame.areas.frames c.note.new.areas c.loop-frame.areas.literals c.note_literals.new.areas c.args.frames.now c.loop-frame.frame-index c.frame-item.result
      c.loop-frame-test.true c.frame-item.is c.loop-frame.invariant.names c.in_ok-note.ensures.named
      (c.in_ok-note_literals.ensures.named ∙ ap (λ vs. serials_of (area_serials c.loop-frame.areas.literals ++ value_areas vs)) c.as_slice.ensures);
  stand = λ shown values.
      let frame = next_of (HasValues shown) c.args.frames.now c.loop-frame.frame-index c.frame-item.result c.loop-frame-test.true c.frame-item.is values in
      c.in_ok-note_literals.ensures.stand shown (c.loop-frame.invariant.stand shown values) (subst (All (IsValue shown)) (sym c.as_slice.ensures) frame.1);
}

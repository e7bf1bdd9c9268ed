-- Each area that is taken out is named still, or its hold is dropped.
use Rattle.std.proofs.Common.{◌∙◌, ◌||◌, ap, sym, refl}
use Rattle.machine_core.specs.HoldKinds.{held_for}
use Rattle.machine_core.specs.Holds.{is_among}
use Rattle.machine_core.specs.Process.{area_serials, code_names}
use Rattle.machine_core.proofs.DroppedHolds.{last_held, left_dropped, left_first, left_last, left_named}
use Rattle.machine_core.proofs.dropping.drop_unnamed.Goals as goal

pub areas-init : goal.areas-init
areas-init g c = record { shown = refl; held = left_first (g.V.CodeView.held c.args.view.now) c.args.kind c.args.frames.now c.args.areas.now c.requires.named c.requires.tracked }

pub drop_hold-requires-clause-known : goal.drop_hold-requires-clause-known
drop_hold-requires-clause-known g c =
    last_held (g.V.CodeView.held c.args.view.now) c.args.kind c.args.frames.now (g.V.CodeView.held c.areas.view) c.areas.areas c.pop.new.self c.in-Some.area c.areas.invariant.held c.in-Some.ensures

pub areas-preserved-then-not-is_still_named : goal.areas-preserved-then-not-is_still_named
areas-preserved-then-not-is_still_named g c = record {
  shown = c.drop_hold.ensures.same ∙ c.areas.invariant.shown;
  held =
      left_dropped (g.V.CodeView.held c.args.view.now) c.args.kind c.args.frames.now (g.V.CodeView.held c.areas.view) c.areas.areas c.pop.new.self c.in-Some.area c.areas.invariant.held c.in-Some.ensures (g.V.CodeView.held c.drop_hold.new.self)
      (ap (λ areas. is_among (held_for (code_names c.args.frames.now) c.args.kind) c.in-Some.area.serial || is_among (area_serials areas) c.in-Some.area.serial) (sym c.as_slice.ensures)
      ∙ sym c.is_still_named.ensures ∙ c.if-not-is_still_named.true)
      c.drop_hold.ensures.dropped;
}

pub areas-preserved : goal.areas-preserved
areas-preserved g c = record {
  shown = c.areas.invariant.shown;
  held =
      left_named (g.V.CodeView.held c.args.view.now) c.args.kind c.args.frames.now (g.V.CodeView.held c.areas.view) c.areas.areas c.pop.new.self c.in-Some.area c.areas.invariant.held c.in-Some.ensures
      (ap (λ areas. is_among (held_for (code_names c.args.frames.now) c.args.kind) c.in-Some.area.serial || is_among (area_serials areas) c.in-Some.area.serial) (sym c.as_slice.ensures)
      ∙ sym c.is_still_named.ensures ∙ c.if-not-is_still_named.false);
}

pub returns-clause-holds : goal.returns-clause-holds
returns-clause-holds g c =
    left_last (g.V.CodeView.held c.args.view.now) c.args.kind c.args.frames.now (g.V.CodeView.held c.areas.view) c.areas.areas c.in_default.ensures.0 c.areas.invariant.held

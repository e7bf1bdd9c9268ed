-- A load takes the first name of those that are left, its serial, and at most one place.
use Rattle.std.proofs.Common.{ap, arith, ◌∙◌}
use Rattle.server_core.specs.Rooms.{with_current}
use Rattle.server_core.proofs.CurrentCode.{currents_step, live_within}
use Rattle.server_core.proofs.loading.make_all_current.Goals as goal

pub loop-instance-preserved : goal.loop-instance-preserved
loop-instance-preserved c =
    let made = c.make_current.ensures.versions ∙ ap (λ m. with_current c.loop-instance.versions.versions m.name.0 c.loop-instance.serial) (c.code.ensures ∙ c.instance-item.is) in
    record {
      versions = currents_step c.loop-instance.versions.versions _ c.loop-instance.serial c.loop-instance.instance-index c.args.modules.now c.instance-item.result c.loop-instance-test.true made ∙ c.loop-instance.invariant.versions;
      room = omega arith;
      places = omega (arith, live_within c.loop-instance.versions.versions _ _ c.loop-instance.serial c.make_current.ensures.versions);
      serial = omega arith;
    }

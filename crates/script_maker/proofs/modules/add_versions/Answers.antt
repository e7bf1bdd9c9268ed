-- One version more stands at the end.
use Rattle.script_maker.proofs.Growing.{versions_more}
use Rattle.script_maker.proofs.modules.add_versions.Goals as goal

pub loop-earlier-preserved : goal.loop-earlier-preserved
loop-earlier-preserved c =
    versions_more c.args.about c.loop-earlier.earlier c.args.modules.now c.loop-earlier.modules c.push.new.self c.in_ok-made_module.field-0 c.loop-earlier.invariant c.in_ok-push.ensures.ok c.in_ok-made_module.ensures

-- Each name is led to what the change leaves, one after another.
use Rattle.std.proofs.Common.{refl, sym, subst, arith}
use Rattle.code_index.specs.Staging.{IsStaged}
use Rattle.staging.proofs.StagedNames.{StagesOn, stages_begun, stages_more, stages_whole}
use Rattle.staging.proofs.exporting.stage_exports.Goals as goal

pub loop-number-init : goal.loop-number-init
loop-number-init g c =
    stages_begun _ _ g.K.Naming.names c.args.server.now c.args.change.now c.args.tables.now c.args.tables.now c.start_exports.new.tables c.args.taken.now c.start_exports.ensures.tables c.start_exports.ensures.exports c.start_exports.ensures.terms c.start_exports.ensures.pools c.start_exports.ensures.patch c.start_exports.ensures.begun
    c.start_exports.ensures.stored c.exports_that_stay_are_staged.ensures c.requires.placed c.requires.names refl c.start_exports.ensures.staged

pub loop-number-preserved : goal.loop-number-preserved
loop-number-preserved g c =
    let step = c.stage_name.ensures in
    stages_more _ _ g.K.Naming.names c.args.server.now c.args.change.now c.args.tables.now c.loop-number.tables c.stage_name.new.tables c.args.taken.now step.tables step.exports step.terms step.pools step.patch (subst IsStaged (sym step.index) c.loop-number.invariant.staged) step.stored c.exports_that_stay_are_staged.ensures
    (record { loaded = c.loads_are_reached.ensures.loaded; not_loaded = c.loads_are_reached.ensures.others; deleted = c.deletes_reach_nothing.ensures.deleted; not_deleted = c.deletes_reach_nothing.ensures.others; others = c.calls_stay_but_for_loads_and_deletes.ensures })
    c.is_sound.ensures c.requires.fits c.requires.whole c.loop-number.number c.loop-number.invariant step.index step.changed step.other

pub returns-clause-exported : goal.returns-clause-exported
returns-clause-exported g c =
    stages_whole _ _ g.K.Naming.names c.args.server.now c.args.change.now c.args.tables.now c.loop-number.tables c.args.taken.now
    (subst (StagesOn _ _ g.K.Naming.names c.args.server.now c.args.change.now c.args.tables.now c.loop-number.tables c.args.taken.now) (omega (arith)) c.loop-number.invariant)

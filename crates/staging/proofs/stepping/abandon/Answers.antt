-- Where exports are staged, they can be dropped; where a breakpoint is switched, the patch is taken back.
use Rattle.std.proofs.Common.{refl, sym, subst}
use Rattle.progress_words.specs.Tokens.{written_by}
use Rattle.staging.specs.Stages.{HaveExported, LeavesView, StageStands}
use Rattle.staging.specs.declared.stage.Stage.{Stage}
use Rattle.staging.proofs.Steps.{exports_staged}
use Rattle.staging.proofs.stepping.abandon.Goals as goal

pub abort-requires : goal.abort-requires
abort-requires g c =
    let have : HaveExported g.K.Naming.names c.args.server.now c.args.change.now c.args.tables.now c.in-Exported.areas.items = subst (StageStands g.K.Naming.names c.args.server.now c.args.change.now c.args.tables.now) c.in-Exported.is c.requires.stage in
    record { staged = exports_staged g.K.Naming.names c.args.server.now c.args.change.now c.args.tables.now have.exported }

pub take_patch_back-requires-clause-patched : goal.take_patch_back-requires-clause-patched
take_patch_back-requires-clause-patched g c = subst (StageStands g.K.Naming.names c.args.server.now c.args.change.now c.args.tables.now) c.in-Patching.is c.requires.stage

pub returns-in-Untouched-clause-view : goal.returns-in-Untouched-clause-view
returns-in-Untouched-clause-view g c = subst (λ (stage : Stage). LeavesView stage (written_by c.args.tables.now.writer) (written_by c.args.tables.now.writer)) (sym c.in-Untouched.is) refl

pub returns-in-Placed-clause-view : goal.returns-in-Placed-clause-view
returns-in-Placed-clause-view g c = subst (λ (stage : Stage). LeavesView stage (written_by c.args.tables.now.writer) (written_by c.give_back.new.tables.writer)) (sym c.in-Placed.is) c.give_back.ensures.view

pub returns-in-Exported-clause-view : goal.returns-in-Exported-clause-view
returns-in-Exported-clause-view g c = subst (λ (stage : Stage). LeavesView stage (written_by c.args.tables.now.writer) (written_by c.give_back-in-Exported.new.tables.writer)) (sym c.in-Exported.is) c.give_back-in-Exported.ensures.view

pub returns-in-Patching-clause-view : goal.returns-in-Patching-clause-view
returns-in-Patching-clause-view g c = subst (λ (stage : Stage). LeavesView stage (written_by c.args.tables.now.writer) (written_by c.take_patch_back.new.tables.writer)) (sym c.in-Patching.is) c.take_patch_back.ensures.view

-- A load or a delete has no patch.
use Rattle.std.proofs.Common.{subst}
use Rattle.staging.specs.Stages.{IsPatched, StageStands}
use Rattle.staging.proofs.Steps.{code_unpatched}
use Rattle.staging.proofs.coding.step_code.Goals as goal

pub unreachable-requires : goal.unreachable-requires
unreachable-requires g c =
    let have : IsPatched g.K.Naming.names c.args.server.now c.args.change.now c.args.tables.now = subst (StageStands g.K.Naming.names c.args.server.now c.args.change.now c.args.tables.now) c.in-Patching.is c.requires.stage in
    code_unpatched c.args.change.now have.patch c.requires.code have.of

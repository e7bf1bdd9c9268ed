-- A put or an erase has no exports that are staged.
use Rattle.std.proofs.Common.{subst}
use Rattle.staging.specs.Stages.{HaveExported, IsPatched, StageStands}
use Rattle.staging.proofs.StagedEnds.{not_both}
use Rattle.staging.proofs.Steps.{key_unpatched}
use Rattle.staging.proofs.keying.step_key.Goals as goal

pub unreachable-requires : goal.unreachable-requires
unreachable-requires g c =
    let have : HaveExported g.K.Naming.names c.args.server.now c.args.change.now c.args.tables.now c.in-Exported.areas.items = subst (StageStands g.K.Naming.names c.args.server.now c.args.change.now c.args.tables.now) c.in-Exported.is c.requires.stage in
    not_both c.args.change.now have.code c.requires.key

pub unreachable-requires-in-Patching : goal.unreachable-requires-in-Patching
unreachable-requires-in-Patching g c =
    let have : IsPatched g.K.Naming.names c.args.server.now c.args.change.now c.args.tables.now = subst (StageStands g.K.Naming.names c.args.server.now c.args.change.now c.args.tables.now) c.in-Patching.is c.requires.stage in
    key_unpatched c.args.change.now have.patch c.requires.key have.of

-- The patch that is under way has published nothing, and is taken back.
use Rattle.std.proofs.Common.{refl}
use Rattle.staging.proofs.TakenBack.{at_patch, back_at_rest, back_tables, is_before}
use Rattle.staging.proofs.tracing.take_patch_back.Goals as goal

pub unreachable-requires : goal.unreachable-requires
unreachable-requires g c = c.in_default.not-Some c.requires.patched.patch c.requires.patched.is

pub take_back-requires-clause-patch : goal.take_back-requires-clause-patch
take_back-requires-clause-patch g c = at_patch _ _ c.args.tables.now c.requires.tables c.in-Some.patch c.in-Some.is

pub take_back-requires-clause-unpublished : goal.take_back-requires-clause-unpublished
take_back-requires-clause-unpublished g c = is_before g.K.Naming.names c.args._server.now c.args._change.now c.args.tables.now c.requires.patched c.in-Some.patch c.in-Some.is

pub returns-clause-tables : goal.returns-clause-tables
returns-clause-tables g c =
    back_tables g.K.Naming.names c.args._server.now c.args._change.now _ _ c.args.tables.now _ c.requires.tables c.requires.patched c.in-Some.patch c.in-Some.is
    c.writes_keep_index.ensures c.writes_keep_tables.ensures refl refl refl refl c.take_back.ensures.token c.take_back.ensures.patched c.take_back.ensures.rest

pub returns-clause-rest : goal.returns-clause-rest
returns-clause-rest g c =
    back_at_rest g.K.Naming.names c.args._server.now c.args._change.now _ _ c.args.tables.now _ c.requires.tables c.requires.patched c.in-Some.patch c.in-Some.is
    c.writes_keep_index.ensures c.writes_keep_tables.ensures refl refl refl refl c.take_back.ensures.patched

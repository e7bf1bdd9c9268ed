-- A change of what is traced that waits has a patch, or begins one.
use Rattle.std.proofs.Common.{subst}
use Rattle.staging.specs.Stages.{HaveExported, StageStands}
use Rattle.staging.proofs.TraceStages.{none_exported, rest_placed}
use Rattle.staging.proofs.tracing.step_trace.Goals as goal

pub begin_trace-requires-clause-rest : goal.begin_trace-requires-clause-rest
begin_trace-requires-clause-rest g c = subst (StageStands g.K.Naming.names c.args.server.now c.args.change.now c.args.tables.now) c.in-Untouched.is c.requires.stage

pub begin_trace-requires-in-Placed-clause-rest : goal.begin_trace-requires-in-Placed-clause-rest
begin_trace-requires-in-Placed-clause-rest g c =
    rest_placed g.K.Naming.names c.args.server.now c.args.change.now c.args.tables.now c.in-Placed._none c.requires.trace (subst (StageStands g.K.Naming.names c.args.server.now c.args.change.now c.args.tables.now) c.in-Placed.is c.requires.stage)

pub unreachable-requires : goal.unreachable-requires
unreachable-requires g c =
    let have : HaveExported g.K.Naming.names c.args.server.now c.args.change.now c.args.tables.now c.in-Exported.areas.items = subst (StageStands g.K.Naming.names c.args.server.now c.args.change.now c.args.tables.now) c.in-Exported.is c.requires.stage in
    none_exported c.args.change.now c.requires.trace have.code

pub go_on-requires-clause-patched : goal.go_on-requires-clause-patched
go_on-requires-clause-patched g c = subst (StageStands g.K.Naming.names c.args.server.now c.args.change.now c.args.tables.now) c.in-Patching.is c.requires.stage

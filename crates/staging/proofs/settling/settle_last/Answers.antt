-- At its last phase the patch is over, or it waits.
use Rattle.std.proofs.Common.{subst}
use Rattle.breakpoints.specs.declared.patch.PatchStep.{PatchStep}
use Rattle.staging.specs.Traced.{SettleAnswers}
use Rattle.staging.proofs.Settled.{at_last}
use Rattle.staging.proofs.settling.settle_last.Goals as goal

pub returns-in-Finished-clause-rest : goal.returns-in-Finished-clause-rest
returns-in-Finished-clause-rest g c = subst (λ (step : PatchStep). SettleAnswers g.K.Naming.names c.args.tables.now c.settle_once.new.tables step) c.in-Finished.is c.in-Ok.ensures.answers

pub unreachable-requires : goal.unreachable-requires
unreachable-requires g c = at_last g.K.Naming.names c.args.tables.now c.settle_once.new.tables c.in-Ok.step c.requires.last c.in-Ok.ensures.answers c.in_default.not-Finished

-- The patch is of the function of the change, on or off as the change asks.
use Rattle.std.proofs.Common.{sym, ap, subst}
use Rattle.server_core.specs.declared.change.Change.{Change}
use Rattle.breakpoints.specs.declared.patch.Patch.{Patch}
use Rattle.literal_areas.specs.Blocks.{IsLive}
use Rattle.staging.specs.Traced.{TraceLives}
use Rattle.staging.proofs.Traced.{clear_patch, no_trace, set_patch}
use Rattle.staging.proofs.tracing.patch_of.Goals as goal

pub placed_at-requires-clause-live : goal.placed_at-requires-clause-live
placed_at-requires-clause-live c = subst (λ (change : Change). TraceLives change c.args.pools.now) c.in-SetTrace.is c.requires.live

pub placed_at-requires-in-ClearTrace-clause-live : goal.placed_at-requires-in-ClearTrace-clause-live
placed_at-requires-in-ClearTrace-clause-live c = subst (λ (change : Change). TraceLives change c.args.pools.now) c.in-ClearTrace.is c.requires.live

pub returns-in-SetTrace-clause-of : goal.returns-in-SetTrace-clause-of
returns-in-SetTrace-clause-of c = set_patch c.args.change.now _ _ _ c.in-SetTrace.is c.begin.result c.placed_at.result c.begin.ensures c.placed_at.ensures.same

pub returns-in-SetTrace-clause-begun : goal.returns-in-SetTrace-clause-begun
returns-in-SetTrace-clause-begun c = ap (λ (x : Patch). x.phase) c.begin.ensures

pub returns-in-SetTrace-clause-live : goal.returns-in-SetTrace-clause-live
returns-in-SetTrace-clause-live c = subst (λ (x : Patch). IsLive c.args.pools.now x.at.area) (sym c.begin.ensures) c.placed_at.ensures.live

pub returns-in-ClearTrace-clause-of : goal.returns-in-ClearTrace-clause-of
returns-in-ClearTrace-clause-of c = clear_patch c.args.change.now _ _ c.in-ClearTrace.is c.begin-in-ClearTrace.result c.placed_at-in-ClearTrace.result c.begin-in-ClearTrace.ensures c.placed_at-in-ClearTrace.ensures.same

pub returns-in-ClearTrace-clause-begun : goal.returns-in-ClearTrace-clause-begun
returns-in-ClearTrace-clause-begun c = ap (λ (x : Patch). x.phase) c.begin-in-ClearTrace.ensures

pub returns-in-ClearTrace-clause-live : goal.returns-in-ClearTrace-clause-live
returns-in-ClearTrace-clause-live c = subst (λ (x : Patch). IsLive c.args.pools.now x.at.area) (sym c.begin-in-ClearTrace.ensures) c.placed_at-in-ClearTrace.ensures.live

pub unreachable-requires : goal.unreachable-requires
unreachable-requires c = no_trace c.args.change.now c.requires.trace c.in_default.not-SetTrace c.in_default.not-ClearTrace

-- Outside a purge, what a drop leaves is what the end of a purge leaves.
use Rattle.std.proofs.Common.{◌∙◌, sym}
use Rattle.server_core.proofs.Soundness.{soft_purged}
use Rattle.server_core.proofs.server.Server.decide_soft_purge.Goals as goal

pub returns-in_ok-decide_drop-in-None-Some-clause-ok : goal.returns-in_ok-decide_drop-in-None-Some-clause-ok
returns-in_ok-decide_drop-in-None-Some-clause-ok c =
    soft_purged c.args.self.now _ c.args.«module».0 c.in-None-Some.serial c.args.lingers c.if-is_purging.ensures.rest c.in-None-Some.is-0 (sym c.old.ensures ∙ c.in-None-Some.is-1) c.in_ok-decide_drop-in-None-Some.ensures.ok

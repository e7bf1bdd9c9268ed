use Rattle.std.proofs.Common.{subst}
use Rattle.run_log.specs.Snapshots.{AreExports}
use Rattle.run_log.proofs.Snapshots.{exports_are_one}
use Rattle.legality.proofs.observers.is_true.Goals as goal

-- a state has its exports in one way
pub returns : goal.returns
returns c =
    let names = c.args.script.now.names in
    let found = c.in_ok-exports.ensures names c.args.script.now.modules c.requires.functions c.requires.texts in (
      λ yes. subst (AreExports names c.args.server.now) (c.are_same.ensures.0 yes) found,
      λ h. c.are_same.ensures.1 (exports_are_one names c.args.server.now _ _ found h),
    )

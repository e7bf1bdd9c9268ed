use Rattle.std.proofs.Common.{subst, sym}
use Rattle.run_log.specs.Snapshots.{AreExports}
use Rattle.run_log.proofs.StateExports.{are_exports}
use Rattle.run_log.proofs.exports.snapshot.snapshot_of.Goals as goal

-- they are the exports of the state
pub returns : goal.returns
returns c = record {
  generation = c.generation-generation.ensures.value;
  exports = λ names texts all known. subst (AreExports names c.args.server.now) (sym c.in_ok-exports.ensures) (are_exports names texts c.args.server.now c.args.functions.now c.generation-generation.ensures.sound all known);
}

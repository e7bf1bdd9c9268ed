-- Two lists in strict order with the same elements are one.
use Rattle.run_log.proofs.Snapshots as snapshots
use Rattle.run_log.proofs.exports.exports_are_one.Goals as goal

-- as the law on lists in order says
pub returns : goal.returns
returns c = λ names s exports others h k. snapshots.exports_are_one names s exports others h k

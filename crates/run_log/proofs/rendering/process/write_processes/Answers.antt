use Rattle.std.proofs.Common.{append_assoc}
use Rattle.run_log.proofs.RenderingText.{starts_own, starts_more, processes_more_at}
use Rattle.run_log.proofs.rendering.process.write_processes.Goals as goal

-- what was appended before and the part of the last call
pub returns-in_err-write_process-clause-kept : goal.returns-in_err-write_process-clause-kept
returns-in_err-write_process-clause-kept c =
    starts_more _ _ _ (starts_own _ _ _ c.loop-number.invariant) c.in_err-write_process.ensures.kept

-- one more log is written
pub loop-number-preserved : goal.loop-number-preserved
loop-number-preserved c =
    let m = processes_more_at c.args.names.now c.as_slice-log-items.result.now c.loop-number.number c.log-item.result c.loop-number-test.true c.log-item.is in
    rw (c.in_ok-write_process.ensures.ok, c.loop-number.invariant, m) (simp append_assoc)

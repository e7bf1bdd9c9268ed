use Rattle.std.proofs.Common.{append_assoc}
use Rattle.run_log.proofs.RenderingText.{starts_own, starts_more, observers_more_at}
use Rattle.run_log.proofs.rendering.observer.write_observers.Goals as goal

-- what was appended before and the part of the last call
pub returns-in_err-write_observer-clause-kept : goal.returns-in_err-write_observer-clause-kept
returns-in_err-write_observer-clause-kept c =
    starts_more _ _ _ (starts_own _ _ _ c.loop-number.invariant) c.in_err-write_observer.ensures.kept

-- one more observer is written
pub loop-number-preserved : goal.loop-number-preserved
loop-number-preserved c =
    let m = observers_more_at c.args.names.now c.as_slice-shots-items.result.now c.loop-number.number c.shots-item.result c.loop-number-test.true c.shots-item.is in
    rw (c.in_ok-write_observer.ensures.ok, c.loop-number.invariant, m) (simp append_assoc)

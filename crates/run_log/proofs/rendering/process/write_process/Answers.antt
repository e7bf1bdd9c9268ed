use Rattle.run_log.proofs.RenderingText.{three_parts, starts_own, starts_more}
use Rattle.run_log.proofs.rendering.process.write_process.Goals as goal

-- what was appended before and the part of the last call
pub returns-clause-kept : goal.returns-clause-kept
returns-clause-kept c =
    let p = starts_own _ _ _ c.in_ok-write_spans.ensures.ok in
    let q = starts_own _ _ _ c.in_ok-write_process_line.ensures.ok in
    starts_more _ _ _ q (starts_more _ _ _ p c.write_end_line.ensures.kept)

-- the text of the process
pub returns-clause-ok : goal.returns-clause-ok
returns-clause-ok c =
    three_parts _ _ _ _ _ _ _ _ c.in_ok-write_process_line.ensures.ok c.in_ok-write_spans.ensures.ok c.write_end_line.ensures.ok

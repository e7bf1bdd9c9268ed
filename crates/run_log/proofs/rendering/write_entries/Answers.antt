use Rattle.run_log.proofs.RenderingText.{starts_own, starts_more}
use Rattle.run_log.proofs.rendering.write_entries.Goals as goal

-- what was appended before and the part of the last call
pub returns-in_err-write_entry-clause-kept : goal.returns-in_err-write_entry-clause-kept
returns-in_err-write_entry-clause-kept c = starts_more _ _ _ (starts_own _ _ _ c.loop-entry.invariant) c.in_err-write_entry.ensures.kept

-- The answer to what was read, or to a text over the limit.
use Rattle.beam_tool.specs.TopCall.{ReadVerdict, ListVerdict, too_long_text, long_text}
use Rattle.script_core.specs.declared.script.TheConstants.{LONGEST_SCRIPT}
use Rattle.beam_tool.proofs.TopCalls.{replayed_log}
use Rattle.beam_tool.proofs.Verdicts.{by_slice, by_line, by_work, unrun_of}
use Rattle.beam_tool.proofs.progress_form.progress_answer.Goals as goal

pub returns-in_ok-judged-in-Whole-clause-verdict : goal.returns-in_ok-judged-in-Whole-clause-verdict
returns-in_ok-judged-in-Whole-clause-verdict g c =
    let told = rw c.in-Whole.is at c.in_ok-bytes.ensures.whole in
    let to_end = rw c.in-Whole.is at c.in_ok-bytes.ensures.end in
    let short = rw c.in-Whole.is at c.in_ok-bytes.ensures.limit in
    by_work (ReadVerdict LONGEST_SCRIPT (g.S.Source.left c.args.source.now) (g.S.Source.left c.read_whole.new.source) ListVerdict) _ _ c.unrun.ensures.answer
    (by_slice ListVerdict _ _ _ _ _ _ _ _ c.as_slice.ensures (record { told = told; to_end = to_end; short = short }) c.in_ok-judged-in-Whole.ensures)

pub returns-in_ok-refusal-in-TooLong-clause-verdict : goal.returns-in_ok-refusal-in-TooLong-clause-verdict
returns-in_ok-refusal-in-TooLong-clause-verdict g c =
    let long = rw c.in-TooLong.is at c.in_ok-bytes.ensures.too_long in
    by_work (ReadVerdict LONGEST_SCRIPT (g.S.Source.left c.args.source.now) (g.S.Source.left c.read_whole.new.source) ListVerdict) _ _ c.unrun-in-TooLong.ensures.answer
    (by_line (ReadVerdict LONGEST_SCRIPT (g.S.Source.left c.args.source.now) (g.S.Source.left c.read_whole.new.source) ListVerdict) 3 too_long_text _ _ _ (long_text long) c.in_ok-refusal-in-TooLong.ensures.line)

pub returns-in_ok-judged-in-Whole-clause-unrun : goal.returns-in_ok-judged-in-Whole-clause-unrun
returns-in_ok-judged-in-Whole-clause-unrun g c = unrun_of _ _ _ c.unrun.ensures.answer c.unrun.ensures.closed (replayed_log c.in_ok-judged-in-Whole.ensures)

pub returns-in_ok-refusal-in-TooLong-clause-unrun : goal.returns-in_ok-refusal-in-TooLong-clause-unrun
returns-in_ok-refusal-in-TooLong-clause-unrun g c = unrun_of _ _ _ c.unrun-in-TooLong.ensures.answer c.unrun-in-TooLong.ensures.closed c.in_ok-refusal-in-TooLong.ensures.line.log_is

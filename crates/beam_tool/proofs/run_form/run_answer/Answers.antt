-- The answer to what was read, or to a text over the limit.
use Rattle.beam_tool.specs.TopCall.{ReadVerdict, ScriptVerdict, too_long_text, long_text}
use Rattle.script_core.specs.declared.script.TheConstants.{LONGEST_SCRIPT}
use Rattle.beam_tool.proofs.Closings.{closing_by_slice, closing_of_long}
use Rattle.beam_tool.proofs.Verdicts.{by_slice, by_line, by_work, unrun_of}
use Rattle.beam_tool.proofs.run_form.run_answer.Goals as goal

pub returns-in_ok-judged-in-Whole-clause-verdict : goal.returns-in_ok-judged-in-Whole-clause-verdict
returns-in_ok-judged-in-Whole-clause-verdict g c =
    let told = rw c.in-Whole.is at c.in_ok-bytes.ensures.whole in
    let to_end = rw c.in-Whole.is at c.in_ok-bytes.ensures.end in
    let short = rw c.in-Whole.is at c.in_ok-bytes.ensures.limit in
    by_slice ScriptVerdict _ _ _ _ _ _ _ _ c.as_slice.ensures (record { told = told; to_end = to_end; short = short }) c.in_ok-judged-in-Whole.ensures.verdict

pub returns-in_ok-refusal-in-TooLong-clause-verdict : goal.returns-in_ok-refusal-in-TooLong-clause-verdict
returns-in_ok-refusal-in-TooLong-clause-verdict g c =
    let long = rw c.in-TooLong.is at c.in_ok-bytes.ensures.too_long in
    by_work (ReadVerdict LONGEST_SCRIPT (g.S.Source.left c.args.source.now) (g.S.Source.left c.read_whole.new.source) ScriptVerdict) _ _ c.unrun.ensures.answer
    (by_line (ReadVerdict LONGEST_SCRIPT (g.S.Source.left c.args.source.now) (g.S.Source.left c.read_whole.new.source) ScriptVerdict) 3 too_long_text _ _ _ (long_text long) c.in_ok-refusal-in-TooLong.ensures.line)

pub returns-in_ok-judged-in-Whole-clause-closed : goal.returns-in_ok-judged-in-Whole-clause-closed
returns-in_ok-judged-in-Whole-clause-closed g c =
    let told = rw c.in-Whole.is at c.in_ok-bytes.ensures.whole in
    let to_end = rw c.in-Whole.is at c.in_ok-bytes.ensures.end in
    let short = rw c.in-Whole.is at c.in_ok-bytes.ensures.limit in
    closing_by_slice _ _ _ _ _ _ c.as_slice.ensures (record { told = told; to_end = to_end; short = short }) c.in_ok-judged-in-Whole.ensures.closed

pub returns-in_ok-refusal-in-TooLong-clause-closed : goal.returns-in_ok-refusal-in-TooLong-clause-closed
returns-in_ok-refusal-in-TooLong-clause-closed g c = closing_of_long _ _ _ _ (unrun_of _ _ _ c.unrun.ensures.answer c.unrun.ensures.closed c.in_ok-refusal-in-TooLong.ensures.line.log_is)

-- The answer to what was read, or to a text over the limit.
use Rattle.std.proofs.Common.{ℕ, ◌≤◌, List, length, sym, subst}
use Rattle.beam_tool.specs.TopCall.{ReadVerdict, CheckVerdict, too_long_text, long_text}
use Rattle.outside.specs.declared.check_input.TheConstants.{LONGEST_CHECK}
use Rattle.beam_tool.proofs.TopCalls.{judged_log}
use Rattle.beam_tool.proofs.Verdicts.{by_slice, by_line, by_work, unrun_of}
use Rattle.beam_tool.proofs.check_form.check_answer.Goals as goal

pub judged-requires : goal.judged-requires
judged-requires g c =
    let short = rw c.in-Whole.is at c.in_ok-bytes.ensures.limit in
    subst (λ (l : List ℕ). length l ≤ LONGEST_CHECK) (sym c.as_slice.ensures) short

pub returns-in_ok-judged-in-Whole-clause-verdict : goal.returns-in_ok-judged-in-Whole-clause-verdict
returns-in_ok-judged-in-Whole-clause-verdict g c =
    let told = rw c.in-Whole.is at c.in_ok-bytes.ensures.whole in
    let to_end = rw c.in-Whole.is at c.in_ok-bytes.ensures.end in
    let short = rw c.in-Whole.is at c.in_ok-bytes.ensures.limit in
    by_work (ReadVerdict LONGEST_CHECK (g.S.Source.left c.args.source.now) (g.S.Source.left c.read_whole.new.source) CheckVerdict) _ _ c.unrun.ensures.answer
    (by_slice CheckVerdict _ _ _ _ _ _ _ _ c.as_slice.ensures (record { told = told; to_end = to_end; short = short }) c.in_ok-judged-in-Whole.ensures)

pub returns-in_ok-refusal-in-TooLong-clause-verdict : goal.returns-in_ok-refusal-in-TooLong-clause-verdict
returns-in_ok-refusal-in-TooLong-clause-verdict g c =
    let long = rw c.in-TooLong.is at c.in_ok-bytes.ensures.too_long in
    by_work (ReadVerdict LONGEST_CHECK (g.S.Source.left c.args.source.now) (g.S.Source.left c.read_whole.new.source) CheckVerdict) _ _ c.unrun-in-TooLong.ensures.answer
    (by_line (ReadVerdict LONGEST_CHECK (g.S.Source.left c.args.source.now) (g.S.Source.left c.read_whole.new.source) CheckVerdict) 3 too_long_text _ _ _ (long_text long) c.in_ok-refusal-in-TooLong.ensures.line)

pub returns-in_ok-judged-in-Whole-clause-unrun : goal.returns-in_ok-judged-in-Whole-clause-unrun
returns-in_ok-judged-in-Whole-clause-unrun g c = unrun_of _ _ _ c.unrun.ensures.answer c.unrun.ensures.closed (judged_log c.in_ok-judged-in-Whole.ensures)

pub returns-in_ok-refusal-in-TooLong-clause-unrun : goal.returns-in_ok-refusal-in-TooLong-clause-unrun
returns-in_ok-refusal-in-TooLong-clause-unrun g c = unrun_of _ _ _ c.unrun-in-TooLong.ensures.answer c.unrun-in-TooLong.ensures.closed c.in_ok-refusal-in-TooLong.ensures.line.log_is

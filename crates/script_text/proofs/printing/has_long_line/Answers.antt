use Rattle.script_text.proofs.Common.{◌≡◌, ◌∙◌, ◌||◌, length, None, true, false, sym, ap, arith, lt-ltb, le-ltb, list_any}
use Rattle.script_text.proofs.Texts.{cut_at, shorter_rest}
use Rattle.term_core.specs.Text.Parts.{lines_of_text}
use Rattle.script_text.proofs.Forms.{is_long_line}
use Rattle.script_text.proofs.PrintedText.{any_long, none_long}
use Rattle.script_text.proofs.printing.has_long_line.Goals as goal

-- the line at the front is long
pub returns-then-line-gt-LONGEST_LINE : goal.returns-then-line-gt-LONGEST_LINE
returns-then-line-gt-LONGEST_LINE c =
    let long : is_long_line c.in-Some.line.now ≡ true = lt-ltb 4096 (length c.in-Some.line.now) c.if-line-gt-LONGEST_LINE.true in
    sym (ap (λ t. t || list_any is_long_line (lines_of_text c.in-Some.behind.now).ended) long) ∙ sym (any_long c.lines.rest.now c.in-Some.line.now c.in-Some.behind.now (sym c.in-Some.ensures)) ∙ c.lines.invariant

-- what is behind it is shorter
pub lines-smaller : goal.lines-smaller
lines-smaller c = shorter_rest 10 c.lines.rest.now c.in-Some.line.now c.in-Some.behind.now (sym c.in-Some.ensures)

-- the line at the front is not long
pub lines-preserved : goal.lines-preserved
lines-preserved c =
    let short : is_long_line c.in-Some.line.now ≡ false = le-ltb 4096 (length c.in-Some.line.now) c.if-line-gt-LONGEST_LINE.false in
    sym (ap (λ t. t || list_any is_long_line (lines_of_text c.in-Some.behind.now).ended) short) ∙ sym (any_long c.lines.rest.now c.in-Some.line.now c.in-Some.behind.now (sym c.in-Some.ensures)) ∙ c.lines.invariant

-- no line is left
pub returns : goal.returns
returns c =
    let uncut : cut_at 10 c.lines.rest.now ≡ None = grind (arith, c.cut_at.ensures) in
    sym (none_long c.lines.rest.now uncut) ∙ c.lines.invariant

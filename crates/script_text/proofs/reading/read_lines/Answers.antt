use Rattle.script_text.proofs.Common.{sym, ap, ◌∙◌, subst, arith, err_from_is_err_and}
use Rattle.script_text.proofs.Forms.{FailsWith, line_judged}
use Rattle.script_text.proofs.TextSteps.{AtLine, at_first, is_counted, at_next, at_fault, at_end, cut_length, unknown_small}
use Rattle.script_text.proofs.reading.read_lines.Goals as goal

pub lines-init : goal.lines-init
lines-init c = subst (λ r. AtLine c.args.text.now r 1 c.args.text.now) (sym c.in_ok-reader.ensures) (at_first c.args.text.now)

pub judge_line-requires : goal.judge_line-requires
judge_line-requires c = is_counted c.lines.reader c.lines.number c.lines.reader.place c.lines.invariant.kept.open_at

-- a line is refused
pub returns-in_err-judge_line : goal.returns-in_err-judge_line
returns-in_err-judge_line c =
    let p = err_from_is_err_and c.from_residual-in_err-judge_line.result c.from_residual-in_err-judge_line.ensures.1 in
    let judged = subst (λ last. FailsWith (line_judged c.lines.reader c.lines.number last c.in-Some.line.now) c.in_err-judge_line.field-0.0) c.is_empty.ensures c.in_err-judge_line.ensures in
    rw (p.1, p.2) (at_fault c.args.text.now c.lines.reader c.lines.number c.lines.rest.now (c.in-Some.line.now, c.in-Some.behind.now) c.in_err-judge_line.field-0.0 c.lines.invariant (sym c.in-Some.ensures) judged)

pub overflow_add-number : goal.overflow_add-number
overflow_add-number c =
    let a = c.lines.invariant in
    let short = c.requires.short in
    omega (arith, a.room, short)

pub lines-smaller : goal.lines-smaller
lines-smaller c =
    let shorter = cut_length c.lines.rest.now (c.in-Some.line.now, c.in-Some.behind.now) (sym c.in-Some.ensures) in
    omega (arith, shorter)

-- a line is read
pub lines-preserved : goal.lines-preserved
lines-preserved c =
    let judged = ap (λ last. line_judged c.lines.reader c.lines.number last c.in-Some.line.now) (sym c.is_empty.ensures) ∙ c.in_ok-judge_line.ensures in
    at_next c.args.text.now c.lines.reader c.lines.number c.lines.rest.now (c.in-Some.line.now, c.in-Some.behind.now) c.judge_line.new.self c.lines.invariant (sym c.in-Some.ensures) judged

pub end_text-requires : goal.end_text-requires
end_text-requires c = unknown_small c.args.text.now c.lines.reader c.lines.number c.lines.rest.now c.lines.invariant c.requires.short

-- no line is left
pub returns : goal.returns
returns c = at_end c.args.text.now c.lines.reader c.lines.number c.lines.rest.now c.end_text.result c.lines.invariant (sym c.in_default.ensures) c.end_text.ensures

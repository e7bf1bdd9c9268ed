use Rattle.report_text.proofs.Common.{sym, arith, err_from_is_err_and}
use Rattle.report_text.proofs.Texts.{shorter_rest}
use Rattle.report_text.proofs.BytesOn.{next_line, line_fails, no_line, given}
use Rattle.report_text.proofs.reading.read_lines.Goals as goal

-- a line is not taken, or memory is refused
pub returns-in_err-state : goal.returns-in_err-state
returns-in_err-state c =
    let l = c.lines in
    let p = err_from_is_err_and c.from_residual.result c.from_residual.ensures.1 in
    rw (p.1, p.2) (line_fails c.args.names.now l.state l.number l.rest.now c.in-Some.line.now c.in-Some.behind.now _ c.in_err-state.field-0.0 (sym c.in-Some.ensures) c.in_err-state.ensures l.invariant.so_far)

-- what is behind a line is shorter
pub lines-smaller : goal.lines-smaller
lines-smaller c = shorter_rest 10 c.lines.rest.now c.in-Some.line.now c.in-Some.behind.now (sym c.in-Some.ensures)

-- a line is taken
pub lines-preserved : goal.lines-preserved
lines-preserved c =
    let l = c.lines in
    let shorter = shorter_rest 10 l.rest.now c.in-Some.line.now c.in-Some.behind.now (sym c.in-Some.ensures) in
    record {
      so_far = next_line c.args.names.now l.state c.in_ok-state.state l.number l.rest.now c.in-Some.line.now c.in-Some.behind.now _ (sym c.in-Some.ensures) c.in_ok-state.ensures l.invariant.so_far;
      room = omega (arith, shorter, l.invariant.room);
    }

-- no line is left
pub returns : goal.returns
returns c =
    let l = c.lines in
    given c.end_text.result _ _ (no_line c.args.names.now l.state l.number l.rest.now _ (sym c.in_default.ensures) l.invariant.so_far) c.end_text.ensures

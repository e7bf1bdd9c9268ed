-- The lines of the turn are the next ones of the span, or they are not.
use Rattle.std.proofs.Common.{◌∙◌, ◌+◌, ◌-◌, ap, arith}
use Rattle.std.specs.List.{starts_with}
use Rattle.machine_core.specs.Process.{process_of}
use Rattle.machine_core.specs.View.{server_words}
use Rattle.span_check.proofs.Equal.{line_eq}
use Rattle.span_check.proofs.GoingOn.{from_is, lines_from, others_by, steps_by, steps_within}
use Rattle.span_check.proofs.steps.take_step.Goals as goal

pub returns-then-not-starts_with-clause-steps : goal.returns-then-not-starts_with-clause-steps
returns-then-not-starts_with-clause-steps c =
    let words = server_words c.args.server.now in
    let lines = lines_from c.as_slice.result.now c.args.rest.now.lines in
    others_by c.args.server.now (process_of words c.args.process.now) (process_of words c.go_on.new.process) c.args.span.now c.args.rest.now c.in_ok-step.step.turns c.go_on.new.made c.in_ok-step.step.end
    c.in_ok-step.ensures.goes c.requires.within lines (from_is c.as_slice.result.now c.args.span.now.lines c.args.rest.now.lines c.as_slice.ensures) c.starts_with.result
    (c.starts_with.ensures.value ∙ ap (starts_with line_eq lines) c.as_slice-2.ensures) c.if-not-starts_with.true

pub returns-clause-steps : goal.returns-clause-steps
returns-clause-steps c =
    let words = server_words c.args.server.now in
    let lines = lines_from c.as_slice.result.now c.args.rest.now.lines in
    steps_by c.args.server.now (process_of words c.args.process.now) (process_of words c.go_on.new.process) c.args.span.now c.args.rest.now c.in_ok-step.step.turns c.go_on.new.made c.in_ok-step.step.end
    c.in_ok-step.ensures.goes c.requires.within lines (from_is c.as_slice.result.now c.args.span.now.lines c.args.rest.now.lines c.as_slice.ensures) c.starts_with.result
    (c.starts_with.ensures.value ∙ ap (starts_with line_eq lines) c.as_slice-2.ensures)
    (record { turns = c.args.rest.now.turns - c.in_ok-step.step.turns; lines = c.args.rest.now.lines + c.len.result }) c.if-not-starts_with.false
    (omega (arith, c.in_ok-step.ensures.within)) (omega (arith, c.len.ensures))
    (steps_within c.as_slice.result.now c.args.span.now.lines c.as_slice-2.result.now c.go_on.new.made c.args.rest.now.lines c.len.result c.requires.within c.as_slice.ensures c.as_slice-2.ensures c.len.ensures
    (c.starts_with.ensures.bound c.if-not-starts_with.false))

-- At first all of the span is left; each step takes some of it, and the watches that come due are seen.
use Rattle.std.proofs.Common.{◌∙◌, Some, sym, ap, subst, arith, drop}
use Rattle.machine_core.specs.Process.{process_of}
use Rattle.machine_core.specs.View.{server_words}
use Rattle.machine_core.specs.declared.process.TurnEnd.TheVariants.{Ended}
use Rattle.run_log.proofs.TurnRuns.{ended_again}
use Rattle.span_check.specs.Steps.{StepsSo}
use Rattle.span_check.proofs.GoingOn.{left_is, look_is}
use Rattle.span_check.proofs.Spanning.{AtRest, at_first, ended_so, one_step, one_unseen, other_lines, over_so}
use Rattle.span_check.proofs.Watching.{order_drop}
use Rattle.span_check.proofs.spans.take_span.Goals as goal

pub loop-rest-init : goal.loop-rest-init
loop-rest-init c = record {
  at = at_first c.args.server.now (process_of (server_words c.args.server.now) c.args.process.now) c.args.span.now (drop c.args.told.now c.args.watches.now) c.requires.later;
  ready = c.requires.ready;
  within = c.requires.within;
}

pub loop-rest-preserved : goal.loop-rest-preserved
loop-rest-preserved c =
    let s = c.args.server.now in
    let words = server_words s in
    let p = process_of words c.args.process.now in
    let now = process_of words c.loop-rest.process in
    let next = process_of words c.take_step.new.process in
    let all = drop c.args.told.now c.args.watches.now in
    let between = drop c.loop-rest.told c.args.watches.now in
    let again = c.in-Some-Again.is ∙ ap Some c.in-Some-Again.field-0-is in
    record {
      at = subst (λ left. AtRest s p next c.args.span.now c.take_step.new.rest all left) (sym (left_is c.take_step.new.process c.args.watches.now c.loop-rest.told c.look.new.told c.look.ensures.told))
          (one_step s p now c.args.span.now c.loop-rest.rest all between c.loop-rest.invariant.at next c.take_step.new.rest (subst (StepsSo s now next c.args.span.now c.loop-rest.rest c.take_step.new.rest) again c.in_ok-take_step.ensures.steps)
          (order_drop c.loop-rest.told c.args.watches.now c.requires.order) (look_is words c.take_step.new.process c.args.watches.now c.loop-rest.told c.look.result c.look.ensures.seen ∙ c.if-not-look.false));
      ready = c.in_ok-take_step.ensures.ready again;
      within = c.look.ensures.within;
    }

pub returns-in-None-clause-judged : goal.returns-in-None-clause-judged
returns-in-None-clause-judged c =
    let s = c.args.server.now in
    let words = server_words s in
    let now = process_of words c.loop-rest.process in
    let next = process_of words c.take_step.new.process in
    other_lines s (process_of words c.args.process.now) now c.args.span.now c.loop-rest.rest (drop c.args.told.now c.args.watches.now) (drop c.loop-rest.told c.args.watches.now) c.loop-rest.invariant.at c.args.wanted c.loop-rest-test.true
    (subst (StepsSo s now next c.args.span.now c.loop-rest.rest c.take_step.new.rest) c.in-None.is c.in_ok-take_step.ensures.steps)

pub returns-in-Some-Ended-clause-judged : goal.returns-in-Some-Ended-clause-judged
returns-in-Some-Ended-clause-judged c =
    let s = c.args.server.now in
    let words = server_words s in
    let now = process_of words c.loop-rest.process in
    let next = process_of words c.take_step.new.process in
    ended_so s (process_of words c.args.process.now) now c.args.span.now c.loop-rest.rest (drop c.args.told.now c.args.watches.now) (drop c.loop-rest.told c.args.watches.now) c.loop-rest.invariant.at next c.take_step.new.rest
    (Ended c.in-Some-Ended.fin) (subst (StepsSo s now next c.args.span.now c.loop-rest.rest c.take_step.new.rest) (c.in-Some-Ended.is ∙ ap Some c.in-Some-Ended.field-0-is) c.in_ok-take_step.ensures.steps) (ended_again c.in-Some-Ended.fin)
    c.args.wanted c.is_whole.result c.is_whole.ensures.0 c.is_whole.ensures.1

pub returns-then-not-look-clause-judged : goal.returns-then-not-look-clause-judged
returns-then-not-look-clause-judged c =
    let s = c.args.server.now in
    let words = server_words s in
    let p = process_of words c.args.process.now in
    let now = process_of words c.loop-rest.process in
    let next = process_of words c.take_step.new.process in
    let all = drop c.args.told.now c.args.watches.now in
    let between = drop c.loop-rest.told c.args.watches.now in
    let again = c.in-Some-Again.is ∙ ap Some c.in-Some-Again.field-0-is in
    one_unseen s p now c.args.span.now c.loop-rest.rest all between c.loop-rest.invariant.at next c.take_step.new.rest c.args.wanted (subst (StepsSo s now next c.args.span.now c.loop-rest.rest c.take_step.new.rest) again c.in_ok-take_step.ensures.steps)
    (order_drop c.loop-rest.told c.args.watches.now c.requires.order) (look_is words c.take_step.new.process c.args.watches.now c.loop-rest.told c.look.result c.look.ensures.seen ∙ c.if-not-look.true)

pub returns-clause-judged : goal.returns-clause-judged
returns-clause-judged c =
    let words = server_words c.args.server.now in
    over_so c.args.server.now (process_of words c.args.process.now) (process_of words c.loop-rest.process) c.args.span.now c.loop-rest.rest (drop c.args.told.now c.args.watches.now) (drop c.loop-rest.told c.args.watches.now)
    c.loop-rest.invariant.at c.args.wanted c.is_whole-2.result (omega (arith, c.loop-rest-test.false)) c.is_whole-2.ensures.0 c.is_whole-2.ensures.1

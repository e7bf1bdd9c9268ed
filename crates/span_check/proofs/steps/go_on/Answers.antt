-- The turn, and those that were counted as like it.
use Rattle.machine_core.specs.View.{server_words}
use Rattle.span_check.proofs.GoingOn.{goes_by}
use Rattle.span_check.proofs.Readiness.{ready_more}
use Rattle.span_check.proofs.steps.go_on.Goals as goal

pub returns-clause-goes : goal.returns-clause-goes
returns-clause-goes c =
    goes_by c.args.server.now (server_words c.args.server.now) c.args.process.now c.take_turn.new.process c.count_repeated-more.new.process c.take_turn.new.made c.in_ok-end.end c.count_repeated-more.result c.in_ok-before.before
    c.in_ok-end.ensures.gives c.in_ok-before.ensures c.count_repeated-more.ensures.counted c.is_repeated-repeats.result c.is_repeated-repeats.ensures.goes c.is_repeated-repeats.ensures.silent c.is_repeated-repeats.ensures.same
    c.count_repeated-more.ensures.none c.count_repeated-more.ensures.limit

pub returns-clause-ready : goal.returns-clause-ready
returns-clause-ready c =
    ready_more c.args.server.now c.args.process.now c.take_turn.new.process c.count_repeated-more.new.process c.take_turn.new.made c.in_ok-end.end c.count_repeated-more.result
    c.in_ok-end.ensures.gives c.count_repeated-more.ensures.counted c.in_ok-end.ensures.ready

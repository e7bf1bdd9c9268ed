-- With an end the last span is to end the process, without one none is.
use Rattle.std.proofs.Common.{IfOk, sym, subst, drop}
use Rattle.machine_core.specs.Process.{process_of}
use Rattle.machine_core.specs.View.{server_words}
use Rattle.span_check.specs.Sweeps.{AreJudgedSo}
use Rattle.span_check.proofs.spans.take_all.Goals as goal

pub returns-in-Some-clause-judged : goal.returns-in-Some-clause-judged
returns-in-Some-clause-judged c =
    let words = server_words c.args.server.now in
    subst
    (λ f. IfOk c.take_end.result (AreJudgedSo c.args.server.now c.args.spans.now f (process_of words c.args.process.now) (process_of words c.take_end.new.process) (drop c.args.told.now c.args.watches.now) (drop c.take_end.new.told c.args.watches.now)))
    (sym c.in-Some.is) c.take_end.ensures.judged

pub returns-in-None-clause-judged : goal.returns-in-None-clause-judged
returns-in-None-clause-judged c =
    let words = server_words c.args.server.now in
    subst
    (λ f. IfOk c.take_going.result (AreJudgedSo c.args.server.now c.args.spans.now f (process_of words c.args.process.now) (process_of words c.take_going.new.process) (drop c.args.told.now c.args.watches.now) (drop c.take_going.new.told c.args.watches.now)))
    (sym c.in-None.is) c.take_going.ensures.judged

-- The command that is counted is the trace.
use Rattle.std.proofs.Common.{ap}
use Rattle.write_permit.proofs.EndBooks.{settle_left, trace_there}
use Rattle.write_permit.proofs.operations.settle.Goals as goal

pub after_next-after-requires-clause-next : goal.after_next-after-requires-clause-next
after_next-after-requires-clause-next c = trace_there c.args.book.now c.requires.book c.args.who c.args.generation c.requires.tracing

pub returns-clause-ok : goal.returns-clause-ok
returns-clause-ok c =
    let s = settle_left c.args.book.now c.requires.book c.args.who c.args.generation c.requires.tracing c.set_free.new.book c.after_next-after.result c.after_next-after.ensures.counted c.set_free.ensures.state (ap (λ ms. ms.instances) c.set_free.ensures.table) in
    s.ok

pub returns-clause-state : goal.returns-clause-state
returns-clause-state c =
    let s = settle_left c.args.book.now c.requires.book c.args.who c.args.generation c.requires.tracing c.set_free.new.book c.after_next-after.result c.after_next-after.ensures.counted c.set_free.ensures.state (ap (λ ms. ms.instances) c.set_free.ensures.table) in
    s.state

pub returns-clause-book : goal.returns-clause-book
returns-clause-book c =
    let s = settle_left c.args.book.now c.requires.book c.args.who c.args.generation c.requires.tracing c.set_free.new.book c.after_next-after.result c.after_next-after.ensures.counted c.set_free.ensures.state (ap (λ ms. ms.instances) c.set_free.ensures.table) in
    s.book

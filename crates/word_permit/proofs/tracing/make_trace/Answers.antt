-- The table follows the newest entry over the server that made the change.
use Rattle.std.proofs.Common.{ap, subst}
use Rattle.server_core.specs.CommandTable.{Outcome}
use Rattle.write_permit.specs.Agreement.{CanFollowNewest, newest_of}
use Rattle.word_permit.proofs.Switched.{trace_made}
use Rattle.word_permit.proofs.tracing.make_trace.Goals as goal

pub follow_newest-requires : goal.follow_newest-requires
follow_newest-requires c = subst (λ s. CanFollowNewest c.args.book.now.modules s (newest_of c.args.book.now.journal)) (ap (λ (o : Outcome). o.state) c.make.ensures.value) c.requires.can

pub returns : goal.returns
returns c =
    trace_made c.args.who c.args.generation c.args.change c.args.book.now c.make.new.self c.follow_newest.new.table c.make.result c.set_tracing.new.book c.make.ensures.value c.make.ensures.sound c.follow_newest.ensures c.set_tracing.ensures.state c.set_tracing.ensures.table

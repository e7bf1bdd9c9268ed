-- A change that is not one of what is traced goes by stages.
use Rattle.word_permit.proofs.Followed.{staged_left}
use Rattle.word_permit.proofs.operations.go_on_waiting.Goals as goal

pub go_on_traced-requires-clause-traces : goal.go_on_traced-requires-clause-traces
go_on_traced-requires-clause-traces g c = c.changes_trace.ensures.trace c.if-changes_trace.true

pub go_on_decided-requires-clause-staged : goal.go_on_decided-requires-clause-staged
go_on_decided-requires-clause-staged g c = staged_left c.args.waiting.decision.change c.requires.staged (c.changes_trace.ensures.other c.if-changes_trace.false)

-- The loader's command begins or waits, or its trace goes on behind its publication; a purge is no command over words.
use Rattle.std.proofs.Common.{sym, ap, subst, ◌∙◌}
use Rattle.std.proofs.lemmas.Option.{none-some, same_Some}
use Rattle.write_permit.specs.Book.{HoldsJust, shown}
use Rattle.write_permit.specs.Permit.{holder_of}
use Rattle.write_permit.proofs.EndBooks.{held_by, tracing_by}
use Rattle.word_permit.proofs.Followed.{purging_apart}
use Rattle.word_permit.proofs.Switched.{settles_answer}
use Rattle.word_permit.proofs.operations.go_on.Goals as goal

pub unreachable-requires : goal.unreachable-requires
unreachable-requires g c = none-some c.args.who (sym (ap holder_of c.in-Free.is) ∙ c.requires.holds)

pub unreachable-requires-in-Purging : goal.unreachable-requires-in-Purging
unreachable-requires-in-Purging g c =
    purging_apart (shown c.args.book.now.plain) c.in-Purging.loader c.args.who c.in-Purging.«module» (subst (HoldsJust (shown c.args.book.now.plain)) c.in-Purging.is c.requires.book.has.book.permit.holds)
    (same_Some c.in-Purging.loader c.args.who (sym (ap holder_of c.in-Purging.is) ∙ c.requires.holds)) c.requires.goes

pub go_on_held-requires-clause-holds : goal.go_on_held-requires-clause-holds
go_on_held-requires-clause-holds g c = held_by c.args.book.now.plain.holder c.in-Held.field-0 c.args.who c.in-Held.is c.requires.holds

pub settle_traced-requires-clause-traces : goal.settle_traced-requires-clause-traces
settle_traced-requires-clause-traces g c = tracing_by c.args.book.now.plain.holder c.in-Tracing.loader c.args.who c.in-Tracing.generation c.in-Tracing.is c.requires.holds

pub returns-in-Tracing-clause-ok : goal.returns-in-Tracing-clause-ok
returns-in-Tracing-clause-ok g c = settles_answer c.args.who c.args.book.now c.settle_traced.new.book c.settle_traced.result c.settle_traced.ensures.none c.settle_traced.ensures.answers

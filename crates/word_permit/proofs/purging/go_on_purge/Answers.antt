-- The loader that has the permission begins, or its old code is doomed.
use Rattle.std.proofs.Common.{is_some, sym, ap, subst, ◌∙◌}
use Rattle.std.proofs.lemmas.Bool.{false≢true}
use Rattle.std.proofs.lemmas.Option.{none-some, same_Some}
use Rattle.script_core.specs.declared.script.ScriptCmd.TheVariants.{Purge}
use Rattle.write_permit.specs.Book.{HoldsJust, shown}
use Rattle.write_permit.specs.Permit.{holder_of}
use Rattle.write_permit.proofs.EndBooks.{held_by, purging_by, second_code}
use Rattle.write_permit.proofs.Ends.{purges_code}
use Rattle.word_permit.proofs.PurgeCommands.{tracing_apart}
use Rattle.word_permit.proofs.purging.go_on_purge.Goals as goal

pub unreachable-requires : goal.unreachable-requires
unreachable-requires g c = none-some c.args.who (sym (ap holder_of c.in-Free.is) ∙ c.requires.holds)

pub unreachable-requires-in_default : goal.unreachable-requires-in_default
unreachable-requires-in_default g c = false≢true (ap is_some c.in_default.ensures ∙ second_code c.args.book.now.plain c.in-Purging.loader c.in-Purging.«module» c.requires.book.has.book c.in-Purging.is)

pub unreachable-requires-in-Tracing : goal.unreachable-requires-in-Tracing
unreachable-requires-in-Tracing g c =
    tracing_apart (shown c.args.book.now.plain) c.in-Tracing.loader c.in-Tracing.generation c.args.who c.args.purged (subst (HoldsJust (shown c.args.book.now.plain)) c.in-Tracing.is c.requires.book.has.book.permit.holds)
    (same_Some c.in-Tracing.loader c.args.who (sym (ap holder_of c.in-Tracing.is) ∙ c.requires.holds)) c.requires.next

pub begin_purge-requires-clause-holds : goal.begin_purge-requires-clause-holds
begin_purge-requires-clause-holds g c = held_by c.args.book.now.plain.holder c.in-Held.field-0 c.args.who c.in-Held.is c.requires.holds

pub close_purge-requires-clause-holds : goal.close_purge-requires-clause-holds
close_purge-requires-clause-holds g c =
    purging_by c.args.book.now.plain.server c.args.book.now.plain.holder c.in-Purging.loader c.args.who c.in-Purging.«module» c.in-Some.code c.in-Purging.is c.requires.holds (sym c.in-Some.ensures)

pub close_purge-requires-clause-code : goal.close_purge-requires-clause-code
close_purge-requires-clause-code g c = let e = purges_code c.args.book.now.plain.server (Purge c.in-Purging.«module») c.in-Some.code (sym c.in-Some.ensures) in e.old

-- The loader's next command needs the permission.
use Rattle.std.proofs.Common.{◌≡◌, true, IsSomeAnd, sym, subst}
use Rattle.write_permit.specs.Book.{shown}
use Rattle.write_permit.specs.Permit.{needs_permission}
use Rattle.word_permit.proofs.PurgeCommands.{needs_next, none_purged, some_purged}
use Rattle.word_permit.proofs.purging.purged_next.Goals as goal

pub unreachable-requires : goal.unreachable-requires
unreachable-requires c = subst (λ o. IsSomeAnd o (λ command. needs_permission command ≡ true)) (sym c.in_default.ensures.next) (needs_next (shown c.args.book.now) c.args.book.now.holder c.args.who c.requires.book.permit.holds c.requires.holds)

pub returns-clause-some : goal.returns-clause-some
returns-clause-some c = some_purged _ c.in-Some.command.now c.purged_by.result (sym c.in-Some.ensures.next) c.purged_by.ensures

pub returns-clause-none : goal.returns-clause-none
returns-clause-none c =
    none_purged _ c.in-Some.command.now c.purged_by.result (sym c.in-Some.ensures.next) (needs_next (shown c.args.book.now) c.args.book.now.holder c.args.who c.requires.book.permit.holds c.requires.holds) c.purged_by.ensures

-- The next command is made over the words, so it is made by one command of the server, for which the table has a case.
use Rattle.std.proofs.Common.{[], IsSomeAnd, sym, subst}
use Rattle.write_permit.specs.Book.{shown}
use Rattle.write_permit.proofs.EndBooks.{end_can, open_ends}
use Rattle.word_permit.specs.Waiting.{GoesOverWords}
use Rattle.word_permit.proofs.Followed.{decided_all, goes_next}
use Rattle.word_permit.proofs.Kept.{purges_none}
use Rattle.word_permit.proofs.operations.decide_next.Goals as goal

pub unreachable-requires : goal.unreachable-requires
unreachable-requires c = subst (λ o. IsSomeAnd o GoesOverWords) (sym c.in_default.ensures.next) c.requires.goes

pub decide-requires-clause-put : goal.decide-requires-clause-put
decide-requires-clause-put c =
    let goes = goes_next _ c.in-Some.command.now (sym c.in-Some.ensures.next) c.requires.goes in
    let cmd = c.in_ok-cmd.ensures c.args.book.now.plain.server in
    let e = end_can c.args.book.now.plain c.requires.book c.args.who c.in_ok-cmd.cmd (open_ends c.args.book.now.plain c.args.who c.in-Some.command.now [] c.in_ok-cmd.cmd c.requires.holds (sym c.in-Some.ensures.next) (purges_none c.args.book.now.plain.server c.in-Some.command.now goes) cmd) in
    e.of_text

pub decide-requires-clause-enabled : goal.decide-requires-clause-enabled
decide-requires-clause-enabled c =
    let goes = goes_next _ c.in-Some.command.now (sym c.in-Some.ensures.next) c.requires.goes in
    let cmd = c.in_ok-cmd.ensures c.args.book.now.plain.server in
    let e = end_can c.args.book.now.plain c.requires.book c.args.who c.in_ok-cmd.cmd (open_ends c.args.book.now.plain c.args.who c.in-Some.command.now [] c.in_ok-cmd.cmd c.requires.holds (sym c.in-Some.ensures.next) (purges_none c.args.book.now.plain.server c.in-Some.command.now goes) cmd) in
    e.enabled

pub returns : goal.returns
returns c =
    let goes = goes_next _ c.in-Some.command.now (sym c.in-Some.ensures.next) c.requires.goes in
    let cmd = c.in_ok-cmd.ensures c.args.book.now.plain.server in
    decided_all (shown c.args.book.now.plain) c.args.who c.in-Some.command.now c.in_ok-cmd.cmd c.decide.result (sym c.in-Some.ensures.next) goes cmd c.decide.ensures.fits c.decide.ensures.given c.decide.ensures.answer c.decide.ensures.cmd

-- A change that leaves the server's state ends the command, and no word is stored for it.
use Rattle.std.proofs.Common.{refl}
use Rattle.word_permit.specs.Books.{EndsPlain, HasTakenBack}
use Rattle.word_permit.proofs.Calls.{kept_shown}
use Rattle.word_permit.proofs.Followed.{after_any, ended_book, refused_book}
use Rattle.word_permit.proofs.Resting.{held_no_trace}
use Rattle.word_permit.proofs.operations.follow.Goals as goal

pub go_on_decided-requires-clause-staged : goal.go_on_decided-requires-clause-staged
go_on_decided-requires-clause-staged g c = c.in-Staged.ensures

pub go_on_decided-requires-clause-stands : goal.go_on_decided-requires-clause-stands
go_on_decided-requires-clause-stands g c = c.requires.rest

pub end_unchanged-requires-clause-book : goal.end_unchanged-requires-clause-book
end_unchanged-requires-clause-book g c = c.requires.tables.book

pub end_unchanged-requires-clause-unchanged : goal.end_unchanged-requires-clause-unchanged
end_unchanged-requires-clause-unchanged g c = c.in-Unchanged.ensures

pub returns-in_ok-applied-in-Unchanged-clause-book : goal.returns-in_ok-applied-in-Unchanged-clause-book
returns-in_ok-applied-in-Unchanged-clause-book g c =
    let e : EndsPlain c.args.who c.args.book.now.plain c.end_unchanged.new.book c.in_ok-applied-in-Unchanged.applied = c.in_ok-applied-in-Unchanged.ensures.ok in
    ended_book g.K.Naming.names _ _ c.args.book.now c.end_unchanged.new.book c.requires.tables c.requires.rest c.requires.none c.requires.look c.end_unchanged.ensures.book e.script c.in_ok-applied-in-Unchanged.ensures.free c.in_ok-applied-in-Unchanged.ensures.server c.in_ok-applied-in-Unchanged.ensures.journal

pub returns-in_err-applied-in-Unchanged-clause-err : goal.returns-in_err-applied-in-Unchanged-clause-err
returns-in_err-applied-in-Unchanged-clause-err g c =
    let taken : HasTakenBack c.args.book.now (record (c.args.book.now) { plain = c.end_unchanged.new.book }) = record { same = c.in_err-applied-in-Unchanged.ensures.err; published = refl; none = c.requires.none } in
    after_any c.from_residual.result taken

pub returns-in_err-applied-in-Unchanged-clause-book : goal.returns-in_err-applied-in-Unchanged-clause-book
returns-in_err-applied-in-Unchanged-clause-book g c =
    let kept = kept_shown c.args.book.now c.end_unchanged.new.book c.end_unchanged.ensures.book c.in_err-applied-in-Unchanged.ensures.err in
    kept.book g.K.Naming.names _ _ (refused_book g.K.Naming.names _ _ c.args.book.now c.requires.tables (held_no_trace c.args.book.now.plain.holder c.args.who c.requires.holds) c.requires.rest c.requires.none c.requires.look)

pub go_on_traced-requires-clause-traces : goal.go_on_traced-requires-clause-traces
go_on_traced-requires-clause-traces g c = c.in-Traced.ensures

pub go_on_traced-requires-clause-stands : goal.go_on_traced-requires-clause-stands
go_on_traced-requires-clause-stands g c = c.requires.rest

pub returns-in-Unasked-clause-err : goal.returns-in-Unasked-clause-err
returns-in-Unasked-clause-err g c = record { same = refl; published = refl; none = c.requires.none }

pub returns-in-Unasked-clause-book : goal.returns-in-Unasked-clause-book
returns-in-Unasked-clause-book g c = refused_book g.K.Naming.names _ _ c.args.book.now c.requires.tables (held_no_trace c.args.book.now.plain.holder c.args.who c.requires.holds) c.requires.rest c.requires.none c.requires.look

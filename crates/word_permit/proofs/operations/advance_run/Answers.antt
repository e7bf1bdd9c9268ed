-- The permit is over the words of its run, before the step and after it.
use Rattle.std.proofs.Common.{refl}
use Rattle.std.proofs.lemmas.Result.{IfOk-weaker}
use Rattle.word_permit.proofs.Grown.{grown_any}
use Rattle.word_permit.proofs.PurgeCommands.{goes_apart, purges_next}
use Rattle.word_permit.proofs.Runs.{book_of_run, of_run, over_words}
use Rattle.word_permit.proofs.operations.advance_run.Goals as goal

pub purged_next-requires-clause-book : goal.purged_next-requires-clause-book
purged_next-requires-clause-book g c = book_of_run g.K.Naming.names g.N.RunName.run c.args.book.now c.requires.kept

pub advance_purge-requires-clause-book : goal.advance_purge-requires-clause-book
advance_purge-requires-clause-book g c = over_words g.K.Naming.names g.N.RunName.run _ _ c.args.book.now c.requires.words c.requires.kept

pub advance_purge-requires-clause-next : goal.advance_purge-requires-clause-next
advance_purge-requires-clause-next g c = c.in-Some.ensures.some

pub advance-requires-clause-book : goal.advance-requires-clause-book
advance-requires-clause-book g c = over_words g.K.Naming.names g.N.RunName.run _ _ c.args.book.now c.requires.words c.requires.kept

pub advance-requires-clause-goes : goal.advance-requires-clause-goes
advance-requires-clause-goes g c = c.in-None.ensures.none refl

pub returns-in-Some-clause-ok : goal.returns-in-Some-clause-ok
returns-in-Some-clause-ok g c =
    IfOk-weaker c.advance_purge.result _ _ (λ step h. record { goes = λ goes. absurd (goes_apart _ goes (purges_next _ c.in-Some.purged c.in-Some.ensures.some)); purges = λ purges. h }) c.advance_purge.ensures.ok

pub returns-in-Some-clause-grown : goal.returns-in-Some-clause-grown
returns-in-Some-clause-grown g c = c.advance_purge.ensures.grown

pub returns-in-Some-clause-kept : goal.returns-in-Some-clause-kept
returns-in-Some-clause-kept g c =
    of_run g.K.Naming.names g.N.RunName.run _ _ c.args.book.now c.advance_purge.new.book c.requires.words c.requires.kept c.advance_purge.ensures.grown.script c.advance_purge.ensures.book

pub returns-in-None-clause-ok : goal.returns-in-None-clause-ok
returns-in-None-clause-ok g c =
    IfOk-weaker c.advance.result _ _ (λ step h. record { goes = λ goes. h; purges = λ purges. absurd (goes_apart _ (c.in-None.ensures.none refl) purges) }) c.advance.ensures.ok

pub returns-in-None-clause-grown : goal.returns-in-None-clause-grown
returns-in-None-clause-grown g c = grown_any c.args.who c.args.book.now c.advance.new.book c.advance.result c.advance.ensures.ok c.advance.ensures.err

pub returns-in-None-clause-kept : goal.returns-in-None-clause-kept
returns-in-None-clause-kept g c =
    let grown = grown_any c.args.who c.args.book.now c.advance.new.book c.advance.result c.advance.ensures.ok c.advance.ensures.err in
    of_run g.K.Naming.names g.N.RunName.run _ _ c.args.book.now c.advance.new.book c.requires.words c.requires.kept grown.script c.advance.ensures.book

-- The entry ends the loader's next command, and the table has a case for it.
use Rattle.std.proofs.Common.{ap}
use Rattle.module_table.specs.Modules.{Modules}
use Rattle.write_permit.proofs.EndBooks.{end_can, end_made, next_there}
use Rattle.word_permit.proofs.dropping.end_with.Goals as goal

pub after_next-after-requires-clause-next : goal.after_next-after-requires-clause-next
after_next-after-requires-clause-next c = next_there c.args.book.now c.requires.book c.args.who c.args.cmd c.requires.ends

pub make-requires-clause-put : goal.make-requires-clause-put
make-requires-clause-put c = let e = end_can c.args.book.now c.requires.book c.args.who c.args.cmd c.requires.ends in e.of_text

pub make-requires-clause-enabled : goal.make-requires-clause-enabled
make-requires-clause-enabled c = let e = end_can c.args.book.now c.requires.book c.args.who c.args.cmd c.requires.ends in e.enabled

pub returns-clause-ok : goal.returns-clause-ok
returns-clause-ok c =
    let e =
    end_made c.args.book.now c.requires.book c.args.who c.args.cmd c.requires.ends c.make.new.book c.set_free.new.book c.in_ok-applied.applied c.after_next-after.result c.requires.holds c.after_next-after.ensures.counted
    c.in_ok-applied.ensures.ok c.set_free.ensures.state (ap (λ (x : Modules). x.instances) c.set_free.ensures.table) c.make.ensures.sound c.make.ensures.agrees in
    e.ok

pub returns-clause-book : goal.returns-clause-book
returns-clause-book c =
    let e =
    end_made c.args.book.now c.requires.book c.args.who c.args.cmd c.requires.ends c.make.new.book c.set_free.new.book c.in_ok-applied.applied c.after_next-after.result c.requires.holds c.after_next-after.ensures.counted
    c.in_ok-applied.ensures.ok c.set_free.ensures.state (ap (λ (x : Modules). x.instances) c.set_free.ensures.table) c.make.ensures.sound c.make.ensures.agrees in
    e.book

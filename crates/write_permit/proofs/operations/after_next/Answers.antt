-- The loader that is read is the one whose command is next.
use Rattle.std.proofs.Common.{sym, arith}
use Rattle.std.proofs.lemmas.Option.{slice_get_within}
use Rattle.write_permit.specs.Book.{shown}
use Rattle.write_permit.proofs.BookKeeps.{next_process}
use Rattle.write_permit.proofs.EndBooks.{loader_read, next_counted}
use Rattle.write_permit.proofs.Entered.{many_loaders}
use Rattle.write_permit.proofs.operations.after_next.Goals as goal

pub next_command-requires : goal.next_command-requires
next_command-requires c = many_loaders (shown c.args.book.now) c.requires.book.permit

pub count-requires-clause-next : goal.count-requires-clause-next
count-requires-clause-next c =
    let found = loader_read c.args.book.now c.args.who c.in-Some.command.now c.index.result.now c.requires.book (sym c.in-Some.ensures.next) c.index.ensures in
    let np = next_process (shown c.args.book.now) c.args.who c.index.result.now c.requires.book.permit found in
    omega (arith, np.few)

pub returns-clause-counted : goal.returns-clause-counted
returns-clause-counted c =
    let found = loader_read c.args.book.now c.args.who c.in-Some.command.now c.index.result.now c.requires.book (sym c.in-Some.ensures.next) c.index.ensures in
    next_counted c.args.book.now c.args.who c.in-Some.command.now c.index.result.now c.count.new.loader c.is_spawn.result (sym c.in-Some.ensures.next) found c.is_spawn.ensures c.count.ensures

pub returns-clause-there : goal.returns-clause-there
returns-clause-there c =
    let found = loader_read c.args.book.now c.args.who c.in-Some.command.now c.index.result.now c.requires.book (sym c.in-Some.ensures.next) c.index.ensures in
    slice_get_within c.args.book.now.loaders.items c.args.who c.index.result.now found

-- The loader that is counted is the one whose command was made; its process has the number of the spawn line.
use Rattle.std.proofs.Common.{rules, ◌≡◌, false, IsSome, IsSomeAnd, sym, ap, subst, ◌∙◌, refl, arith}
use Rattle.server_core.specs.CommandTable.{IsOfText, apply_of}
use Rattle.write_permit.specs.Book.{shown}
use Rattle.write_permit.specs.Permit.{made_of, needs_permission}
use Rattle.run_log.specs.declared.logs.Who.TheVariants.{Loader}
use Rattle.write_permit.proofs.BookKeeps.{at_once_enabled, at_once_is, at_once_text, book_at_once, counted_by, loader_found, loader_stays, next_process, spawned_is}
use Rattle.write_permit.proofs.Entered.{many_loaders}
use Rattle.write_permit.proofs.steps.make_at_once.Goals as goal

pub next_command-requires : goal.next_command-requires
next_command-requires c = many_loaders (shown c.args.book.now) c.requires.book.permit

-- it needs no permission
pub make-requires-clause-put : goal.make-requires-clause-put
make-requires-clause-put c =
    let free = subst (λ o. IsSomeAnd o (λ command. needs_permission command ≡ false)) (sym c.in-Some.ensures.next) c.requires.next in
    subst IsOfText (sym (c.in_ok-cmd.ensures c.args.book.now.server)) (at_once_text c.args.book.now.server c.in-Some.command.now free)

pub make-requires-clause-enabled : goal.make-requires-clause-enabled
make-requires-clause-enabled c =
    let free = subst (λ o. IsSomeAnd o (λ command. needs_permission command ≡ false)) (sym c.in-Some.ensures.next) c.requires.next in
    subst (λ cmd. IsSome (apply_of c.args.book.now.script.modules c.args.book.now.server cmd)) (sym (c.in_ok-cmd.ensures c.args.book.now.server))
    (at_once_enabled c.args.book.now.script.modules c.args.book.now.server c.in-Some.command.now free)

pub index_mut-loader-requires : goal.index_mut-loader-requires
index_mut-loader-requires c =
    let within = loader_stays c.args.book.now c.make.new.book c.args.who c.in-Some.command.now c.in_ok-cmd.cmd c.in_ok-applied.applied c.requires.book (sym c.in-Some.ensures.next) c.in_ok-applied.ensures.ok in
    search rules

pub overflow_cast-loader : goal.overflow_cast-loader
overflow_cast-loader c =
    let found = loader_found c.args.book.now c.make.new.book c.args.who c.in-Some.command.now c.in_ok-cmd.cmd c.in_ok-applied.applied c.index_mut-loader.result.now c.requires.book (sym c.in-Some.ensures.next) c.in_ok-applied.ensures.ok c.index_mut-loader.ensures.value in
    let np = next_process (shown c.args.book.now) c.args.who c.index_mut-loader.result.now c.requires.book.permit found in
    omega (arith, np.few)

pub count-requires-clause-done : goal.count-requires-clause-done
count-requires-clause-done c =
    let found = loader_found c.args.book.now c.make.new.book c.args.who c.in-Some.command.now c.in_ok-cmd.cmd c.in_ok-applied.applied c.index_mut-loader.result.now c.requires.book (sym c.in-Some.ensures.next) c.in_ok-applied.ensures.ok c.index_mut-loader.ensures.value in
    let np = next_process (shown c.args.book.now) c.args.who c.index_mut-loader.result.now c.requires.book.permit found in
    let room = c.in-Some.ensures.room refl in
    omega (arith, np.done, room)

pub count-requires-clause-next : goal.count-requires-clause-next
count-requires-clause-next c =
    let found = loader_found c.args.book.now c.make.new.book c.args.who c.in-Some.command.now c.in_ok-cmd.cmd c.in_ok-applied.applied c.index_mut-loader.result.now c.requires.book (sym c.in-Some.ensures.next) c.in_ok-applied.ensures.ok c.index_mut-loader.ensures.value in
    let np = next_process (shown c.args.book.now) c.args.who c.index_mut-loader.result.now c.requires.book.permit found in
    omega (arith, np.few)

pub returns-clause-ok : goal.returns-clause-ok
returns-clause-ok c =
    let found = loader_found c.args.book.now c.make.new.book c.args.who c.in-Some.command.now c.in_ok-cmd.cmd c.in_ok-applied.applied c.index_mut-loader.result.now c.requires.book (sym c.in-Some.ensures.next) c.in_ok-applied.ensures.ok c.index_mut-loader.ensures.value in
    let counted = counted_by c.args.book.now c.make.new.book c.args.who c.in-Some.command.now c.in_ok-cmd.cmd c.in_ok-applied.applied c.index_mut-loader.result.now c.count.new.loader c.is_spawn-spawns.result c.in_ok-applied.ensures.ok found c.count.ensures c.is_spawn-spawns.ensures in
    let cmd = c.in_ok-cmd.ensures c.args.book.now.server in
    at_once_is (shown c.args.book.now) (shown c.make.new.book) _ c.args.who c.in-Some.command.now c.in_ok-applied.applied (sym c.in-Some.ensures.next)
    (ap (made_of (shown c.args.book.now) (Loader c.args.who)) (sym cmd) ∙ c.in_ok-applied.ensures.ok)
    (ap (λ ls. record (shown c.make.new.book) { loaders = ls }) counted)

pub returns-clause-spawned : goal.returns-clause-spawned
returns-clause-spawned c =
    let found = loader_found c.args.book.now c.make.new.book c.args.who c.in-Some.command.now c.in_ok-cmd.cmd c.in_ok-applied.applied c.index_mut-loader.result.now c.requires.book (sym c.in-Some.ensures.next) c.in_ok-applied.ensures.ok c.index_mut-loader.ensures.value in
    let np = next_process (shown c.args.book.now) c.args.who c.index_mut-loader.result.now c.requires.book.permit found in
    c.spawned-spawned.ensures ∙ spawned_is (shown c.args.book.now) c.args.who c.in-Some.command.now c.is_spawn-spawns.result c.index_mut-loader.result.now.next_process (sym c.in-Some.ensures.next) np.number c.is_spawn-spawns.ensures

pub returns-clause-book : goal.returns-clause-book
returns-clause-book c =
    let found = loader_found c.args.book.now c.make.new.book c.args.who c.in-Some.command.now c.in_ok-cmd.cmd c.in_ok-applied.applied c.index_mut-loader.result.now c.requires.book (sym c.in-Some.ensures.next) c.in_ok-applied.ensures.ok c.index_mut-loader.ensures.value in
    let counted = counted_by c.args.book.now c.make.new.book c.args.who c.in-Some.command.now c.in_ok-cmd.cmd c.in_ok-applied.applied c.index_mut-loader.result.now c.count.new.loader c.is_spawn-spawns.result c.in_ok-applied.ensures.ok found c.count.ensures c.is_spawn-spawns.ensures in
    let cmd = c.in_ok-cmd.ensures c.args.book.now.server in
    let free = subst (λ o. IsSomeAnd o (λ command. needs_permission command ≡ false)) (sym c.in-Some.ensures.next) c.requires.next in
    book_at_once c.args.book.now _ (shown c.make.new.book) c.args.who c.in-Some.command.now c.in_ok-applied.applied c.requires.book (sym c.in-Some.ensures.next) free
    (ap (made_of (shown c.args.book.now) (Loader c.args.who)) (sym cmd) ∙ c.in_ok-applied.ensures.ok)
    (ap (λ ls. record (shown c.make.new.book) { loaders = ls }) counted) c.make.ensures.sound c.make.ensures.agrees

use Rattle.std.proofs.Common.{sym, ◌∙◌, arith}
use Rattle.std.proofs.lemmas.Option.{slice_get_within}
use Rattle.prgr_core.proofs.SoundWatchers.{held_count}
use Rattle.prgr_core.proofs.progress.watchers.watch_sub.Goals as goal

-- the watcher holds the count, so it is above 0
pub overflow_sub-lowered : goal.overflow_sub-lowered
overflow_sub-lowered c =
    let held = held_count c.args.progress.now c.requires c.args.number c.in-Some.watcher c.in-Some.ensures c.in-Some-numbered.delay (sym c.holds.ensures ∙ c.if-not-holds.false) in
    omega (arith, held, c.delay_count-lowered.ensures)

-- the watcher stands in the list
pub set-requires : goal.set-requires
set-requires c = slice_get_within c.args.progress.now.watchers c.args.number c.in-Some.watcher (sym c.in-Some.ensures)

use Rattle.std.proofs.Common.{arith, sym}
use Rattle.std.proofs.lemmas.Option.{slice_get_within}
use Rattle.prgr_core.proofs.SoundMembers.{loaded_in_range}
use Rattle.prgr_core.proofs.progress.members.report.Goals as goal

-- the counter that was loaded is in range
pub overflow_add-counter : goal.overflow_add-counter
overflow_add-counter c =
    let range = loaded_in_range c.args.progress.now c.requires c.args.number c.in-Some.member c.in-Some.ensures c.in-CounterAndRoot.counter c.in-CounterAndRoot.is in
    omega (arith, range)

-- the member stands in the list
pub set-requires : goal.set-requires
set-requires c = slice_get_within c.args.progress.now.members c.args.number c.in-Some.member (sym c.in-Some.ensures)

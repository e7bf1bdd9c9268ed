-- The new serial's place tells the last slot, and the others tell what they told.
use Rattle.std.proofs.Common.{ap, sym, ◌∙◌, slice_get, arith}
use Rattle.server_core.proofs.Gaps.{tell_pushed}
use Rattle.server_core.proofs.slots.put_behind.Goals as goal

pub returns-clause-places : goal.returns-clause-places
returns-clause-places c = λ slot serial there.
    tell_pushed c.args.slots.now.items c.args.places.now c.args.serial c.len.result c.requires.places c.requires.fresh c.requires.place (omega (arith, c.len.ensures)) slot serial (ap (λ xs. slice_get xs slot) (sym c.push_reserved.ensures.items) ∙ there)

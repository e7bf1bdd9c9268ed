use Rattle.std.proofs.Common.{refl, sym, subst, ◌∙◌}
use Rattle.std.proofs.lemmas.Iterator.Adapters.{YieldsList-from_vec}
use Rattle.std.proofs.lemmas.Iterator.Consumers.{YieldsList-end}
use Rattle.std.proofs.lemmas.List.{map-id}
use Rattle.word_run.specs.Finished.{AreParted}
use Rattle.word_run.proofs.Parting.{none_parted, parted_next}
use Rattle.word_run.proofs.parted.take_apart.Goals as goal

-- none yet
pub loop-seat-init : goal.loop-seat-init
loop-seat-init g c = none_parted _ _ _ _ refl c.new.ensures.items c.new-2.ensures.items c.new-3.ensures.items

-- one more
pub loop-seat-preserved : goal.loop-seat-preserved
loop-seat-preserved g c = parted_next _ _ _ _ _ _ _ _ c.loop-seat.invariant c.in_ok-part.ensures

-- all
pub returns : goal.returns
returns g c =
    let given = c.into_iter-seat-iterator.ensures.into_iter_gives in
    let all = YieldsList-end (YieldsList-from_vec {s = c.into_iter-seat-iterator.result} c.args.seats.items given.0 (given.1 ∙ c.args.seats.ok.0)) c.loop-seat.yielded c.loop-seat.seat-iterator c.loop-seat.yielded_by c.next.result c.next.new.self c.in-None.is c.next.ensures.steps in
    subst (λ first. AreParted first c.loop-seat.parted.members.items c.loop-seat.parted.takers.items c.loop-seat.parted.processes.items) (sym (map-id c.loop-seat.yielded) ∙ all.0) c.loop-seat.invariant

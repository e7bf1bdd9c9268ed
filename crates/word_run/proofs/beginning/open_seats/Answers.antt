use Rattle.std.proofs.Common.{◌≡◌, Some, length, drop, slice_get, subst, sym, ap, ◌∙◌, arith}
use Rattle.std.proofs.lemmas.Iterator.Adapters.{YieldsList-from_vec}
use Rattle.std.proofs.lemmas.Iterator.Consumers.{YieldsList-end, YieldsList-turn}
use Rattle.std.proofs.lemmas.List.{map-id}
use Rattle.word_run.specs.Beginning.{AreOpened}
use Rattle.word_run.proofs.Joined.{dropped_next, length_joined}
use Rattle.word_run.proofs.Stations.{none_opened, opened_next}
use Rattle.word_run.proofs.beginning.open_seats.Goals as goal

-- none yet
pub loop-member-init : goal.loop-member-init
loop-member-init g c = record { opened = none_opened _ _ _ c.new.ensures.items c.new-2.ensures.items c.new-3.ensures.items; left = c.into_iter-openings.ensures.rest }

-- there are few
pub open_seat-requires-clause-few : goal.open_seat-requires-clause-few
open_seat-requires-clause-few g c =
    let given = c.into_iter-member-iterator.ensures.into_iter_gives in
    let turn = YieldsList-turn (YieldsList-from_vec {s = c.into_iter-member-iterator.result} c.args.members.items given.0 (given.1 ∙ c.args.members.ok.0)) c.loop-member.yielded c.loop-member.member-iterator c.loop-member.yielded_by c.next.result c.next.new.self c.in-Some.member c.in-Some.is c.next.ensures.steps in
    omega (arith, turn.0, c.requires.few, c.loop-member.invariant.opened.seats_are)

-- the inbox is the next one
pub open_seat-requires-clause-picked : goal.open_seat-requires-clause-picked
open_seat-requires-clause-picked g c =
    c.requires.picked _ c.in-Some-next.opening
    (subst (λ n. slice_get c.args.openings.items n ≡ Some c.in-Some-next.opening) (sym c.loop-member.invariant.opened.seats_are)
    (dropped_next c.args.openings.items _ c.in-Some-next.opening (length c.loop-member.yielded) (sym c.loop-member.invariant.left ∙ c.in-Some-next.ensures.items)).0)

-- one more
pub loop-member-preserved : goal.loop-member-preserved
loop-member-preserved g c = record {
  opened = opened_next c.loop-member.yielded c.in-Some.member _ _ _ _ _ _ c.loop-member.invariant.opened c.in_ok-open_seat.ensures;
  left =
      (dropped_next c.args.openings.items _ c.in-Some-next.opening (length c.loop-member.yielded) (sym c.loop-member.invariant.left ∙ c.in-Some-next.ensures.items)).1
      ∙ ap (λ n. drop n c.args.openings.items) (length_joined c.loop-member.yielded c.in-Some.member);
}

-- all
pub returns : goal.returns
returns g c =
    let given = c.into_iter-member-iterator.ensures.into_iter_gives in
    let all = YieldsList-end (YieldsList-from_vec {s = c.into_iter-member-iterator.result} c.args.members.items given.0 (given.1 ∙ c.args.members.ok.0)) c.loop-member.yielded c.loop-member.member-iterator c.loop-member.yielded_by c.next.result c.next.new.self c.in-None.is c.next.ensures.steps in
    subst (λ first. AreOpened first c.loop-member.stations.inboxes.items c.loop-member.stations.posters.items c.loop-member.stations.seats.items) (sym (map-id c.loop-member.yielded) ∙ all.0) c.loop-member.invariant.opened

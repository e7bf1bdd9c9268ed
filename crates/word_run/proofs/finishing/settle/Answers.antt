use Rattle.std.proofs.Common.{length, sym, ◌∙◌, arith}
use Rattle.std.proofs.lemmas.Iterator.Adapters.{YieldsList-from_vec}
use Rattle.std.proofs.lemmas.Iterator.Consumers.{YieldsList-end, YieldsList-turn}
use Rattle.script_core.proofs.JoinedPlaces.{got}
use Rattle.word_run.proofs.Parting.{all_settled, all_taken, end_there, none_settled, settled_next, taker_there}
use Rattle.word_run.proofs.finishing.settle.Goals as goal

-- none yet
pub loop-inbox-init : goal.loop-inbox-init
loop-inbox-init g c = none_settled _ _ _ _ c.into_iter-posters.ensures.rest c.into_iter-takers.ensures.rest

-- both ends are those of the inbox
pub settle-left-requires-clause-poster : goal.settle-left-requires-clause-poster
settle-left-requires-clause-poster g c =
    let given = c.into_iter-inbox-iterator.ensures.into_iter_gives in
    let turn = YieldsList-turn (YieldsList-from_vec {s = c.into_iter-inbox-iterator.result} c.args.inboxes.items given.0 (given.1 ∙ c.args.inboxes.ok.0)) c.loop-inbox.yielded c.loop-inbox.inbox-iterator c.loop-inbox.yielded_by c.next.result c.next.new.self c.in-Some.inbox c.in-Some.is c.next.ensures.steps in
    c.requires.ends _ c.in-Some-next.poster (end_there _ _ _ _ _ _ _ c.in-Some-next.poster c.in-Some-next-2.taker c.loop-inbox.invariant c.in-Some-next.ensures.items c.in-Some-next-2.ensures.items)
    ∙ sym (c.requires.inboxes _ c.in-Some.inbox (got c.args.inboxes.items (length c.loop-inbox.yielded) c.in-Some.inbox turn.1 turn.0))

pub settle-left-requires-clause-taker : goal.settle-left-requires-clause-taker
settle-left-requires-clause-taker g c =
    let given = c.into_iter-inbox-iterator.ensures.into_iter_gives in
    let turn = YieldsList-turn (YieldsList-from_vec {s = c.into_iter-inbox-iterator.result} c.args.inboxes.items given.0 (given.1 ∙ c.args.inboxes.ok.0)) c.loop-inbox.yielded c.loop-inbox.inbox-iterator c.loop-inbox.yielded_by c.next.result c.next.new.self c.in-Some.inbox c.in-Some.is c.next.ensures.steps in
    c.requires.takers _ c.in-Some-next-2.taker (taker_there _ _ _ _ _ _ _ c.in-Some-next.poster c.in-Some-next-2.taker c.loop-inbox.invariant c.in-Some-next.ensures.items c.in-Some-next-2.ensures.items)
    ∙ sym (c.requires.inboxes _ c.in-Some.inbox (got c.args.inboxes.items (length c.loop-inbox.yielded) c.in-Some.inbox turn.1 turn.0))

-- nothing was left in one more
pub loop-inbox-preserved : goal.loop-inbox-preserved
loop-inbox-preserved g c =
    settled_next c.loop-inbox.yielded c.in-Some.inbox c.args.posters.items _ _ c.args.takers.items _ _ c.in-Some-next.poster c.in-Some-next-2.taker c.loop-inbox.invariant c.in-Some-next.ensures.items c.in-Some-next-2.ensures.items
    (all_taken _ _ c.settle-left.result c.if-left-ne0.false c.settle-left.ensures)

-- all that was posted was taken
pub returns : goal.returns
returns g c =
    let given = c.into_iter-inbox-iterator.ensures.into_iter_gives in
    let all = YieldsList-end (YieldsList-from_vec {s = c.into_iter-inbox-iterator.result} c.args.inboxes.items given.0 (given.1 ∙ c.args.inboxes.ok.0)) c.loop-inbox.yielded c.loop-inbox.inbox-iterator c.loop-inbox.yielded_by c.next.result c.next.new.self c.in-None.is c.next.ensures.steps in
    all_settled _ _ _ _ _ c.loop-inbox.invariant (omega (arith, all.1, c.requires.many))

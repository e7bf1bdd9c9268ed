use Rattle.std.proofs.Common.{length, sym, subst, ◌∙◌}
use Rattle.std.proofs.lemmas.Iterator.Adapters.{YieldsList-from_vec}
use Rattle.std.proofs.lemmas.Iterator.Consumers.{YieldsList-end, YieldsList-turn}
use Rattle.std.proofs.lemmas.List.{map-id}
use Rattle.script_core.proofs.JoinedPlaces.{got}
use Rattle.word_run.specs.Onlookers.{HaveLeft}
use Rattle.word_run.proofs.Watching.{left_next, none_left}
use Rattle.word_run.proofs.looking.take_rest.Goals as goal

-- none yet
pub loop-onlooker-init : goal.loop-onlooker-init
loop-onlooker-init g c = none_left _ _ _ _ _ c.new.ensures.items c.new-2.ensures

-- the next one may look
pub leave-requires-clause-observe : goal.leave-requires-clause-observe
leave-requires-clause-observe g c =
    let given = c.into_iter-onlooker-iterator.ensures.into_iter_gives in
    let turn = YieldsList-turn (YieldsList-from_vec {s = c.into_iter-onlooker-iterator.result} c.args.onlookers.items given.0 (given.1 ∙ c.args.onlookers.ok.0)) c.loop-onlooker.yielded c.loop-onlooker.onlooker-iterator c.loop-onlooker.yielded_by c.next.result c.next.new.self c.in-Some.onlooker c.in-Some.is c.next.ensures.steps in
    c.requires.observe (length c.loop-onlooker.yielded) c.in-Some.onlooker (got c.args.onlookers.items (length c.loop-onlooker.yielded) c.in-Some.onlooker turn.1 turn.0)

-- one more
pub loop-onlooker-preserved : goal.loop-onlooker-preserved
loop-onlooker-preserved g c = left_next _ _ _ _ _ _ _ _ _ c.loop-onlooker.invariant c.in_ok-leave.ensures

-- all
pub returns : goal.returns
returns g c =
    let given = c.into_iter-onlooker-iterator.ensures.into_iter_gives in
    let all = YieldsList-end (YieldsList-from_vec {s = c.into_iter-onlooker-iterator.result} c.args.onlookers.items given.0 (given.1 ∙ c.args.onlookers.ok.0)) c.loop-onlooker.yielded c.loop-onlooker.onlooker-iterator c.loop-onlooker.yielded_by c.next.result c.next.new.self c.in-None.is c.next.ensures.steps in
    subst (λ first. HaveLeft g.K.Naming.names c.args.functions.now c.args.shared.now.table.shared.table_id first c.loop-onlooker.watched.watchers.items c.loop-onlooker.watched.logs) (sym (map-id c.loop-onlooker.yielded) ∙ all.0) c.loop-onlooker.invariant

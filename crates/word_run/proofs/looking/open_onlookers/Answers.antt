use Rattle.std.proofs.Common.{refl, ◌∙◌}
use Rattle.std.proofs.lemmas.Option.{slice_get-get_or}
use Rattle.word_run.proofs.Watching.{all_waiting, begun_next, begun_some, none_begun}
use Rattle.word_run.proofs.looking.open_onlookers.Goals as goal

-- none yet
pub loop-count-init : goal.loop-count-init
loop-count-init c = none_begun _ _ _ _ _ c.new-onlookers.ensures.items c.into_iter-watchers.ensures.rest (c.into_iter-watchers.ensures.len ∙ c.args.watchers.ok.0)

-- a token is left
pub unreachable-requires : goal.unreachable-requires
unreachable-requires c = begun_some _ _ _ _ _ _ c.loop-count.invariant c.loop-count-test.true c.requires c.in_default.ensures.cases.0

-- one more
pub loop-count-preserved : goal.loop-count-preserved
loop-count-preserved c =
    begun_next _ _ _ _ _ _ c.loop-count.invariant _ c.in-Some.watcher _ _ _ _ (slice_get-get_or c.args.counts.now c.loop-count.count-index 0 c.loop-count-test.true) c.in-Some.ensures.items c.in-Some.ensures.cases.1
    (record { watcher_is = refl; left = refl; none = c.new.ensures }) c.in_ok-push.ensures.items

-- all
pub returns : goal.returns
returns c = all_waiting _ _ _ _ _ _ c.loop-count.invariant c.loop-count-test.false c.loop-count.auto.count-index-end

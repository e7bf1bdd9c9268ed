use Rattle.std.proofs.Common.{refl, sym, ◌∙◌}
use Rattle.legality.proofs.Stretches.{stretch_ends, stretch_goes, stretch_whole}
use Rattle.legality.proofs.spans.stretch.Goals as goal

pub returns-then-is_some : goal.returns-then-is_some
returns-then-is_some c = stretch_ends c.args.journal.now c.loop-place.place c.loop-place.invariant c.index-journal-place.result c.loop-place-test.true c.index-journal-place.is (sym c.is_some.ensures ∙ c.if-is_some.true)

pub loop-place-init : goal.loop-place-init
loop-place-init c = refl

pub loop-place-preserved : goal.loop-place-preserved
loop-place-preserved c = stretch_goes c.args.journal.now c.loop-place.place c.loop-place.invariant c.index-journal-place.result c.loop-place-test.true c.index-journal-place.is (sym c.is_some.ensures ∙ c.if-is_some.false)

pub returns : goal.returns
returns c = stretch_whole c.args.journal.now c.loop-place.place c.loop-place.invariant c.loop-place-test.false

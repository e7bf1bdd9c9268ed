use Rattle.std.specs.Prelude.{◌≡◌}
use Rattle.anchors.specs.Holds.{view_of, anchors_of}
use Rattle.anchors.proofs.Walks.{none_first, none_next, none_at_all}
use Rattle.anchors.proofs.places.free_anchor.Goals as goal

pub loop-place-init : goal.loop-place-init
loop-place-init c = none_first (λ word. word ≡ 0) (anchors_of (view_of c.args.member.now) c.args.process)

-- one more is not free
pub loop-place-preserved : goal.loop-place-preserved
loop-place-preserved c = none_next (λ word. word ≡ 0) (anchors_of (view_of c.args.member.now) c.args.process) c.loop-place.place c.anchor.result c.loop-place.auto.place c.loop-place.invariant c.anchor.ensures c.if-anchor-eq0.false

-- none is
pub returns-clause-none : goal.returns-clause-none
returns-clause-none c = λ none_found. none_at_all (λ word. word ≡ 0) (anchors_of (view_of c.args.member.now) c.args.process) c.loop-place.place (c.requires.copied.wide c.args.process c.requires.process) c.loop-place-test.false c.loop-place.invariant

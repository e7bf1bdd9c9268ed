use Rattle.shared_words.specs.Slots.{IsOfArea}
use Rattle.anchors.specs.Holds.{view_of, anchors_of}
use Rattle.anchors.proofs.Walks.{none_first, none_next, none_at_all}
use Rattle.anchors.proofs.places.anchor_of.Goals as goal
use Rattle.anchors.proofs.places.anchor_of.Goals.{else-word-ne0-via-then-word-ne0+else-word-serial, else-word-ne0-via-else-word-ne0}

pub loop-place-init : goal.loop-place-init
loop-place-init c = none_first (λ word. IsOfArea word c.args.serial) (anchors_of (view_of c.args.member.now) c.args.process)

-- one more is not of the area
pub loop-place-preserved : goal.loop-place-preserved
loop-place-preserved c =
    let fails : IsOfArea c.anchor-word.result c.args.serial → ⊥ = elim c.else-word-ne0.branch as (λ _. IsOfArea c.anchor-word.result c.args.serial → ⊥) [
      | else-word-ne0-via-then-word-ne0+else-word-serial w ↦ (λ of. w.if-word-serial.false of.of)
      | else-word-ne0-via-else-word-ne0 w ↦ (λ of. of.some w.if-word-ne0.false)
    ] in
    none_next (λ word. IsOfArea word c.args.serial) (anchors_of (view_of c.args.member.now) c.args.process) c.loop-place.place c.anchor-word.result c.loop-place.auto.place c.loop-place.invariant c.anchor-word.ensures fails

-- none is
pub returns-clause-none : goal.returns-clause-none
returns-clause-none c = λ none_found. none_at_all (λ word. IsOfArea word c.args.serial) (anchors_of (view_of c.args.member.now) c.args.process) c.loop-place.place (c.requires.copied.wide c.args.process c.requires.process) c.loop-place-test.false c.loop-place.invariant

use Rattle.shared_words.specs.Slots.{IsOfArea}
use Rattle.anchors.specs.Holds.{view_of, anchors_of}
use Rattle.anchors.proofs.Walks.{NoneBefore}
use Rattle.anchors.proofs.places.anchor_of.Given as goal

-- no anchor before this place is of the area
abbrev pub invariant-loop-place : goal.invariant-loop-place
invariant-loop-place l = NoneBefore (λ word. IsOfArea word l.fn.serial) (anchors_of (view_of l.fn.member) l.fn.process) l.place

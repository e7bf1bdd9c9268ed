use Rattle.std.specs.Prelude.{◌≡◌}
use Rattle.anchors.specs.Holds.{view_of, anchors_of}
use Rattle.anchors.proofs.Walks.{NoneBefore}
use Rattle.anchors.proofs.places.free_anchor.Given as goal

-- no anchor before this place is free
abbrev pub invariant-loop-place : goal.invariant-loop-place
invariant-loop-place l = NoneBefore (λ word. word ≡ 0) (anchors_of (view_of l.fn.member) l.fn.process) l.place

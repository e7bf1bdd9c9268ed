use Rattle.std.specs.Prelude.{◌≡◌, true}
use Rattle.area_core.specs.Generations.{names_frame}
use Rattle.anchors.specs.Holds.{view_of, anchors_of}
use Rattle.anchors.proofs.Walks.{NoneBefore}
use Rattle.anchors.proofs.places.frame_anchor.Given as goal

-- no anchor before this place names the area for a frame
abbrev pub invariant-loop-place : goal.invariant-loop-place
invariant-loop-place l = NoneBefore (λ word. names_frame word l.fn.serial ≡ true) (anchors_of (view_of l.fn.member) l.fn.process) l.place

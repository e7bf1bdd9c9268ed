-- What is held is what the frames name, and the areas that are left.
use Rattle.std.proofs.Common.{◌≡◌, length}
use Rattle.machine_core.proofs.DroppedHolds.{LeftHeld}
use Rattle.machine_core.proofs.dropping.drop_unnamed.Given as goal

abbrev pub invariant-areas : goal.invariant-areas
invariant-areas g l = record {
  shown : g.V.CodeView.shown l.view ≡ g.V.CodeView.shown l.initial.view;
  held : LeftHeld (g.V.CodeView.held l.initial.view) (g.V.CodeView.held l.view) l.kind l.frames l.areas;
}

abbrev pub decreases-areas : goal.decreases-areas
decreases-areas g l = length l.areas

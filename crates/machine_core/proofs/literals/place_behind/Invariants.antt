-- What is left of the images ends where they all end.
use Rattle.std.proofs.Common.{◌≡◌, drop, unwrap_or}
use Rattle.term_core.specs.Image.{images_len}
use Rattle.machine_core.specs.Stand.{AreImages, images_end}
use Rattle.machine_core.proofs.literals.place_behind.Given as goal

abbrev pub invariant-loop-needed : goal.invariant-loop-needed
invariant-loop-needed g l = record {
  shown : g.V.CodeView.shown l.view ≡ g.V.CodeView.shown l.initial.view;
  held : g.V.CodeView.held l.view ≡ g.V.CodeView.held l.initial.view;
  images : AreImages (g.V.CodeView.shown l.initial.view) l.area.serial l.place l.needed;
  end : images_end ((g.V.CodeView.shown l.initial.view).words l.area.serial) l.place l.needed ≡ images_end ((g.V.CodeView.shown l.initial.view).words l.area.serial) l.initial.place l.initial.needed;
}

abbrev pub decreases-loop-needed : goal.decreases-loop-needed
decreases-loop-needed g l = unwrap_or (images_len l.needed (drop l.place ((g.V.CodeView.shown l.initial.view).words l.area.serial))) 0

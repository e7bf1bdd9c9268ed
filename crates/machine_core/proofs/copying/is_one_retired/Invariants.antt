-- None of the areas so far is retired.
use Rattle.std.proofs.Common.{◌≡◌, false, take}
use Rattle.std.specs.List.{list_any}
use Rattle.machine_core.proofs.copying.is_one_retired.Given as goal

abbrev pub invariant-loop-area : goal.invariant-loop-area
invariant-loop-area g l = record {
  shown : g.V.CodeView.shown l.view ≡ g.V.CodeView.shown l.initial.view;
  held : g.V.CodeView.held l.view ≡ g.V.CodeView.held l.initial.view;
  none : list_any (λ a. (g.V.CodeView.shown l.initial.view).reads.retired a.serial) (take l.area-index l.areas) ≡ false;
}

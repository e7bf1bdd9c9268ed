-- The values so far are copied.
use Rattle.std.proofs.Common.{◌≡◌, All, map, take}
use Rattle.machine_core.specs.Process.{values_shown}
use Rattle.machine_core.specs.Turn.{copied_value}
use Rattle.machine_core.specs.View.{IsValue}
use Rattle.machine_core.proofs.copying.copied_registers.Given as goal

abbrev pub invariant-loop-value : goal.invariant-loop-value
invariant-loop-value g l = record {
  shown : g.V.CodeView.shown l.view ≡ g.V.CodeView.shown l.initial.view;
  held : g.V.CodeView.held l.view ≡ g.V.CodeView.held l.initial.view;
  copied : values_shown (g.V.CodeView.shown l.initial.view).words l.copies.items
      ≡ map (copied_value (g.V.CodeView.shown l.initial.view).reads) (values_shown (g.V.CodeView.shown l.initial.view).words (take l.value-index l.value-items));
  values : All (IsValue (g.V.CodeView.shown l.initial.view)) l.copies.items;
}

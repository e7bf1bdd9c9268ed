-- The terms so far are those of the values so far.
use Rattle.std.proofs.Common.{◌≡◌, take}
use Rattle.machine_core.specs.Process.{values_shown}
use Rattle.machine_core.specs.Turn.{terms_of}
use Rattle.machine_core.proofs.literals.terms_of.Given as goal

abbrev pub invariant-loop-value : goal.invariant-loop-value
invariant-loop-value g l = record {
  shown : g.V.CodeView.shown l.view ≡ g.V.CodeView.shown l.initial.view;
  held : g.V.CodeView.held l.view ≡ g.V.CodeView.held l.initial.view;
  terms : l.terms ≡ terms_of (values_shown (g.V.CodeView.shown l.initial.view).words (take l.value-index l.values));
}

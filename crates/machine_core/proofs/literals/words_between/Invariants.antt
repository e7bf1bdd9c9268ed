-- The words up to this place have been read.
use Rattle.std.proofs.Common.{◌≡◌, ◌-◌, drop, take}
use Rattle.machine_core.proofs.literals.words_between.Given as goal

abbrev pub invariant-loop-place : goal.invariant-loop-place
invariant-loop-place g l = record {
  shown : g.V.CodeView.shown l.view ≡ g.V.CodeView.shown l.initial.view;
  held : g.V.CodeView.held l.view ≡ g.V.CodeView.held l.initial.view;
  words : l.words ≡ take (l.place - l.from) (drop l.from ((g.V.CodeView.shown l.initial.view).words l.area.serial));
}

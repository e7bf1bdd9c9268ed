-- What was found is the topmost of the frames so far that stands in doomed code.
use Rattle.std.proofs.Common.{◌≡◌, take}
use Rattle.machine_core.specs.Process.{frames_of}
use Rattle.machine_core.specs.Turn.{doomed_serial}
use Rattle.machine_core.proofs.doom.doomed_serial.Given as goal

abbrev pub invariant-loop-frame : goal.invariant-loop-frame
invariant-loop-frame g l = record {
  shown : g.V.CodeView.shown l.view ≡ g.V.CodeView.shown l.initial.view;
  held : g.V.CodeView.held l.view ≡ g.V.CodeView.held l.initial.view;
  found : l.found ≡ doomed_serial (g.V.CodeView.shown l.initial.view).reads (frames_of (g.V.CodeView.shown l.initial.view).words (take l.frame-index l.frames));
}

-- What is left from here is the whole from the start.
use Rattle.std.proofs.Common.{◌≡◌, ◌+◌, ◌∷◌, ℕ}
use Rattle.machine_core.specs.Process.{area_holds, frame_of, frames_of}
use Rattle.machine_core.specs.Turn.{run_of}
use Rattle.machine_core.specs.Stand.{AreReady}
use Rattle.machine_core.proofs.machine.run.Given as goal

abbrev pub invariant-loop : goal.invariant-loop
invariant-loop g l = record {
  shown : g.V.CodeView.shown l.view ≡ g.V.CodeView.shown l.initial.view;
  tracked : g.V.CodeView.held l.view ≡ area_holds l.areas;
  ready : AreReady (g.V.CodeView.shown l.initial.view) (g.V.CodeView.held l.view) l.top l.frames;
  left : (n : ℕ) → n + l.counter ≡ 200 →
      run_of (g.V.CodeView.shown l.initial.view).reads n (frame_of (g.V.CodeView.shown l.initial.view).words l.top ∷ frames_of (g.V.CodeView.shown l.initial.view).words l.frames) (g.V.CodeView.held l.view) l.lines
      ≡ run_of (g.V.CodeView.shown l.initial.view).reads 200 (frame_of (g.V.CodeView.shown l.initial.view).words l.initial.top ∷ frames_of (g.V.CodeView.shown l.initial.view).words l.initial.frames) (g.V.CodeView.held l.initial.view) l.initial.lines;
}

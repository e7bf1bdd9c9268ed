-- The instruction that was read is the frame's next one.
use Rattle.machine_core.specs.Process.{frame_of}
use Rattle.machine_core.proofs.Steps.{callee_read, executes_read, top_ready}
use Rattle.machine_core.proofs.step.step.Goals as goal
use Rattle.machine_core.specs.Reads.{instr_at}

pub execute-requires-clause-ready : goal.execute-requires-clause-ready
execute-requires-clause-ready g c =
    top_ready (g.V.CodeView.shown c.args.view.now) (g.V.CodeView.shown c.fetch-op.new.view) (g.V.CodeView.held c.args.view.now) (g.V.CodeView.held c.fetch-op.new.view) c.args.top.now c.args.below.now
    c.fetch-op.ensures.same c.fetch-op.ensures.holds c.requires.ready

pub execute-requires-clause-callee : goal.execute-requires-clause-callee
execute-requires-clause-callee g c =
    callee_read (g.V.CodeView.shown c.args.view.now) (g.V.CodeView.shown c.fetch-op.new.view) c.args.top.now c.fetch-op.result c.requires.lawful c.requires.ready.frames.placed.0 c.fetch-op.ensures.same c.fetch-op.ensures.value

pub returns-clause-ok : goal.returns-clause-ok
returns-clause-ok g c =
    executes_read c.execute.result (g.V.CodeView.shown c.args.view.now) (g.V.CodeView.shown c.fetch-op.new.view) (g.V.CodeView.held c.args.view.now) (g.V.CodeView.held c.fetch-op.new.view) (g.V.CodeView.held c.execute.new.view)
    c.args.top.now c.execute.new.top c.args.below.now c.execute.new.below c.fetch-op.result (instr_at (g.V.CodeView.shown c.args.view.now).reads (frame_of (g.V.CodeView.shown c.args.view.now).words c.args.top.now)) c.args.lines.now c.execute.new.lines
    c.fetch-op.ensures.same c.fetch-op.ensures.holds c.fetch-op.ensures.value c.execute.ensures.ok

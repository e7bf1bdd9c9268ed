-- The area was just held.
use Rattle.std.proofs.Common.{◌∙◌, sym}
use Rattle.machine_core.proofs.Calling.{held_now, ok_of}
use Rattle.machine_core.proofs.calls.enter.Goals as goal

pub entry-requires-clause-reached : goal.entry-requires-clause-reached
entry-requires-clause-reached g c =
    held_now (g.V.CodeView.shown c.hold.new.self).reads (g.V.CodeView.held c.args.view.now) (g.V.CodeView.held c.hold.new.self) c.args.code.area.serial
    (ok_of c.hold.result _ c.hold.ensures.ok (sym c.is_err.ensures.value ∙ c.if-is_err.false))

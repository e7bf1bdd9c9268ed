-- The value is kept, or its area is one too many.
use Rattle.std.proofs.Common.{◌∙◌, ap, sym}
use Rattle.machine_core.specs.Process.{frame_of, values_shown}
use Rattle.machine_core.proofs.StoredValues.{set_shown, store_kept, store_refused}
use Rattle.machine_core.proofs.step.return_to.Goals as goal

pub returns-then-not-branch-clause-ok : goal.returns-then-not-branch-clause-ok
returns-then-not-branch-clause-ok g c = λ below made.
    store_refused (g.V.CodeView.held c.args.view.now) (g.V.CodeView.held c.keep.new.view) made _ below _ c.in_ok-keep.field-0 c.in_ok-keep.ensures.ok c.if-not-branch.true (c.in_ok-keep.ensures.refused c.if-not-branch.true)

pub returns-clause-ok : goal.returns-clause-ok
returns-clause-ok g c = λ below made.
    let words = (g.V.CodeView.shown c.args.view.now).words in
    store_kept (g.V.CodeView.held c.args.view.now) (g.V.CodeView.held c.keep.new.view) made _ _ below _ c.in_ok-keep.field-0 c.in_ok-keep.ensures.ok c.if-not-branch.false
    (ap (λ vs. record { serial = c.args.caller.code.area.serial; function = c.args.caller.code.function; place = c.args.caller.place; back = c.args.caller.back; registers = vs })
    (sym (ap (values_shown words) c.set.ensures ∙ set_shown words c.args.caller.registers c.args.top.now.back c.args.value))
    ∙ ap (frame_of words) (sym c.replace-registers.ensures.after))

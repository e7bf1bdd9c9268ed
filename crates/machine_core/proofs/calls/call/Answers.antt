-- The new frame stands on the caller's, and the line says the call.
use Rattle.std.proofs.Common.{◌∙◌, ◌++◌, ◌∷◌, [], ◌≡◌, ◌+◌, Some, ap, length, subst, refl}
use Rattle.server_core.specs.ServerState.{entry_of}
use Rattle.machine_core.specs.Process.{arguments_at, arguments_of, first_registers, frame_of, values_shown}
use Rattle.machine_core.specs.Turn.{trace_of}
use Rattle.machine_core.specs.View.{IsValue, Shown}
use Rattle.machine_core.proofs.Calling.{all_arguments, all_usable, arguments_shown, call_gives, call_refused, entered_shown, frame_values, held_now, usable_seen, values_pushed, values_same}
use Rattle.machine_core.proofs.calls.call.Goals as goal

pub trace_call-requires-clause-reached : goal.trace_call-requires-clause-reached
trace_call-requires-clause-reached g c =
    held_now (g.V.CodeView.shown c.enter.new.view).reads (g.V.CodeView.held c.args.view.now) (g.V.CodeView.held c.enter.new.view) c.args.callee.code.area.serial
    (rw c.in-Some.is at c.in_ok-enter.ensures.holds)

pub trace_call-requires-clause-usable : goal.trace_call-requires-clause-usable
trace_call-requires-clause-usable g c =
    let shown = g.V.CodeView.shown c.args.view.now in
    let now = g.V.CodeView.held c.enter.new.view in
    usable_seen shown (g.V.CodeView.shown c.enter.new.view) now now c.args.top.now.registers c.args.top.now.registers c.in_ok-enter.ensures.same refl refl
    (all_usable shown (g.V.CodeView.held c.args.view.now) now c.args.callee.code.area.serial c.args.top.now.registers (rw c.in-Some.is at c.in_ok-enter.ensures.holds) c.requires.usable)

pub returns-in-None-clause-ok : goal.returns-in-None-clause-ok
returns-in-None-clause-ok g c =
    let words = (g.V.CodeView.shown c.args.view.now).words in
    let args = arguments_at (values_shown words c.args.top.now.registers) c.args.callee.at c.args.callee.to.arity in
    call_refused words (g.V.CodeView.shown c.args.view.now).reads _ c.args.below.now (g.V.CodeView.held c.args.view.now) (g.V.CodeView.held c.enter.new.view) (entry_of c.args.callee.code) c.args.callee.to c.args.callee.at
    (length c.as_slice.result.now + 1) args (values_shown words c.in_ok-registers.registers) c.args.lines.now (ap (λ fs. length fs + 1) (c.as_slice.ensures ∙ c.in_ok-others.ensures))
    (ap (values_shown words) c.in_ok-registers.ensures ∙ entered_shown words (arguments_of c.args.top.now.registers c.args.callee.at c.args.callee.to.arity)
    ∙ ap first_registers (arguments_shown words c.args.top.now.registers c.args.callee.at c.args.callee.to.arity))
    (rw c.in-None.is at (c.in_ok-enter.ensures.ok words)) (rw c.in-None.is at c.in_ok-enter.ensures.holds)

pub returns-in_ok-push-in-Some-clause-ok : goal.returns-in_ok-push-in-Some-clause-ok
returns-in_ok-push-in-Some-clause-ok g c =
    let words = (g.V.CodeView.shown c.args.view.now).words in
    let e = entry_of c.args.callee.code in
    let args = arguments_at (values_shown words c.args.top.now.registers) c.args.callee.at c.args.callee.to.arity in
    call_gives words (g.V.CodeView.shown c.args.view.now).reads _ (frame_of words c.replace-caller.new.dest) c.args.below.now c.push.new.self c.replace-caller.result
    (g.V.CodeView.held c.args.view.now) (g.V.CodeView.held c.trace_call.new.view) e c.args.callee.to c.args.callee.at (length c.as_slice.result.now + 1)
    args (values_shown words c.in_ok-registers.registers) c.args.lines.now c.trace_call.new.lines
    (ap (frame_of words) c.replace-caller.ensures.value) (c.in_ok-push-in-Some.ensures.ok ∙ ap (λ fs. fs ++ c.replace-caller.result ∷ []) c.in_ok-others.ensures) (ap (λ fs. length fs + 1) (c.as_slice.ensures ∙ c.in_ok-others.ensures))
    (ap (values_shown words) c.in_ok-registers.ensures ∙ entered_shown words (arguments_of c.args.top.now.registers c.args.callee.at c.args.callee.to.arity)
    ∙ ap first_registers (arguments_shown words c.args.top.now.registers c.args.callee.at c.args.callee.to.arity))
    (ap (λ f. Some (frame_of words f)) c.replace-caller.ensures.after ∙ (rw c.in-Some.is at (c.in_ok-enter.ensures.ok words)))
    (c.in_ok-trace_call-in-Some.ensures.holds ∙ (rw c.in-Some.is at c.in_ok-enter.ensures.holds))
    (subst (λ (v : Shown). c.trace_call.new.lines ≡ c.args.lines.now ++ trace_of v.reads e c.args.callee.to (arguments_at (values_shown v.words c.args.top.now.registers) c.args.callee.at c.args.callee.to.arity)) c.in_ok-enter.ensures.same c.in_ok-trace_call-in-Some.ensures.ok)

pub returns-in_ok-push-in-Some-clause-values : goal.returns-in_ok-push-in-Some-clause-values
returns-in_ok-push-in-Some-clause-values g c =
    let shown = g.V.CodeView.shown c.args.view.now in
    values_same shown c.replace-caller.new.dest c.in-Some.frame c.replace-caller.ensures.after
    (frame_values shown c.in-Some.frame c.args.callee.code c.in_ok-registers.registers (arguments_of c.args.top.now.registers c.args.callee.at c.args.callee.to.arity)
    (rw c.in-Some.is at c.in_ok-enter.ensures.code) c.requires.stands (rw c.in-Some.is at c.in_ok-enter.ensures.registers) c.in_ok-registers.ensures
    (all_arguments (IsValue shown) c.args.top.now.registers c.args.callee.at c.args.callee.to.arity c.requires.values.1))

pub returns-in_ok-push-in-Some-clause-below : goal.returns-in_ok-push-in-Some-clause-below
returns-in_ok-push-in-Some-clause-below g c =
    let shown = g.V.CodeView.shown c.args.view.now in
    values_pushed shown c.args.below.now c.push.new.self c.replace-caller.result (c.in_ok-push-in-Some.ensures.ok ∙ ap (λ fs. fs ++ c.replace-caller.result ∷ []) c.in_ok-others.ensures) c.requires.below
    (values_same shown c.replace-caller.result _ c.replace-caller.ensures.value c.requires.values)

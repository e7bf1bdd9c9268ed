-- The target is entered, or a limit is met.
use Rattle.std.proofs.Common.{◌∙◌, ◌++◌, ◌≡◌, ap, subst}
use Rattle.server_core.specs.ServerState.{entry_of}
use Rattle.machine_core.specs.Process.{frame_of, first_registers, owned_values, owned_terms, values_shown}
use Rattle.machine_core.specs.Turn.{trace_of}
use Rattle.machine_core.specs.View.{Shown}
use Rattle.machine_core.proofs.Calling.{all_owned, entered_shown, frame_values, owned_shown, target_enters, target_refused}
use Rattle.machine_core.proofs.calls.enter_target.Goals as goal

pub returns-in-None-clause-ok : goal.returns-in-None-clause-ok
returns-in-None-clause-ok g c =
    let shown = g.V.CodeView.shown c.args.view.now in
    let words = shown.words in
    target_refused shown (g.V.CodeView.shown c.export.new.self) (g.V.CodeView.held c.args.view.now) (g.V.CodeView.held c.export.new.self) (g.V.CodeView.held c.enter.new.view) (entry_of c.in-Some.code) c.args.target
    (owned_values c.args.args.now) (values_shown words c.in_ok-registers.registers) c.args.lines.now c.in-Some.ensures.same c.in-Some.ensures.holds c.in-Some.ensures.value
    (ap (values_shown words) c.in_ok-registers.ensures ∙ entered_shown words (owned_terms c.args.args.now) ∙ ap first_registers (owned_shown words c.args.args.now))
    (rw c.in-None.is at (c.in_ok-enter.ensures.ok words)) (rw c.in-None.is at c.in_ok-enter.ensures.holds)

pub returns-in_ok-trace_target-in-Some-2-clause-ok : goal.returns-in_ok-trace_target-in-Some-2-clause-ok
returns-in_ok-trace_target-in-Some-2-clause-ok g c =
    let shown = g.V.CodeView.shown c.args.view.now in
    let words = shown.words in
    target_enters shown (g.V.CodeView.shown c.export.new.self) (g.V.CodeView.held c.args.view.now) (g.V.CodeView.held c.export.new.self) (g.V.CodeView.held c.trace_target.new.view) (entry_of c.in-Some.code) c.args.target
    (owned_values c.args.args.now) (values_shown words c.in_ok-registers.registers) (frame_of words c.in-Some-2.frame) c.args.lines.now c.trace_target.new.lines c.in-Some.ensures.same c.in-Some.ensures.holds c.in-Some.ensures.value
    (ap (values_shown words) c.in_ok-registers.ensures ∙ entered_shown words (owned_terms c.args.args.now) ∙ ap first_registers (owned_shown words c.args.args.now))
    (rw c.in-Some-2.is at (c.in_ok-enter.ensures.ok words)) (c.in_ok-trace_target-in-Some-2.ensures.holds ∙ (rw c.in-Some-2.is at c.in_ok-enter.ensures.holds))
    (subst (λ (v : Shown). c.trace_target.new.lines ≡ c.args.lines.now ++ trace_of v.reads (entry_of c.in-Some.code) c.args.target (owned_values c.args.args.now)) (c.in_ok-enter.ensures.same ∙ c.in-Some.ensures.same) c.in_ok-trace_target-in-Some-2.ensures.ok)

pub returns-in_ok-trace_target-in-Some-2-clause-values : goal.returns-in_ok-trace_target-in-Some-2-clause-values
returns-in_ok-trace_target-in-Some-2-clause-values g c =
    frame_values (g.V.CodeView.shown c.args.view.now) c.in-Some-2.frame c.in-Some.code c.in_ok-registers.registers (owned_terms c.args.args.now)
    (rw c.in-Some-2.is at c.in_ok-enter.ensures.code) c.in-Some.ensures.stands (rw c.in-Some-2.is at c.in_ok-enter.ensures.registers) c.in_ok-registers.ensures
    (all_owned (g.V.CodeView.shown c.args.view.now) c.args.args.now)

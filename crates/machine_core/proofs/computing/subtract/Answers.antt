-- The terms are those of the two sources.
use Rattle.std.proofs.Common.{◌∙◌, ap, sym, refl}
use Rattle.mod_core.specs.declared.code.Instr.TheVariants as instrs
use Rattle.machine_core.specs.Decode.{operand_shown}
use Rattle.machine_core.specs.Process.{frame_of}
use Rattle.machine_core.specs.Stand.{stand_after}
use Rattle.machine_core.specs.Turn.{computed}
use Rattle.machine_core.specs.Values.{difference_of, operand_term}
use Rattle.machine_core.proofs.Computed.{of_terms, term_seen}
use Rattle.machine_core.proofs.computing.subtract.Goals as goal

pub returns-clause-ok : goal.returns-clause-ok
returns-clause-ok g c = λ below made.
    let shown = g.V.CodeView.shown c.args.view.now in
    let held = g.V.CodeView.held c.args.view.now in
    let words = shown.words c.args.top.now.code.area.serial in
    let f = frame_of shown.words c.args.top.now in
    let i = instrs.Sub (operand_shown words c.args.a.now) (operand_shown words c.args.b.now) c.args.to in
    let second = term_seen shown (g.V.CodeView.shown c.term_in.new.view) c.args.top.now c.args.b.now c.in_ok-second.second c.in_ok-first.ensures.same c.in_ok-second.ensures.ok in
    let value = of_terms difference_of c.difference-value.result c.in_ok-first.first c.in_ok-second.second (operand_term f (operand_shown words c.args.a.now)) (operand_term f (operand_shown words c.args.b.now)) c.difference-value.ensures c.in_ok-first.ensures.ok second in
    ap (λ v. stand_after held made (computed f below held i c.args.to v)) (sym value) ∙ c.give.ensures.ok shown.words held below made i refl

pub returns-clause-values : goal.returns-clause-values
returns-clause-values g c = c.give.ensures.values (g.V.CodeView.shown c.args.view.now) c.requires.values

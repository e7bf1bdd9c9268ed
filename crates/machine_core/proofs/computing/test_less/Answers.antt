-- The terms are those of the two sources.
use Rattle.std.proofs.Common.{◌∙◌, ap, sym, refl}
use Rattle.mod_core.specs.declared.code.Instr.TheVariants as instrs
use Rattle.machine_core.specs.Decode.{operand_shown}
use Rattle.machine_core.specs.Process.{frame_of}
use Rattle.machine_core.specs.Stand.{stand_after}
use Rattle.machine_core.specs.Turn.{tested}
use Rattle.machine_core.specs.Values.{less_of, operand_term}
use Rattle.machine_core.proofs.Computed.{of_terms, term_seen}
use Rattle.machine_core.proofs.computing.test_less.Goals as goal

pub returns-clause-ok : goal.returns-clause-ok
returns-clause-ok g c = λ below made.
    let shown = g.V.CodeView.shown c.args.view.now in
    let held = g.V.CodeView.held c.args.view.now in
    let words = shown.words c.args.top.now.code.area.serial in
    let f = frame_of shown.words c.args.top.now in
    let i = instrs.Less (operand_shown words c.args.a.now) (operand_shown words c.args.b.now) c.args.target in
    let second = term_seen shown (g.V.CodeView.shown c.term_in.new.view) c.args.top.now c.args.b.now c.in_ok-second.second c.in_ok-first.ensures.same c.in_ok-second.ensures.ok in
    let value = of_terms less_of c.is_less-less.result c.in_ok-first.first c.in_ok-second.second (operand_term f (operand_shown words c.args.a.now)) (operand_term f (operand_shown words c.args.b.now)) c.is_less-less.ensures c.in_ok-first.ensures.ok second in
    ap (λ v. stand_after held made (tested f below held i c.args.target v)) (sym value) ∙ c.decide.ensures.ok shown.words held below made i refl

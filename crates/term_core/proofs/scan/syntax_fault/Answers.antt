-- Where the scan goes on, what is left decides.
use Rattle.std.proofs.Common.{cond, Some, None, get_or, refl, sym, ap, ◌∙◌, arith}
use Rattle.term_core.specs.Scanning.{Scanned}
use Rattle.term_core.proofs.Scanning.Steps.{fault_behind}
use Rattle.term_core.proofs.scan.syntax_fault.Goals as goal

-- by the byte that was taken
pub loop-at-preserved : goal.loop-at-preserved
loop-at-preserved c =
    let before : Scanned = record { place = c.loop-at.scan.place; brackets = c.loop-at.scan.brackets } in
    let after : Scanned = record { place = c.take_byte.new.scan.place; brackets = c.take_byte.new.scan.brackets } in
    let step = c.in_ok-take_byte.ensures ∙ ap (λ b. cond b (Some after) None) c.if-not-branch.false in
    sym (fault_behind c.args.text.now c.loop-at.at (get_or c.args.text.now c.loop-at.at 0) before after refl (omega arith) step) ∙ c.loop-at.invariant

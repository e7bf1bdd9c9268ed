-- The area of each literal is held.
use Rattle.std.proofs.Common.{◌≡◌, ◌<◌, get_or, length, subst, sym, ap, arith}
use Rattle.machine_core.specs.Holds.{Holds}
use Rattle.machine_core.specs.Process.{value_shown}
use Rattle.machine_core.specs.Stand.{IsValueHeld}
use Rattle.machine_core.specs.View.{Shown}
use Rattle.machine_core.proofs.CopiedValues.{value_named}
use Rattle.machine_core.proofs.copying.copied_registers.Goals as goal

pub copied_value-requires-clause-named : goal.copied_value-requires-clause-named
copied_value-requires-clause-named g c =
    let below : c.loop-value.value-index < length c.args.registers.now = omega (arith, c.loop-value-test.true, ap length c.as_slice-value-items.ensures) in
    let is : c.value-item.result ≡ get_or c.args.registers.now c.loop-value.value-index c.value-item.result =
    subst (λ xs. c.value-item.result ≡ get_or xs c.loop-value.value-index c.value-item.result) c.as_slice-value-items.ensures c.value-item.is in
    subst (λ (h : Holds). IsValueHeld h (value_shown (g.V.CodeView.shown c.loop-value.view).words c.value-item.result)) (sym c.loop-value.invariant.held)
    (subst (λ (s : Shown). IsValueHeld (g.V.CodeView.held c.args.view.now) (value_shown s.words c.value-item.result)) (sym c.loop-value.invariant.shown)
    (value_named (g.V.CodeView.shown c.args.view.now).words (g.V.CodeView.held c.args.view.now) c.args.registers.now c.loop-value.value-index c.value-item.result below is c.requires.named))

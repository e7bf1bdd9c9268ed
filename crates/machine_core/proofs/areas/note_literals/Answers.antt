-- The next value's area is named with those before it.
use Rattle.machine_core.specs.View.{IsValue}
use Rattle.machine_core.proofs.AreaLists.{next_literals, next_of}
use Rattle.machine_core.proofs.areas.note_literals.Goals as goal

pub loop-value-preserved : goal.loop-value-preserved
loop-value-preserved c = record {
  named =
      next_literals c.args.areas.now c.loop-value.areas c.note_literal.new.areas c.args.values.now c.loop-value.value-index c.value-item.result c.loop-value-test.true c.value-item.is
      c.loop-value.invariant.named c.in_ok-note_literal.ensures.named;
  stand = λ shown stand values.
      c.in_ok-note_literal.ensures.stand shown (c.loop-value.invariant.stand shown stand values)
      (next_of (IsValue shown) c.args.values.now c.loop-value.value-index c.value-item.result c.loop-value-test.true c.value-item.is values);
}

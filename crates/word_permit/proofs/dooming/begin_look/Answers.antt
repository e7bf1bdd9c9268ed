-- A value is taken that is above the counter.
use Rattle.std.proofs.Common.{arith}
use Rattle.word_permit.proofs.PurgeCalls.{value_taken}
use Rattle.word_permit.proofs.dooming.begin_look.Goals as goal

pub returns-clause-late : goal.returns-clause-late
returns-clause-late g c = record {
  looks = c.take_look-need.ensures.look;
  taken = value_taken g.K.Naming.names _ _ c.take_look-need.new.book c.take_look-need.result c.take_look-need.ensures.book c.take_look-need.ensures.look;
  loaded = omega (arith, c.take_look-need.ensures.value);
  below = omega (arith, c.take_look-need.ensures.value);
}

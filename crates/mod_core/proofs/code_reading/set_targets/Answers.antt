-- Each instruction is changed in place.
use Rattle.mod_core.specs.ModuleImage.{placed}
use Rattle.mod_core.specs.Decoding.{number_at}
use Rattle.mod_core.proofs.InPlace.{changed_all, changed_more}
use Rattle.mod_core.proofs.code_reading.set_targets.Goals as goal

pub loop-instr-preserved : goal.loop-instr-preserved
loop-instr-preserved c =
    changed_more (placed (number_at c.args.places.now)) c.args.instrs.now c.loop-instr.instrs c.loop-instr.instr-index c.instr-item.result c.set_target.new.instr c.loop-instr-test.true c.loop-instr.invariant c.set_target.ensures

pub returns : goal.returns
returns c = changed_all (placed (number_at c.args.places.now)) c.args.instrs.now c.loop-instr.instrs c.loop-instr.instr-index c.loop-instr-test.false c.loop-instr.invariant

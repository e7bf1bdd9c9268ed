-- Each instruction has a place for its target, and room for its constants.
use Rattle.std.proofs.Common.{length, subst, sym, arith}
use Rattle.mod_core.specs.Module.{IsInstrAmong}
use Rattle.std.proofs.Common.{slice_index}
use Rattle.mod_core.proofs.Coding.{code_done, code_more, code_room, instr_room}
use Rattle.mod_core.proofs.image.function.push_code.Goals as goal

pub push_instr-requires-clause-is_placed : goal.push_instr-requires-clause-is_placed
push_instr-requires-clause-is_placed c = subst (IsInstrAmong (length c.args.places.now)) (sym c.instr-item.is) (c.requires.are_placed c.loop-instr.instr-index c.instr-item.result (omega arith))

pub push_instr-requires-clause-constants : goal.push_instr-requires-clause-constants
push_instr-requires-clause-constants c = omega (arith, c.loop-instr.invariant.room, instr_room c.args.code.now c.loop-instr.instr-index c.instr-item.result (omega arith) c.instr-item.is)

pub loop-instr-preserved : goal.loop-instr-preserved
loop-instr-preserved c =
    let places = slice_index c.args.places.now in
    record {
      completes = λ new rest. c.loop-instr.invariant.completes new (code_more c.loop-instr.draft c.push_instr.new.draft places c.args.code.now c.loop-instr.instr-index c.instr-item.result (omega arith) c.instr-item.is c.in_ok-push_instr.ensures new rest);
      room = omega (arith, c.loop-instr.invariant.room, code_room c.loop-instr.draft c.push_instr.new.draft places c.args.code.now c.loop-instr.instr-index c.instr-item.result (omega arith) c.instr-item.is c.in_ok-push_instr.ensures);
    }

pub returns : goal.returns
returns c = c.loop-instr.invariant.completes c.loop-instr.draft (code_done c.loop-instr.draft (slice_index c.args.places.now) c.args.code.now c.loop-instr.instr-index (omega arith))

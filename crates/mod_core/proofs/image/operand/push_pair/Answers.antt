-- The constant of the second operand stands behind that of the first.
use Rattle.std.proofs.lemmas.Result.{on_ok_weaker}
use Rattle.mod_core.proofs.Coding.{pair_written, second_room}
use Rattle.mod_core.proofs.image.operand.push_pair.Goals as goal

pub place_operand-requires-2-clause-constants : goal.place_operand-requires-2-clause-constants
place_operand-requires-2-clause-constants c = second_room c.args.draft.now c.place_operand.new.draft c.args.a.now c.args.b.now c.in_ok-first.ensures.placed c.requires.constants

pub returns : goal.returns
returns c = on_ok_weaker c.extend_from_slice.result
    (pair_written c.args.draft.now c.place_operand.new.draft c.place_operand-2.new.draft c.extend_from_slice.new.self c.args.number c.in_ok-first.first c.in_ok-second.second c.args.last c.args.a.now c.args.b.now
    c.in_ok-first.ensures.placed c.in_ok-second.ensures.placed c.in_ok-first.ensures.word c.in_ok-second.ensures.word)
    c.extend_from_slice.ensures.ok

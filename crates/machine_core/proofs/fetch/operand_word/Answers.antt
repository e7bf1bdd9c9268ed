-- The word is one of the instruction's, or there is none.
use Rattle.std.proofs.Common.{arith, ◌+◌, ◌<◌}
use Rattle.machine_core.specs.Process.{frame_of}
use Rattle.machine_core.proofs.Fetching.{numbered_word}
use Rattle.machine_core.proofs.fetch.operand_word.Goals as goal

pub overflow_add-frame : goal.overflow_add-frame
overflow_add-frame g c =
    let w : c.args.frame.now.place + c.args.at < 1024 = (numbered_word (g.V.CodeView.shown c.args.view.now) (frame_of (g.V.CodeView.shown c.args.view.now).words c.args.frame.now) c.args.number c.args.at c.len_of_number.result c.requires.lawful c.requires.placed c.requires.number c.len_of_number.ensures.value c.if-at-len_of_number.true).1.within in
    omega arith

pub word-requires-clause-readable : goal.word-requires-clause-readable
word-requires-clause-readable g c =
    (numbered_word (g.V.CodeView.shown c.args.view.now) (frame_of (g.V.CodeView.shown c.args.view.now).words c.args.frame.now) c.args.number c.args.at c.len_of_number.result c.requires.lawful c.requires.placed c.requires.number c.len_of_number.ensures.value c.if-at-len_of_number.true).1.readable

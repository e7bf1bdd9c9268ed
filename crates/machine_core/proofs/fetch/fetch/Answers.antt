-- The words that are read are those of the frame's next instruction, from which it reads back.
use Rattle.std.proofs.Common.{refl, sym, subst, ap, ◌∙◌}
use Rattle.machine_core.specs.Decode.{instr_shown}
use Rattle.machine_core.specs.Process.{frame_of}
use Rattle.machine_core.specs.Stand.{HasSources}
use Rattle.machine_core.proofs.Fetching.{fetched, op_read}
use Rattle.machine_core.proofs.fetch.fetch.Goals as goal

pub word-number-requires-clause-readable : goal.word-number-requires-clause-readable
word-number-requires-clause-readable g c =
    (fetched (g.V.CodeView.shown c.args.view.now) c.args.frame.now.code.area (frame_of (g.V.CodeView.shown c.args.view.now).words c.args.frame.now) c.requires.stands refl c.requires.lawful c.requires.placed).number

pub returns-clause-value : goal.returns-clause-value
returns-clause-value g c =
    let f = fetched (g.V.CodeView.shown c.args.view.now) c.args.frame.now.code.area (frame_of (g.V.CodeView.shown c.args.view.now).words c.args.frame.now) c.requires.stands refl c.requires.lawful c.requires.placed in
    ap (instr_shown ((g.V.CodeView.shown c.args.view.now).words c.args.frame.now.code.area.serial))
    (op_read (g.V.CodeView.shown c.args.view.now) (g.V.CodeView.shown c.word-number.new.self) (g.V.CodeView.shown c.operand_word-first.new.view) (g.V.CodeView.shown c.operand_word-second.new.view)
    c.args.frame.now.code.area.serial c.args.frame.now.place c.word-number.result c.operand_word-first.result c.operand_word-second.result c.operand_word-third.result c.decode.result
    c.word-number.ensures.same c.operand_word-first.ensures.same c.operand_word-second.ensures.same c.word-number.ensures.value c.operand_word-first.ensures.value c.operand_word-second.ensures.value c.operand_word-third.ensures.value c.decode.ensures)
    ∙ f.back.shows

pub returns-clause-sources : goal.returns-clause-sources
returns-clause-sources g c =
    let f = fetched (g.V.CodeView.shown c.args.view.now) c.args.frame.now.code.area (frame_of (g.V.CodeView.shown c.args.view.now).words c.args.frame.now) c.requires.stands refl c.requires.lawful c.requires.placed in
    subst (HasSources (g.V.CodeView.shown c.args.view.now) c.args.frame.now.code.area)
    (sym (op_read (g.V.CodeView.shown c.args.view.now) (g.V.CodeView.shown c.word-number.new.self) (g.V.CodeView.shown c.operand_word-first.new.view) (g.V.CodeView.shown c.operand_word-second.new.view)
    c.args.frame.now.code.area.serial c.args.frame.now.place c.word-number.result c.operand_word-first.result c.operand_word-second.result c.operand_word-third.result c.decode.result
    c.word-number.ensures.same c.operand_word-first.ensures.same c.operand_word-second.ensures.same c.word-number.ensures.value c.operand_word-first.ensures.value c.operand_word-second.ensures.value c.operand_word-third.ensures.value c.decode.ensures))
    f.back.sources

pub returns-clause-within : goal.returns-clause-within
returns-clause-within g c = (fetched (g.V.CodeView.shown c.args.view.now) c.args.frame.now.code.area (frame_of (g.V.CodeView.shown c.args.view.now).words c.args.frame.now) c.requires.stands refl c.requires.lawful c.requires.placed).within

-- The area of the literal is named with the others.
use Rattle.machine_core.proofs.AreaLists.{literal_stands, noted_literal}
use Rattle.machine_core.proofs.areas.note_literal.Goals as goal

pub returns-in-Literal-clause-named : goal.returns-in-Literal-clause-named
returns-in-Literal-clause-named c = noted_literal c.note.result c.args.areas.now c.note.new.areas c.args.value.now c.in-Literal.literal c.in-Literal.is c.note.ensures.named

pub returns-in-Literal-clause-stand : goal.returns-in-Literal-clause-stand
returns-in-Literal-clause-stand c = λ shown stand is. c.note.ensures.stand shown stand (literal_stands shown c.args.value.now c.in-Literal.literal c.in-Literal.is is)

-- Past the end of the words stands no image.
use Rattle.std.proofs.Common.{arith}
use Rattle.mod_core.proofs.ReadOperands.{image_within}
use Rattle.mod_core.proofs.instr_reading.read_constant.Goals as goal

pub returns-then-at-words : goal.returns-then-at-words
returns-then-at-words c = λ t h. absurd (omega (arith, image_within c.args.words.now c.args.place t h))

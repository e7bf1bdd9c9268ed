-- What is cut as a line has the line's parts.
use Rattle.mod_text.proofs.LineLaws.{sound_by}
use Rattle.mod_text.proofs.line.split_line.Goals as goal

pub returns-clause-sound : goal.returns-clause-sound
returns-clause-sound c = sound_by c.args.text.now c.cut_line.result c.cut_line.ensures

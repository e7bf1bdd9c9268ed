-- A constant's integers are terms' integers.
use Rattle.mod_core.proofs.Constants.{constant_integers}
use Rattle.mod_core.proofs.image.operand.place_constant.Goals as goal

pub image-requires : goal.image-requires
image-requires c = constant_integers c.args.term.now c.requires.is_constant

use Rattle.breakpoints.proofs.Others.{others_keep}
use Rattle.breakpoints.proofs.laws.others_keep_patches.Goals as goal

pub returns : goal.returns
returns c = others_keep

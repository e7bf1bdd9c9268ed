use Rattle.legality.proofs.Names.{stands_by}
use Rattle.legality.proofs.looks.stands_in.Goals as goal

pub returns : goal.returns
returns c = stands_by c.args.standing.now c.args.serial c.stands_in.result c.stands_in.ensures

use Rattle.legality.proofs.Names.{names_by}
use Rattle.legality.proofs.looks.names.Goals as goal

pub returns : goal.returns
returns c = names_by c.args.standing.now c.args.serial c.names.result c.names.ensures

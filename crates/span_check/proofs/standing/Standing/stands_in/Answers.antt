-- What is kept of the names is what the process names, whatever the words of the areas are.
use Rattle.span_check.proofs.Names.{instances_kept}
use Rattle.span_check.proofs.standing.Standing.stands_in.Goals as goal

pub returns : goal.returns
returns c = λ words. instances_kept words c.args.self.now c.args.serial c.is_among.result c.as_slice.result.now c.requires c.as_slice.ensures c.is_among.ensures

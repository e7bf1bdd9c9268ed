-- It stands not in the area; so it names it by a literal, if it does.
use Rattle.span_check.proofs.Names.{literals_kept}
use Rattle.span_check.proofs.standing.Standing.names.Goals as goal

pub returns-else-stands_in : goal.returns-else-stands_in
returns-else-stands_in c =
    λ words. literals_kept words c.args.self.now c.args.serial c.is_among.result c.as_slice.result.now c.requires c.stands_in.result c.as_slice.ensures c.is_among.ensures c.if-stands_in.false (c.stands_in.ensures words)

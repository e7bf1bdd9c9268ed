use Rattle.span_check.specs.Standings.{HasItsNames}
use Rattle.legality.specs.Looks.{stands_in}
use Rattle.legality.proofs.Lists.{all_next, any_found, any_none, any_passed}
use Rattle.legality.proofs.looks.some_stands.Goals as goal

pub stands_in-requires : goal.stands_in-requires
stands_in-requires c = all_next HasItsNames c.args.standings.now c.loop-standing.standing-index c.standing-item.result c.requires c.loop-standing-test.true c.standing-item.is

pub returns-then-stands_in : goal.returns-then-stands_in
returns-then-stands_in c =
    any_found (stands_in c.args.serial) c.args.standings.now c.loop-standing.standing-index c.loop-standing.invariant c.standing-item.result c.stands_in.result c.loop-standing-test.true c.standing-item.is c.stands_in.ensures c.if-stands_in.true

pub loop-standing-preserved : goal.loop-standing-preserved
loop-standing-preserved c =
    any_passed (stands_in c.args.serial) c.args.standings.now c.loop-standing.standing-index c.loop-standing.invariant c.standing-item.result c.stands_in.result c.loop-standing-test.true c.standing-item.is c.stands_in.ensures c.if-stands_in.false

pub returns : goal.returns
returns c = any_none (stands_in c.args.serial) c.args.standings.now c.loop-standing.standing-index c.loop-standing.invariant c.loop-standing-test.false

use Rattle.span_check.specs.Standings.{HasItsNames}
use Rattle.legality.specs.Looks.{names_area}
use Rattle.legality.proofs.Lists.{all_next, any_found, any_none, any_passed}
use Rattle.legality.proofs.looks.some_names.Goals as goal

pub names-requires : goal.names-requires
names-requires c = all_next HasItsNames c.args.standings.now c.loop-standing.standing-index c.standing-item.result c.requires c.loop-standing-test.true c.standing-item.is

pub returns-then-names : goal.returns-then-names
returns-then-names c =
    any_found (names_area c.args.serial) c.args.standings.now c.loop-standing.standing-index c.loop-standing.invariant c.standing-item.result c.names.result c.loop-standing-test.true c.standing-item.is c.names.ensures c.if-names.true

pub loop-standing-preserved : goal.loop-standing-preserved
loop-standing-preserved c =
    any_passed (names_area c.args.serial) c.args.standings.now c.loop-standing.standing-index c.loop-standing.invariant c.standing-item.result c.names.result c.loop-standing-test.true c.standing-item.is c.names.ensures c.if-names.false

pub returns : goal.returns
returns c = any_none (names_area c.args.serial) c.args.standings.now c.loop-standing.standing-index c.loop-standing.invariant c.loop-standing-test.false

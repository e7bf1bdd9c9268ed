-- The area that is found is that of the key.
use Rattle.staging.proofs.FormerAreas.{former_found, found_area, found_none}
use Rattle.staging.proofs.former.former_area.Goals as goal

pub returns-in-Area : goal.returns-in-Area
returns-in-Area c =
    former_found c.args.server.now c.args.key.0 c.args.pools.now c.in-Area.held.serial c.find.result c.requires.sound c.requires.stand (found_area c.args.server.now c.args.key.0 c.term.result c.in-Area.held c.term.ensures.value c.in-Area.is) c.find.ensures.some c.find.ensures.none

pub returns-in_default : goal.returns-in_default
returns-in_default c = found_none c.args.server.now c.args.key.0 c.term.result c.term.ensures.value c.in_default.not-Area

-- The area that is found is the live one.
use Rattle.staging.proofs.Announced.{found_live}
use Rattle.staging.proofs.renewing.live_area.Goals as goal

pub returns : goal.returns
returns c = found_live c.args.pools.now c.args.serial c.find.result c.requires.sound c.requires.live c.find.ensures.some c.find.ensures.none

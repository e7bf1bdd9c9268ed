use Rattle.anchors.specs.Holds.{view_of, anchors_of}
use Rattle.anchors.proofs.Holding.{all_others}
use Rattle.anchors.proofs.holds.hold.Goals as goal

-- where there is no place, each anchor names another area
pub returns-in-None-clause-full : goal.returns-in-None-clause-full
returns-in-None-clause-full g c = all_others (anchors_of (view_of c.args.member.now) c.args.process) c.args.area.serial c.requires.unkilled (c.place_for.ensures.none c.in-None.is)

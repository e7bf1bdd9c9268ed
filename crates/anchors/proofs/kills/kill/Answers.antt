use Rattle.anchors.specs.Holds.{view_of}
use Rattle.anchors.proofs.Killing.{killed_now, kill_told}
use Rattle.anchors.proofs.kills.kill.Goals as goal

-- the anchor then tells of the kill
pub returns-in-Some-clause-told : goal.returns-in-Some-clause-told
returns-in-Some-clause-told g c =
    let old = view_of c.args.member.now in
    kill_told c.args.process c.args.area.serial old (view_of c.store_slot.new.member)
    (killed_now old c.args.process c.args.area.serial c.in-Some.place c.anchor-word.result c.in-Some.ensures.found c.anchor-word.ensures c.store_slot.new.member.seat.me.0 c.store_slot.ensures.view)

use Rattle.anchors.specs.Holds.{view_of}
use Rattle.anchors.proofs.Holding.{hold_may, held_now}
use Rattle.anchors.proofs.holds.name_at.Goals as goal

-- the anchor may become this word
pub store_slot-requires-clause-may : goal.store_slot-requires-clause-may
store_slot-requires-clause-may g c =
    hold_may c.args.shared.now.table.shared.key (view_of c.args.member.now) c.args.process c.args.serial c.args.place c.anchor-word.result c.named_word-named.result c.args.kind c.requires.run c.requires.unkilled c.requires.may c.requires.place c.anchor-word.ensures c.named_word-named.ensures

-- the slot then names it
pub returns-then-named-word-clause-held : goal.returns-then-named-word-clause-held
returns-then-named-word-clause-held g c =
    held_now (view_of c.args.member.now) c.store_slot.new.member.seat.me.0 c.args.process c.args.serial c.args.place c.anchor-word.result c.named_word-named.result c.args.kind c.requires.unkilled c.requires.may c.requires.place c.anchor-word.ensures c.named_word-named.ensures c.store_slot.ensures.view

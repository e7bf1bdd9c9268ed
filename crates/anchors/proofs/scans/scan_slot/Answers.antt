use Rattle.std.proofs.Common.{Bool, ◌||◌, sym, ap, ◌∙◌, arith}
use Rattle.shared_words.specs.Seats.{writer_of}
use Rattle.shared_words.specs.Slots.{look_kind}
use Rattle.anchors.proofs.SlotWalks.{may_still, steps_begin, steps_next, steps_named}
use Rattle.anchors.proofs.scans.scan_slot.Goals as goal

-- the turn word
pub loop-place-init : goal.loop-place-init
loop-place-init g c =
    let load = c.load_slot-turn in
    steps_begin c.args.shared.now.table.shared.table_id c.args.shared.now.table.shared.key c.args.area c.args.kind c.args.process load.result c.args.writer.now load.new.writer load.ensures.token load.ensures.same load.ensures.generation load.ensures.view

pub load_slot-word-requires-clause-token : goal.load_slot-word-requires-clause-token
load_slot-word-requires-clause-token g c = c.loop-place.invariant.token

-- the look goes on
pub load_slot-word-requires-clause-may : goal.load_slot-word-requires-clause-may
load_slot-word-requires-clause-may g c =
    (c.requires.kind, may_still (writer_of c.args.writer.now.seat.me.0) (writer_of c.loop-place.writer.seat.me.0) (look_kind c.args.kind) c.args.area.serial c.loop-place.invariant.looked.more c.requires.may)

-- an anchor that names the area ends it
pub returns-then-names-clause-more : goal.returns-then-names-clause-more
returns-then-names-clause-more g c =
    (steps_named c.args.shared.now.table.shared.table_id c.args.shared.now.table.shared.key c.args.area c.args.kind c.args.process c.load_slot-turn.result c.args.writer.now c.loop-place.place c.loop-place.killed c.loop-place.writer c.load_slot-word.new.writer c.load_slot-word.result c.loop-place.invariant c.load_slot-word.ensures.view
    (sym c.names.ensures ∙ c.if-names.true) (omega (arith, c.loop-place-test.true))).1

-- one more is clear
pub loop-place-preserved : goal.loop-place-preserved
loop-place-preserved g c =
    let load = c.load_slot-word in
    steps_next c.args.shared.now.table.shared.table_id c.args.shared.now.table.shared.key c.args.area c.args.kind c.args.process c.load_slot-turn.result c.args.writer.now c.loop-place.place c.loop-place.killed c.loop-place.writer load.new.writer load.result c.loop-place.invariant load.ensures.view load.ensures.token load.ensures.same load.ensures.generation
    (sym c.names.ensures ∙ c.if-names.false) _ (ap (λ (b : Bool). c.loop-place.killed || b) c.tells_of_kill-killed.ensures)

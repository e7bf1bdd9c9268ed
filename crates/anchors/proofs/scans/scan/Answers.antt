use Rattle.std.proofs.Common.{◌∙◌, arith}
use Rattle.shared_words.specs.Seats.{writer_of}
use Rattle.shared_words.specs.Slots.{look_kind}
use Rattle.anchors.proofs.Scanning.{none_more, more_again}
use Rattle.anchors.proofs.SlotWalks.{may_still, same_again}
use Rattle.anchors.proofs.AllSlots.{none_looked, slots_next, slots_named, all_clear}
use Rattle.anchors.proofs.ClearNow.{stays_out}
use Rattle.anchors.proofs.scans.scan.Goals as goal

-- none at first
pub loop-process-init : goal.loop-process-init
loop-process-init g c = none_looked c.args.shared.now.table.shared.table_id c.args.shared.now.table.shared.key c.args.kind c.args.area.serial c.args.writer.now c.requires.token (none_more (writer_of c.args.writer.now.seat.me.0))

pub scan_slot-requires-clause-token : goal.scan_slot-requires-clause-token
scan_slot-requires-clause-token g c = c.loop-process.invariant.token

-- the look goes on
pub scan_slot-requires-clause-may : goal.scan_slot-requires-clause-may
scan_slot-requires-clause-may g c = may_still (writer_of c.args.writer.now.seat.me.0) (writer_of c.loop-process.writer.seat.me.0) (look_kind c.args.kind) c.args.area.serial c.loop-process.invariant.more c.requires.may

-- an anchor that names the area ends it
pub returns-in-Named-clause-token : goal.returns-in-Named-clause-token
returns-in-Named-clause-token g c = c.scan_slot.ensures.token

pub returns-in-Named-clause-same : goal.returns-in-Named-clause-same
returns-in-Named-clause-same g c = same_again _ _ _ c.loop-process.invariant.same c.scan_slot.ensures.same

pub returns-in-Named-clause-generation : goal.returns-in-Named-clause-generation
returns-in-Named-clause-generation g c = c.scan_slot.ensures.generation ∙ c.loop-process.invariant.generation

pub returns-in-Named-clause-more : goal.returns-in-Named-clause-more
returns-in-Named-clause-more g c = more_again (writer_of c.args.writer.now.seat.me.0) (writer_of c.loop-process.writer.seat.me.0) (writer_of c.scan_slot.new.writer.seat.me.0) c.loop-process.invariant.more c.scan_slot.ensures.more

pub returns-in-Named-clause-cause : goal.returns-in-Named-clause-cause
returns-in-Named-clause-cause g c = (
  c.loop-process-test.true,
  slots_named c.args.shared.now.table.shared.table_id c.args.shared.now.table.shared.key c.args.kind c.args.area.serial c.args.writer.now c.loop-process.process c.loop-process.killed c.loop-process.writer c.scan_slot.new.writer c.loop-process.invariant c.scan_slot.ensures.more c.in-Named.turn c.in-Named.place c.in-Named.word c.in-Named.ensures.cause,
)

-- one more slot is clear
pub loop-process-preserved : goal.loop-process-preserved
loop-process-preserved g c =
    slots_next c.args.shared.now.table.shared.table_id c.args.shared.now.table.shared.key c.args.kind c.args.area.serial c.args.writer.now c.loop-process.process c.loop-process.killed c.loop-process.writer c.scan_slot.new.writer c.loop-process.invariant c.scan_slot.ensures.more c.scan_slot.ensures.token c.scan_slot.ensures.same c.scan_slot.ensures.generation c.in-Clear.told c.in-Clear.ensures.cause

-- all are
pub returns-clause-token : goal.returns-clause-token
returns-clause-token g c = c.loop-process.invariant.token

pub returns-clause-same : goal.returns-clause-same
returns-clause-same g c = c.loop-process.invariant.same

pub returns-clause-generation : goal.returns-clause-generation
returns-clause-generation g c = c.loop-process.invariant.generation

pub returns-clause-more : goal.returns-clause-more
returns-clause-more g c = c.loop-process.invariant.more

-- now and later
pub returns-clause-means : goal.returns-clause-means
returns-clause-means g c =
    let clear = all_clear c.args.shared.now.table.shared.table_id c.args.shared.now.table.shared.key c.args.kind c.args.area.serial c.args.writer.now c.loop-process.writer c.loop-process.process c.loop-process.killed c.loop-process.invariant c.loop-process-test.false (omega (arith, c.loop-process.auto.process-end)) c.requires.may in
    stays_out g.N.Served.served c.args.shared.now.table.shared.key (writer_of c.loop-process.writer.seat.me.0) (look_kind c.args.kind) c.args.area.serial clear.1

pub returns-clause-cause : goal.returns-clause-cause
returns-clause-cause g c =
    all_clear c.args.shared.now.table.shared.table_id c.args.shared.now.table.shared.key c.args.kind c.args.area.serial c.args.writer.now c.loop-process.writer c.loop-process.process c.loop-process.killed c.loop-process.invariant c.loop-process-test.false (omega (arith, c.loop-process.auto.process-end)) c.requires.may

use Rattle.std.proofs.Common.{◌≡◌, ◌+◌, drop, arith}
use Rattle.term_core.proofs.Lefts.{left_from}
use Rattle.run_log.specs.Journal.{publishes}
use Rattle.legality.specs.SpawnNumbers.{LaterSpawnsFit}
use Rattle.legality.proofs.Equivalences.{through, of_equal, never, stepped, refused}
use Rattle.legality.proofs.SpawnSteps.{all_to_come}
use Rattle.legality.proofs.shape.spawns.spawns_come_first.Goals as goal

-- at the start all spawns are still to come
pub loop-entry-init : goal.loop-entry-init
loop-entry-init c =
    record { right = all_to_come c.args.script.now c.args.log.now _ _ _ c.requires.in_order c.first_numbers-numbers.ensures.first (omega arith) c.as_slice-processes.ensures c.as_slice-entry-items.ensures; few = omega arith }

-- a process begins too early
pub returns-then-not-has_seen_spawn : goal.returns-then-not-has_seen_spawn
returns-then-not-has_seen_spawn c =
    let here = through c.loop-entry.invariant.right (of_equal (LaterSpawnsFit c.as_slice-processes.result.now c.loop-entry.published c.loop-entry.numbers) _ _ (left_from _ _ _ c.entry-item.is c.loop-entry-test.true)) in
    never (refused _ c.if-not-has_seen_spawn.true (through here (c.has_seen_spawn.ensures (drop (c.loop-entry.entry-index + 1) c.as_slice-entry-items.result.now))))

-- an entry that fits
pub loop-entry-preserved : goal.loop-entry-preserved
loop-entry-preserved c =
    let here = through c.loop-entry.invariant.right (of_equal (LaterSpawnsFit c.as_slice-processes.result.now c.loop-entry.published c.loop-entry.numbers) _ _ (left_from _ _ _ c.entry-item.is c.loop-entry-test.true)) in
    let step = stepped _ c.if-not-has_seen_spawn.false (through here (c.has_seen_spawn.ensures (drop (c.loop-entry.entry-index + 1) c.as_slice-entry-items.result.now))) in
    let counted : c.loop-entry.published + publishes c.entry-item.result ≡ c.loop-entry.published + c.publishes-published.result = omega (arith, c.publishes-published.ensures.value) in
    record {
      right = through step (of_equal (λ n. LaterSpawnsFit c.as_slice-processes.result.now n c.has_seen_spawn.new.numbers (drop (c.loop-entry.entry-index + 1) c.as_slice-entry-items.result.now)) _ _ counted);
      few = omega arith;
    }

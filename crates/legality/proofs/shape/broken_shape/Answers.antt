use Rattle.legality.proofs.Judged.{failed}
use Rattle.legality.proofs.Shaped.{turns_rise}
use Rattle.legality.proofs.shape.broken_shape.Goals as goal

pub returns-then-not-is_complete-clause-broken : goal.returns-then-not-is_complete-clause-broken
returns-then-not-is_complete-clause-broken c = failed c.is_complete.result c.if-not-is_complete.true c.is_complete.ensures

pub returns-then-not-has_commands_in_order-clause-broken : goal.returns-then-not-has_commands_in_order-clause-broken
returns-then-not-has_commands_in_order-clause-broken c = λ holds. failed c.has_commands_in_order.result c.if-not-has_commands_in_order.true c.has_commands_in_order.ensures holds.commands

pub returns-then-not-spawns_come_first-clause-broken : goal.returns-then-not-spawns_come_first-clause-broken
returns-then-not-spawns_come_first-clause-broken c = failed c.spawns_come_first.result c.if-not-spawns_come_first.true c.spawns_come_first.ensures

pub returns-then-not-snapshots_fit-clause-broken : goal.returns-then-not-snapshots_fit-clause-broken
returns-then-not-snapshots_fit-clause-broken c = λ holds. failed c.snapshots_fit.result c.if-not-snapshots_fit.true c.snapshots_fit.ensures (record { counts = holds.counts; rising = holds.rising })

pub returns-then-not-spans_rise-clause-broken : goal.returns-then-not-spans_rise-clause-broken
returns-then-not-spans_rise-clause-broken c = λ holds. failed c.spans_rise.result c.if-not-spans_rise.true c.spans_rise.ensures (turns_rise c.args.script.now c.args.log.now holds)

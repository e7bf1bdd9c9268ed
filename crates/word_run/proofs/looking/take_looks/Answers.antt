use Rattle.std.proofs.Common.{sym, subst}
use denote.Param.Send.{sendable}
use Rattle.std.proofs.Crossing.{crosses}
use Rattle.observers.specs.Observing.{Observes}
use Rattle.word_run.specs.declared.onlooker.Onlooker.{Onlooker}
use Rattle.word_run.proofs.Crossing.{onlooker_send, shared_sync, exports_sync}
use Rattle.word_run.proofs.looking.take_looks.Goals as goal

pub for_each_mut-requires-send-T : goal.for_each_mut-requires-send-T
for_each_mut-requires-send-T g c κs within = search (onlooker_send, sendable) depth 20

pub for_each_mut-requires-sync-F : goal.for_each_mut-requires-sync-F
for_each_mut-requires-sync-F g c κs within =
    let r = c.type_bounds.sync-R in
    let k = c.type_bounds.send-K in
    search (shared_sync, exports_sync, sendable, crosses) depth 30

-- each observer may look
pub for_each_mut-requires-clause-accepts : goal.for_each_mut-requires-clause-accepts
for_each_mut-requires-clause-accepts g c κs within = λ i p low at.
    let may = subst (λ (o : Onlooker). Observes g.K.Naming.names c.args.functions.now c.args.shared.now.table.shared.table_id o.observer) (sym at) (c.requires.observe i p.now low) in
    (c.requires.exports, may)

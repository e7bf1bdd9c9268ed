use Rattle.std.proofs.Common.{length, sym, subst}
use denote.Param.Send.{sendable}
use Rattle.std.proofs.Crossing.{crosses}
use Rattle.word_run.specs.Rounds.{CanGo}
use Rattle.word_run.proofs.Crossing.{inbox_sync, seat_send, shared_sync, sight_sync, slicing_send}
use Rattle.word_run.proofs.round.take_round.Goals as goal

pub for_each_mut-requires-send-T : goal.for_each_mut-requires-send-T
for_each_mut-requires-send-T g c κs within =
    let t = c.type_bounds.send-T in
    let i = c.type_bounds.send-I in
    search (seat_send, sendable) depth 20

pub for_each_mut-requires-sync-F : goal.for_each_mut-requires-sync-F
for_each_mut-requires-sync-F g c κs within =
    let r = c.type_bounds.sync-R in
    let k = c.type_bounds.send-K in
    let n = c.type_bounds.send-N in
    let t = c.type_bounds.send-T in
    let i = c.type_bounds.send-I in
    let j = c.type_bounds.sync-I in
    let e = c.type_bounds.send-E in
    let y = c.type_bounds.sync-G in
    search (shared_sync, sight_sync, inbox_sync, slicing_send, sendable, crosses) depth 30

-- each scheduler may have its slice
pub for_each_mut-requires-clause-accepts : goal.for_each_mut-requires-clause-accepts
for_each_mut-requires-clause-accepts g c κs within = λ i p low at.
    let may = subst (CanGo g.K.Naming.names c.args.shared.now.table.shared.table_id c.args.shared.now.table.shared.key (length c.args.inboxes.now)) (sym at) (c.requires.go i p.now low) in
    let k = c.type_bounds.send-K in
    let n = c.type_bounds.send-N in
    let t = c.type_bounds.send-T in
    let u = c.type_bounds.send-I in
    let e = c.type_bounds.send-E in
    let a = c.type_bounds.sync-K in
    let b = c.type_bounds.sync-N in
    let d = c.type_bounds.sync-T in
    let f = c.type_bounds.sync-I in
    let h = c.type_bounds.sync-E in
    let r = c.type_bounds.sync-R in
    let y = c.type_bounds.sync-G in
    (c.requires.homes, (c.requires.words, (c.requires.table, (c.requires.inboxes, (c.requires.exports, (c.requires.members, (may, search sendable depth 20)))))))

use denote.Param.Send.{sendable}
use Rattle.std.proofs.Crossing.{crosses}
use Rattle.word_run.proofs.Crossing.{exports_sync, onlooker_send, shared_sync}
use Rattle.word_run.proofs.round.take_both.Goals as goal

pub join-requires-send-F : goal.join-requires-send-F
join-requires-send-F g c κs within =
    let r = c.type_bounds.sync-R in
    let k = c.type_bounds.send-K in
    search (onlooker_send, shared_sync, exports_sync, sendable, crosses) depth 30

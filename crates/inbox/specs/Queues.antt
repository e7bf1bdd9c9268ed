-- The name of an inbox's queue: contracts of the queue tell it, and no value of it is made.
use Rattle.std.specs.Global.{Global}
use Rattle.crossbeam_queue.specs.SegTies.{SegId}

-- the name of a queue
abbrev pub QueueId : Type 0
QueueId = SegId Global

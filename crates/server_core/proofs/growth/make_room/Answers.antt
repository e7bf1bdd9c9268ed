-- A bigger block has room ahead, and so has the list's own where no bigger one came.
use Rattle.std.proofs.Common.{ap, arith, length}
use Rattle.std.specs.Prelude.{vec_capacity}
use Rattle.server_core.proofs.Growing.{room_ahead}
use Rattle.server_core.proofs.growth.make_room.Goals as goal

pub returns-in-Some-clause-ahead : goal.returns-in-Some-clause-ahead
returns-in-Some-clause-ahead g c =
    let block = rw c.in-Some.is at c.requires.room.bigger in
    let len = rw c.unwrap.ensures at c.append.ensures.len in
    room_ahead _ c.requires.room.power (vec_capacity c.append.new.self) (omega (arith, len, ap length block.empty, c.requires.room.fits)) (omega (arith, block.room, c.append.ensures.capacity))

pub returns-in-None-clause-ahead : goal.returns-in-None-clause-ahead
returns-in-None-clause-ahead g c =
    let near = rw c.in-None.is at c.requires.room.bigger in
    room_ahead _ c.requires.room.power _ c.requires.room.fits (c.requires.ahead c.requires.room.power near)

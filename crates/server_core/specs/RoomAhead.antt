-- What the tables that only grow keep: room up to the next power of two, so that their room follows from their length.
use Rattle.std.specs.Prelude.{vec_capacity, vec_len}
use Rattle.server_core.specs.Rooms.{HasRoomAhead}
use Rattle.server_core.specs.declared.areas.AreaTable.TheInside.{Inside as Areas}
use Rattle.server_core.specs.declared.serials.SerialHistory.TheInside.{Inside as Serials}

-- the table of areas has room ahead
abbrev pub HasAreasAhead : Areas → Type 0
HasAreasAhead t = HasRoomAhead (vec_len t.areas) (vec_capacity t.areas)

-- the released serials have room ahead
abbrev pub HasSerialsAhead : Serials → Type 0
HasSerialsAhead t = HasRoomAhead (vec_len t.serials) (vec_capacity t.serials)

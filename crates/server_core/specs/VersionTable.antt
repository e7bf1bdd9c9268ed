-- The table of current and old code: a hash map from a module's atom, in the order of the first loads, and a count of live instances.
use Rattle.std.specs.Prelude.{◌≡◌, ℕ, map}
use Rattle.indexmap.specs.IndexMap.{spare}
use Rattle.server_core.specs.declared.versions.Serials.{Serials}
use Rattle.server_core.specs.declared.versions.VersionTable.TheInside.{Inside}
use Rattle.server_core.specs.Rooms.{Rooms}
use Rattle.server_core.specs.ServerState.{Versions, live_count}

-- an entry of the map, with the module's atom
abbrev pub versions_of : ℕ × Serials → Versions
versions_of e = record { name = e.0; current = e.1.current; old = e.1.old }

-- what a table says, and for how many modules more it has room
abbrev pub rooms_of : Inside → Rooms
rooms_of t = record { versions = map versions_of t.serials.entries; room = spare t.serials }

-- the count is that of the live instances
abbrev pub IsCounted : Inside → Type 0
IsCounted t = t.live ≡ live_count (map versions_of t.serials.entries)

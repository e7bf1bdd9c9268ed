-- The table of persistent terms: a hash map from a key's atom, in the order in which the keys came to hold a term, and a count of their areas.
use Rattle.std.specs.Prelude.{◌≡◌, ℕ, map}
use Rattle.indexmap.specs.IndexMap.{spare}
use Rattle.term_core.specs.Plain.{plain}
use Rattle.server_core.specs.declared.keys.Held.{Held}
use Rattle.server_core.specs.declared.keys.KeyTable.TheInside.{Inside}
use Rattle.server_core.specs.Rooms.{KeyRooms}
use Rattle.server_core.specs.ServerState.{Persistent, live_areas}

-- an entry of the map, with the key's atom
abbrev pub persistent_in : ℕ × Held → Persistent
persistent_in e = record { key = e.0; term = plain e.1.term; area = e.1.area }

-- what a table says, and for how many keys more it has room
abbrev pub rooms_in : Inside → KeyRooms
rooms_in t = record { persistents = map persistent_in t.held.entries; room = spare t.held }

-- the count is that of the areas
abbrev pub AreCounted : Inside → Type 0
AreCounted t = t.areas ≡ live_areas (map persistent_in t.held.entries)

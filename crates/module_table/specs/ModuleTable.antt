-- What contracts see of a table of modules: its hash map as the plain list, in the order in which the modules came in.
use Rattle.std.specs.Prelude.{ℕ, map}
use Rattle.indexmap.specs.IndexMap.{spare}
use Rattle.module_table.specs.declared.table.Serials.{Serials}
use Rattle.module_table.specs.declared.table.ModuleTable.TheInside.{Inside}
use Rattle.module_table.specs.Modules.{ModuleInstances, Modules}

-- an entry of the map, with the module's atom
abbrev pub instances_of : ℕ × Serials → ModuleInstances
instances_of e = record { name = e.0; current = e.1.current; old = e.1.old }

-- what a table says, and for how many modules more it has room
abbrev pub modules_of : Inside → Modules
modules_of t = record { instances = map instances_of t.serials.entries; room = spare t.serials }

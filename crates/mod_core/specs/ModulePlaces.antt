-- The places of modules in a list, by name and version.
use Rattle.std.specs.Prelude.{◌≡◌, ℕ, ◌==◌, ◌&&◌, Bool, List, position}
use Rattle.std.specs.Map.{lookup}
use Rattle.mod_core.specs.declared.code.Module.{Module}
use Rattle.mod_core.specs.declared.module_list.ModuleKey.{ModuleKey}

-- the module has this name and this version
abbrev pub is_of_key : ModuleKey → Module → Bool
is_of_key key m = m.name.0 == key.name && m.version == key.version

-- both keys are of one name and one version
abbrev pub is_same_key : ModuleKey → ModuleKey → Bool
is_same_key a b = a.name == b.name && a.version == b.version

-- the entries of an index have, for each name and version, the place of the first module of the list that has them; where none has, there is no entry
abbrev pub TellsPlaces : List (ModuleKey × ℕ) → List Module → Type 0
TellsPlaces entries modules = (key : ModuleKey) → lookup (is_same_key key) entries ≡ position (is_of_key key) modules

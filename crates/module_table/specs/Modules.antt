-- Two instances per module: the current one, which calls from outside reach, and the old one, in which processes may still stand. Each is a serial.
-- Source: erts internal documentation, CodeLoading, on current and old code. A plain list; the code has a hash map.
use Rattle.std.specs.Prelude.{ℕ, ◌==◌, ◌||◌, Bool, List, [], ◌∷◌, Option, Some, None, is_some, if◌then◌else◌}
use Rattle.module_table.specs.declared.fault.DropAnswer.{DropAnswer}
use Rattle.module_table.specs.declared.fault.DropAnswer.TheVariants.{Dropped, NotPurged, NotLoaded}

-- a module's current and old instance, by their serials
pub record ModuleInstances : Type 0 where
  pub name : ℕ
  pub current : Option ℕ
  pub old : Option ℕ

-- the instances of the modules, and for how many modules more there is room
pub record Modules : Type 0 where
  pub instances : List ModuleInstances
  pub room : ℕ

-- the current instance of a module among these
abbrev pub current_in : List ModuleInstances → ℕ → Option ℕ
current_in [] name = None
current_in (m ∷ ms) name = if name == m.name then m.current else current_in ms name

-- the old instance of a module among these
abbrev pub old_in : List ModuleInstances → ℕ → Option ℕ
old_in [] name = None
old_in (m ∷ ms) name = if name == m.name then m.old else old_in ms name

-- whether a module has an instance
abbrev pub has_instance : List ModuleInstances → ℕ → Bool
has_instance ms name = is_some (current_in ms name) || is_some (old_in ms name)

-- a module's instances take the place of those that it had
abbrev pub with_instances : List ModuleInstances → ModuleInstances → List ModuleInstances
with_instances [] new = new ∷ []
with_instances (m ∷ ms) new = if new.name == m.name then new ∷ ms else m ∷ with_instances ms new

-- the instance with a serial is current, and what was current is old
abbrev pub with_promoted : List ModuleInstances → ℕ → ℕ → List ModuleInstances
with_promoted ms name serial = with_instances ms (record { name = name; current = Some serial; old = current_in ms name })

-- what was current is old, and nothing is current
abbrev pub without_current : List ModuleInstances → ℕ → List ModuleInstances
without_current ms name = with_instances ms (record { name = name; current = None; old = current_in ms name })

-- nothing is old
abbrev pub without_old : List ModuleInstances → ℕ → List ModuleInstances
without_old ms name = with_instances ms (record { name = name; current = current_in ms name; old = None })

-- what dropping a module's current instance answers, by its current and its old one
abbrev pub drop_answer : Option ℕ → Option ℕ → DropAnswer
drop_answer current (Some old) = NotPurged old
drop_answer (Some serial) None = Dropped
drop_answer None None = NotLoaded

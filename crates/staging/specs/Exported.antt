-- Exports are staged: what each name reaches once a change is made.
-- Source: Erlang/OTP erts internal documentation, CodeLoading: all exports of a load are staged, and one store makes them active.
use Rattle.std.specs.Prelude.{◌==◌, if◌then◌else◌, List, [], ◌∷◌, Option, Some, None}
use Rattle.std.specs.Option.{option_map}
use Rattle.term_core.specs.declared.area.AreaRef.{AreaRef}
use Rattle.term_core.specs.declared.area.CodeRef.{CodeRef}
use Rattle.term_core.specs.declared.atom.Mfa.{Mfa}
use Rattle.mod_core.specs.declared.code.Module.{Module}
use Rattle.area_core.specs.declared.table.Published.{Published}
use Rattle.progress_words.specs.Tokens.{written_by}
use Rattle.server_core.specs.declared.change.Change.{Change}
use Rattle.server_core.specs.declared.change.Change.TheVariants.{BringIn, MakeOld}
use Rattle.server_core.specs.Decided.{Fits, change_made}
use Rattle.server_core.specs.ServerState.{ServerState, export_of}
use Rattle.code_index.specs.Staging.{Stages}
use Rattle.staging.specs.declared.tables.Tables.{Tables}
use Rattle.staging.specs.Upcoming.{IsUpcoming}

-- ---- one name

-- the function that a module exports under a name, in the area of its instance
abbrev pub export_in : Mfa → Module → AreaRef → Option CodeRef
export_in to m area = option_map (λ function. record { area = area; function = function }) (export_of m to)

-- the first of two, unless there is none
abbrev pub or_first : Option (Option CodeRef) → Option (Option CodeRef) → Option (Option CodeRef)
or_first None first = first
or_first (Some last) first = Some last

-- what one module is about
abbrev pub reached_in : Module → AreaRef → Mfa → Option (Option CodeRef)
reached_in m area to = if m.name.0 == to.«module».0 then Some (export_in to m area) else None

-- what a name reaches by the modules that come in with these areas, if its module is one of them; the last one of a name counts
abbrev pub reached_by : List Module → List AreaRef → Mfa → Option (Option CodeRef)
reached_by [] areas to = None
reached_by (m ∷ ms) [] to = None
reached_by (m ∷ ms) (area ∷ areas) to = or_first (reached_by ms areas to) (reached_in m area to)

-- what a name reaches once the change is made, if the change is about its module; what comes in has these areas
abbrev pub reached_after : Change → List AreaRef → Mfa → Option (Option CodeRef)
reached_after (BringIn generation modules areas versions) taken to = reached_by modules.items taken to
reached_after (MakeOld generation name) taken to = if name.0 == to.«module».0 then Some None else None
reached_after change taken to = None

-- the change fits a state of the server, which is all that the words ask of its modules
abbrev pub FitsSome : Change → Type 0
FitsSome change = (s : ServerState) × Fits s change

-- ---- all names

-- what is staged is what the state exports that the change leaves
abbrev pub AreExported : List Mfa → ServerState → Change → Tables → Type 0
AreExported names s change t = (p : Published) → IsUpcoming names (change_made s change).state t.pools p → Stages t.index p (written_by t.writer)

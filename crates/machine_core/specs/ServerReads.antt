-- What a turn reads of the plain server's state.
-- Source: erts internal documentation, CodeLoading; places count words of an instance's image, whose layout is this project's own.
use Rattle.std.specs.Prelude.{ℕ, ◌+◌, ◌==◌, List, [], ◌∷◌, length, Option, Some, None, is_some, unwrap_or, option_map, option_and_then, slice_get, if◌then◌else◌}
use Rattle.term_core.specs.declared.atom.AtomId.{AtomId}
use Rattle.term_core.specs.Plain.{term_of}
use Rattle.term_core.specs.PlainTerm.{PlainTerm}
use Rattle.mod_core.specs.declared.code.Function.{Function}
use Rattle.mod_core.specs.declared.code.Instr.{Instr}
use Rattle.mod_core.specs.declared.code.Module.{Module}
use Rattle.mod_core.specs.ModuleImage.{function_place, instr_len, place_in, placed, return_ok}
use Rattle.server_core.specs.ServerState.{Entry, ServerState, code_of, current_of, export_of, is_doomed, is_retired, is_traced, persistent_of, term_of_area}
use Rattle.machine_core.specs.Process.{PlainValue, literal, owned}
use Rattle.machine_core.specs.Reads.{Reads}

-- the instruction that stands at a place of code that begins at another; past its end a function returns ok
abbrev pub instr_from : ℕ → List Instr → ℕ → Instr
instr_from start [] place = return_ok
instr_from start (i ∷ is) place = if place == start then i else instr_from (start + instr_len i) is place

-- the code of a function of a module
abbrev pub code_at : Module → ℕ → List Instr
code_at m function = unwrap_or (option_map (λ f. f.code) (slice_get m.functions function)) []

-- the instruction that stands at a place of a function of a module, its target a place too
abbrev pub module_instr : Module → ℕ → ℕ → Instr
module_instr m function place = placed (place_in (function_place m function) (code_at m function)) (instr_from (function_place m function) (code_at m function) place)

-- the instruction that stands at a place of a function of an instance
abbrev pub instr_of : ServerState → Entry → ℕ → Instr
instr_of s e place = unwrap_or (option_map (λ m. module_instr m e.function place) (code_of s e.serial)) return_ok

-- how many functions an instance has; an area that is no instance has none
abbrev pub functions_of : ServerState → ℕ → ℕ
functions_of s serial = unwrap_or (option_map (λ m. length m.functions) (code_of s serial)) 0

-- a function of an instance
abbrev pub function_of : ServerState → Entry → Option Function
function_of s e = option_and_then (λ m. slice_get m.functions e.function) (code_of s e.serial)

-- how many arguments a function of an instance takes
abbrev pub arity_of : ServerState → Entry → ℕ
arity_of s e = unwrap_or (option_map (λ f. f.arity) (function_of s e)) 0

-- the place of the function's first instruction
abbrev pub place_of : ServerState → Entry → ℕ
place_of s e = unwrap_or (option_map (λ m. function_place m e.function) (code_of s e.serial)) 0

-- the atom that stands where a name is asked of what is not there
abbrev pub no_name : AtomId
no_name = record { 0 = 0 }

-- the name of an instance's module
abbrev pub module_name : ServerState → ℕ → AtomId
module_name s serial = unwrap_or (option_map (λ m. m.name) (code_of s serial)) no_name

-- the name of a function of an instance, without its module
abbrev pub function_name : ServerState → Entry → AtomId
function_name s e = unwrap_or (option_map (λ f. f.name) (function_of s e)) no_name

-- what a key holds, as a value: a complex term is a literal of its own area
abbrev pub persistent_value : PlainTerm → Option ℕ → PlainValue
persistent_value term None = owned (term_of term)
persistent_value term (Some serial) = literal serial (term_of term)

-- the value of a key, if it holds one
abbrev pub key_value : ServerState → ℕ → Option PlainValue
key_value s key = option_map (λ p. persistent_value p.term p.area) (persistent_of s key)

-- what a turn reads of a state
abbrev pub reads_of : ServerState → Reads
reads_of s =
    record {
      current = current_of s;
      export = λ serial to. option_and_then (λ m. export_of m to) (code_of s serial);
      functions = functions_of s;
      module_name = module_name s;
      function_name = function_name s;
      arity = arity_of s;
      first = place_of s;
      instr = instr_of s;
      traced = is_traced s;
      key = key_value s;
      is_term = λ serial. is_some (term_of_area s serial);
      doomed = is_doomed s;
      retired = is_retired s;
    }

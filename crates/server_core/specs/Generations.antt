-- Which generation in plain numbers a state of the server is: what each name reaches, what is traced, what each key holds, which instances are current and old, what is doomed and retired, and the image of each area that is not released.
-- Source: erts internal documentation, CodeLoading for export entries and for current and old code, Tracing for breakpoints; the manual pages `code` and `persistent_term`. The numbers of names and the images are this project's own.
use Rattle.std.specs.Prelude.{ℕ, zero, suc, ◌==◌, ◌&&◌, Bool, false, List, [], ◌∷◌, ◌++◌, map, position, Option, Some, None, IsSome, option_map, unwrap_or, if◌then◌else◌}
use Rattle.std.specs.Option.{option_to_list}
use Rattle.term_core.specs.declared.atom.Mfa.{Mfa}
use Rattle.term_core.specs.declared.generation.AreaWords.{AreaWords}
use Rattle.term_core.specs.declared.generation.FunctionRef.{FunctionRef}
use Rattle.term_core.specs.declared.generation.Generation.{Generation}
use Rattle.term_core.specs.declared.generation.Holding.{Holding}
use Rattle.term_core.specs.declared.generation.Holding.TheVariants.{Word, Area}
use Rattle.term_core.specs.declared.generation.KeyTerm.{KeyTerm}
use Rattle.term_core.specs.Image.{immediate_word}
use Rattle.term_core.specs.Plain.{term_of}
use Rattle.term_core.specs.PlainTerm.{PlainTerm}
use Rattle.server_core.specs.ServerState.{Entry, Persistent, ServerState, code_of, current_of, dispatch_of, is_serial_in, old_of, words_of_area}

-- ---- names of functions, numbered once

-- whether two names of functions are one
abbrev pub is_same_name : Mfa → Mfa → Bool
is_same_name to other = to.«module».0 == other.«module».0 && (to.name.0 == other.name.0 && to.arity == other.arity)

-- the number of a name, counted from 0
abbrev pub number_of_name : List Mfa → Mfa → Option ℕ
number_of_name names to = position (is_same_name to) names

-- each name under which a current instance exports a function has a number; a name without one reaches nothing
abbrev pub AreNumbered : List Mfa → ServerState → Type 0
AreNumbered names s = (to : Mfa) → IsSome (dispatch_of s to) → IsSome (number_of_name names to)

-- ---- the parts of a generation

-- a function in plain numbers
abbrev pub function_ref : Entry → FunctionRef
function_ref e = record { serial = e.serial; function = e.function }

-- what a key holds: an integer or an atom by its word, a tuple or a list by its area
abbrev pub holding_of : PlainTerm → Option ℕ → Holding
holding_of term None = Word (immediate_word (term_of term))
holding_of term (Some serial) = Area serial

-- a key with what it holds
abbrev pub key_term : Persistent → KeyTerm
key_term p = record { key = record { 0 = p.key }; holding = holding_of p.term p.area }

-- whether this serial is there and is that one
abbrev pub is_serial : Option ℕ → ℕ → Bool
is_serial None serial = false
is_serial (Some n) serial = n == serial

-- whether an area is an instance that is the current code of its module
abbrev pub is_current_code : ServerState → ℕ → Bool
is_current_code s serial = unwrap_or (option_map (λ m. is_serial (current_of s m.name.0) serial) (code_of s serial)) false

-- whether an area is an instance that is the old code of its module
abbrev pub is_old_code : ServerState → ℕ → Bool
is_old_code s serial = unwrap_or (option_map (λ m. is_serial (old_of s m.name.0) serial) (code_of s serial)) false

-- the serials below one that pass a test, the least first
abbrev pub serials_below : (ℕ → Bool) → ℕ → List ℕ
serials_below test zero = []
serials_below test (suc n) = serials_below test n ++ (if test n then n ∷ [] else [])

-- the words of an area that is not released
abbrev pub kept_words : ServerState → ℕ → Option (List ℕ)
kept_words s serial = if is_serial_in s.released serial then None else words_of_area s serial

-- an area with its image, if it is not released
abbrev pub kept_area : ServerState → ℕ → Option AreaWords
kept_area s serial = option_map (λ words. record { serial = serial; words = words }) (kept_words s serial)

-- the areas with serials below one that are not released, each with its image, in the order of their serials
abbrev pub kept_areas : ServerState → ℕ → List AreaWords
kept_areas s zero = []
kept_areas s (suc n) = kept_areas s n ++ option_to_list (kept_area s n)

-- ---- the whole

-- the generation of a state, by these numbers of names
abbrev pub generation_of : List Mfa → ServerState → Generation
generation_of names s =
    record {
      exports = map (λ to. option_map function_ref (dispatch_of s to)) names;
      traced = map function_ref s.traced;
      keys = map key_term s.keys;
      current = serials_below (is_current_code s) s.next_serial;
      old = serials_below (is_old_code s) s.next_serial;
      doomed = s.doomed;
      retired = s.retired;
      areas = kept_areas s s.next_serial;
    }

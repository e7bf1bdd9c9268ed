-- The state of the code server: per module a current and an old instance, the module of each instance, the persistent terms, and what is traced, doomed, retired and released.
-- Source: the manual pages `code` and `persistent_term`, and erts internal documentation, CodeLoading and Tracing. Plain lists; the code has tables, and later blocks.
use Rattle.std.specs.Prelude.{◌≡◌, ℕ, ◌+◌, ◌<◌, ◌≤◌, Bool, true, false, ◌&&◌, ◌==◌, ◌≢◌, IsTrue, List, [], ◌∷◌, drop, length, Option, Some, None, is_some, IfSome, IsSomeAnd, option_map, option_and_then, slice_get, position, if◌then◌else◌}
use Rattle.std.specs.List.{list_any}
use Rattle.term_core.specs.declared.area.CodeRef.{CodeRef}
use Rattle.term_core.specs.declared.area.Found.{Found}
use Rattle.term_core.specs.declared.area.Found.TheVariants.{Absent, Word, Area}
use Rattle.term_core.specs.declared.term_text.TheConstants.{MOST_WORDS}
use Rattle.term_core.specs.Image.{image_of, immediate_word, is_immediate, IsPlainTerm}
use Rattle.term_core.specs.Plain.{term_of}
use Rattle.term_core.specs.PlainTerm.{PlainTerm, term_words}
use Rattle.term_core.specs.declared.atom.Mfa.{Mfa}
use Rattle.mod_core.specs.declared.code.Function.{Function}
use Rattle.mod_core.specs.declared.code.Module.{Module}
use Rattle.mod_core.specs.Module.{IsModule}
use Rattle.mod_core.specs.ModuleImage.{module_image}
use Rattle.server_core.specs.declared.command.TheConstants.{MOST_INSTANCES, MOST_KEYS, MOST_TERMS}

-- a loaded instance of a module; serials are numbered from 1 and never used again
pub record Instance : Type 0 where
  pub serial : ℕ
  pub code : Module

-- a complex term that was put: it is an area of its own, with a serial as an instance has
pub record TermArea : Type 0 where
  pub serial : ℕ
  pub term : PlainTerm

-- what a key holds: a term, and the serial of its area where it is complex
pub record Persistent : Type 0 where
  pub key : ℕ
  pub term : PlainTerm
  pub area : Option ℕ

-- the serials of a module's current and old code
pub record Versions : Type 0 where
  pub name : ℕ
  pub current : Option ℕ
  pub old : Option ℕ

-- a function of an instance: its serial, and the function's place in the module, counted from 0
pub record Entry : Type 0 where
  pub serial : ℕ
  pub function : ℕ

-- the state of the server after so many generations
pub record ServerState : Type 0 where
  pub generation : ℕ
  pub next_serial : ℕ
  -- every instance that was loaded, the oldest first
  pub instances : List Instance
  -- one for each module that was ever loaded, in the order of their first load
  pub versions : List Versions
  -- every complex term that was put, the oldest first; they share the serials of the instances
  pub terms : List TermArea
  -- the persistent terms, one for each key that holds one, in the order in which their keys came to hold one
  pub keys : List Persistent
  -- the functions with a breakpoint, the newest last; they stay traced while their instance is old
  pub traced : List Entry
  -- the old instance that is being purged, if one is: processes that stand in it are to end
  pub doomed : List ℕ
  -- the areas that were dropped and that a process may still name, in the order in which they were dropped
  pub retired : List ℕ
  -- the areas that were dropped and that no process names, in the order of their release
  pub released : List ℕ

-- generation 0: nothing is loaded, and no key holds a term
abbrev pub empty_state : ServerState
empty_state = record { generation = 0; next_serial = 1; instances = []; versions = []; terms = []; keys = []; traced = []; doomed = []; retired = []; released = [] }

-- the current code of a module among these
abbrev pub current_among : List Versions → ℕ → Option ℕ
current_among [] name = None
current_among (v ∷ vs) name = if name == v.name then v.current else current_among vs name

-- the old code of a module among these
abbrev pub old_among : List Versions → ℕ → Option ℕ
old_among [] name = None
old_among (v ∷ vs) name = if name == v.name then v.old else old_among vs name

-- the serial of a module's current code
abbrev pub current_of : ServerState → ℕ → Option ℕ
current_of s name = current_among s.versions name

-- the serial of a module's old code
abbrev pub old_of : ServerState → ℕ → Option ℕ
old_of s name = old_among s.versions name

-- the module of the instance with a serial among these
abbrev pub code_among : List Instance → ℕ → Option Module
code_among [] serial = None
code_among (i ∷ is) serial = if i.serial == serial then Some i.code else code_among is serial

-- the module of the instance with a serial
abbrev pub code_of : ServerState → ℕ → Option Module
code_of s serial = code_among s.instances serial

-- the term of the area with a serial among these
abbrev pub term_among : List TermArea → ℕ → Option PlainTerm
term_among [] serial = None
term_among (a ∷ areas) serial = if a.serial == serial then Some a.term else term_among areas serial

-- the complex term of the area with a serial
abbrev pub term_of_area : ServerState → ℕ → Option PlainTerm
term_of_area s serial = term_among s.terms serial

-- what a key holds among these
abbrev pub persistent_among : List Persistent → ℕ → Option Persistent
persistent_among [] key = None
persistent_among (p ∷ ps) key = if p.key == key then Some p else persistent_among ps key

-- what a key holds
abbrev pub persistent_of : ServerState → ℕ → Option Persistent
persistent_of s key = persistent_among s.keys key

-- the area of the complex term that a key holds, if it holds one
abbrev pub key_area : ServerState → ℕ → Option ℕ
key_area s key = option_and_then (λ p. p.area) (persistent_of s key)

-- what a reader of a key finds: nothing, the word of an integer or an atom, or the area of another term
pub data KeyFound : Type 0 where
  absent : KeyFound
  one_word : ℕ → KeyFound
  whole_area : ℕ → KeyFound

-- what a reader finds of a term with an area or none
abbrev pub found_in : PlainTerm → Option ℕ → KeyFound
found_in term None = one_word (immediate_word (term_of term))
found_in term (Some serial) = whole_area serial

-- what a reader finds of what a key holds
abbrev pub found_of : Option Persistent → KeyFound
found_of None = absent
found_of (Some p) = found_in p.term p.area

-- what a reader of a key finds
abbrev pub key_found : ServerState → ℕ → KeyFound
key_found s key = found_of (persistent_of s key)

-- an answer of the code, where the words of an area stand left out
abbrev pub found_as : Found → KeyFound
found_as Absent = absent
found_as (Word word) = one_word word
found_as (Area area) = whole_area area.serial

-- how many areas the persistent terms have
abbrev pub live_areas : List Persistent → ℕ
live_areas [] = 0
live_areas (p ∷ ps) = (if is_some p.area then 1 else 0) + live_areas ps

-- whether a function is exported under this name and arity
abbrev pub is_export : Mfa → Function → Bool
is_export to f = f.exported && (f.name.0 == to.name.0 && f.arity == to.arity)

-- the place of the function that a module exports under a name and arity
abbrev pub export_of : Module → Mfa → Option ℕ
export_of m to = position (is_export to) m.functions

-- the function that a reference names, where its words stand left out
abbrev pub entry_of : CodeRef → Entry
entry_of at = record { serial = at.area.serial; function = at.function }

-- what a call of m:f/a reaches: the exported function of the current code of m
abbrev pub dispatch_of : ServerState → Mfa → Option Entry
dispatch_of s to =
    option_and_then (λ serial. option_and_then (λ m. option_map (λ i. record { serial = serial; function = i }) (export_of m to)) (code_of s serial)) (current_of s to.«module».0)

-- whether a serial is among these
abbrev pub is_serial_in : List ℕ → ℕ → Bool
is_serial_in serials serial = list_any (λ n. n == serial) serials

-- the serial that stands behind the first place of this one, if it is among these and one does
abbrev pub serial_behind : List ℕ → ℕ → Option ℕ
serial_behind [] serial = None
serial_behind (n ∷ ns) serial = if n == serial then slice_get ns 0 else serial_behind ns serial

-- whether two functions of instances are one
abbrev pub is_same_entry : Entry → Entry → Bool
is_same_entry e other = e.serial == other.serial && e.function == other.function

-- whether a function of an instance has a breakpoint
abbrev pub is_traced : ServerState → Entry → Bool
is_traced s e = list_any (is_same_entry e) s.traced

-- whether an instance is being purged, so that a process that stands in it ends
abbrev pub is_doomed : ServerState → ℕ → Bool
is_doomed s serial = is_serial_in s.doomed serial

-- whether an area was dropped and not released
abbrev pub is_retired : ServerState → ℕ → Bool
is_retired s serial = is_serial_in s.retired serial

-- whether a function has this name and arity
abbrev pub is_named : Mfa → Function → Bool
is_named to f = f.name.0 == to.name.0 && f.arity == to.arity

-- the place of the function with this name and arity in a module, exported or local
abbrev pub function_named : Module → Mfa → Option ℕ
function_named m to = position (is_named to) m.functions

-- what a breakpoint at m:f/a is set on: the function, exported or local, of the current code of m
abbrev pub traceable_of : ServerState → Mfa → Option Entry
traceable_of s to =
    option_and_then (λ serial. option_and_then (λ m. option_map (λ i. record { serial = serial; function = i }) (function_named m to)) (code_of s serial)) (current_of s to.«module».0)

-- the words of an instance: its module's image with its serial in the first word
abbrev pub instance_image : ℕ → Module → List ℕ
instance_image serial m = serial ∷ drop 1 (module_image m)

-- the first that there is
abbrev pub first_words : Option (List ℕ) → Option (List ℕ) → Option (List ℕ)
first_words (Some words) later = Some words
first_words None later = later

-- the words of the area with a serial: an instance's image, or that of a complex term
abbrev pub words_of_area : ServerState → ℕ → Option (List ℕ)
words_of_area s serial = first_words (option_map (instance_image serial) (code_of s serial)) (option_map image_of (term_of_area s serial))

-- a word of the area with a serial
abbrev pub word_of : ServerState → ℕ → ℕ → Option ℕ
word_of s serial at = option_and_then (λ words. slice_get words at) (words_of_area s serial)

-- how many instances of a module are live
abbrev pub live_of : Versions → ℕ
live_of v = (if is_some v.current then 1 else 0) + (if is_some v.old then 1 else 0)

-- how many instances are live: current or old
abbrev pub live_count : List Versions → ℕ
live_count [] = 0
live_count (v ∷ vs) = live_of v + live_count vs

-- the instance with this serial is one of that module
abbrev pub IsInstanceOf : ServerState → ℕ → ℕ → Type 0
IsInstanceOf s name serial = IsSomeAnd (code_of s serial) (λ m. m.name.0 ≡ name)

-- an area that was dropped: it came in, and it is no module's current or old code, and no key's area
pub record IsDropped (s : ServerState) (serial : ℕ) : Type 0 where
  pub known : serial < s.next_serial
  pub not_current : (name : ℕ) → current_of s name ≢ Some serial
  pub not_old : (name : ℕ) → old_of s name ≢ Some serial
  pub not_held : (key : ℕ) → key_area s key ≢ Some serial

-- a term as a text can say it: of at most 64 words, its integers of 60 bits
pub record IsShortTerm (term : PlainTerm) : Type 0 where
  pub fits : IsPlainTerm term
  pub short : term_words term ≤ MOST_WORDS

-- the area of a complex term that was put
pub record IsTermArea (s : ServerState) (serial : ℕ) (term : PlainTerm) : Type 0 where
  pub sound : IsShortTerm term
  pub complex : is_immediate term ≡ false
  pub known : serial < s.next_serial
  pub no_code : code_of s serial ≡ None

-- what a key holds: an integer or an atom, or a complex term whose area has just that term
abbrev pub HasItsArea : ServerState → PlainTerm → Option ℕ → Type 0
HasItsArea s term None = is_immediate term ≡ true
HasItsArea s term (Some serial) = term_of_area s serial ≡ Some term

-- what is known of what a key holds
pub record IsPersistent (s : ServerState) (p : Persistent) : Type 0 where
  pub sound : IsShortTerm p.term
  pub area : HasItsArea s p.term p.area

-- the instance with this serial is the old code of some module
abbrev pub IsOldCode : ServerState → ℕ → Type 0
IsOldCode s serial = (name : ℕ) × (old_of s name ≡ Some serial)

-- what every state of the server keeps
pub record IsSound (s : ServerState) : Type 0 where
  pub modules : (serial : ℕ) → IfSome (code_of s serial) (λ m. IsModule m × (serial < s.next_serial))
  pub current : (name : ℕ) → IfSome (current_of s name) (IsInstanceOf s name)
  pub old : (name : ℕ) → IfSome (old_of s name) (IsInstanceOf s name)
  pub apart : (name serial : ℕ) → current_of s name ≡ Some serial → old_of s name ≢ Some serial
  pub one_doomed : length s.doomed ≤ 1
  pub doomed : (serial : ℕ) → IsTrue (is_doomed s serial) → IsOldCode s serial
  pub retired : (serial : ℕ) → IsTrue (is_retired s serial) → IsDropped s serial
  pub released : (serial : ℕ) → IsTrue (is_serial_in s.released serial) → IsDropped s serial
  pub live : live_count s.versions ≤ MOST_INSTANCES
  pub terms : (serial : ℕ) → IfSome (term_of_area s serial) (IsTermArea s serial)
  pub keys : (key : ℕ) → IfSome (persistent_of s key) (IsPersistent s)
  pub keys_apart : (key other serial : ℕ) → key_area s key ≡ Some serial → key_area s other ≡ Some serial → key ≡ other
  pub few_keys : length s.keys ≤ MOST_KEYS
  pub few_areas : live_areas s.keys ≤ MOST_TERMS

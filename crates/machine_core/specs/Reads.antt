-- What a turn reads of the code server, and nothing else: any record of this kind can be read, be it made of the server's lists or of words.
-- Source: erts internal documentation, CodeLoading, for what a call reaches; the other parts are what this project's call machine asks.
use Rattle.std.specs.Prelude.{◌≡◌, ◌<◌, ℕ, Bool, Option, Some, None, option_and_then, option_map}
use Rattle.term_core.specs.declared.atom.AtomId.{AtomId}
use Rattle.term_core.specs.declared.atom.Mfa.{Mfa}
use Rattle.mod_core.specs.declared.code.Instr.{Instr}
use Rattle.term_core.specs.Image.{immediate_word}
use Rattle.server_core.specs.ServerState.{Entry, KeyFound, absent, one_word, whole_area}
use Rattle.machine_core.specs.Process.{PlainFrame, PlainValue, literal, owned}

-- what a turn may ask of one generation of the server
pub record Reads : Type 0 where
  -- a module's current instance; of an instance, which its serial names: a function that it exports, how many it has, its module's name
  pub current : ℕ → Option ℕ
  pub export : ℕ → Mfa → Option ℕ
  pub functions : ℕ → ℕ
  pub module_name : ℕ → AtomId
  -- of a function: its name, without its module, its arguments, the place of its first instruction, the one at a place, and whether it has a breakpoint
  pub function_name : Entry → AtomId
  pub arity : Entry → ℕ
  pub first : Entry → ℕ
  pub instr : Entry → ℕ → Instr
  pub traced : Entry → Bool
  -- what a key holds (a complex term is a literal of its area); of an area: is it a complex term's, is its code being purged, is it dropped and not released
  pub key : ℕ → Option PlainValue
  pub is_term : ℕ → Bool
  pub doomed : ℕ → Bool
  pub retired : ℕ → Bool

-- what a call of m:f/a reaches: the function that the current instance of m exports
abbrev pub dispatched : Reads → Mfa → Option Entry
dispatched r to = option_and_then (λ serial. option_map (λ i. record { serial = serial; function = i }) (r.export serial to)) (r.current to.«module».0)

-- the name of a function of an instance: module, name and arity
abbrev pub mfa_of : Reads → Entry → Mfa
mfa_of r e = record { «module» = r.module_name e.serial; name = r.function_name e; arity = r.arity e }

-- the function that a frame runs
abbrev pub entry_at : PlainFrame → Entry
entry_at f = record { serial = f.serial; function = f.function }

-- the next instruction of a frame
abbrev pub instr_at : Reads → PlainFrame → Instr
instr_at r f = r.instr (entry_at f) f.place

-- the instance has this function
abbrev pub HasFunction : Reads → Entry → Type 0
HasFunction r e = e.function < r.functions e.serial

-- the instance is the current code of some module
abbrev pub IsCurrent : Reads → ℕ → Type 0
IsCurrent r serial = (name : ℕ) × (r.current name ≡ Some serial)

-- the area in which a value stands, if it is a literal
abbrev pub area_of : PlainValue → Option ℕ
area_of (owned term) = None
area_of (literal serial term) = Some serial

-- the area of the complex term that a key holds, if it holds one
abbrev pub key_area_read : Reads → ℕ → Option ℕ
key_area_read r key = option_and_then area_of (r.key key)

-- what a reader finds of what a key holds: nothing, the word of an integer or an atom, or the area of another term
abbrev pub found_of : Option PlainValue → KeyFound
found_of None = absent
found_of (Some (owned term)) = one_word (immediate_word term)
found_of (Some (literal serial term)) = whole_area serial

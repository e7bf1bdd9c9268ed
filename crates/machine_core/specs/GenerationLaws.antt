-- What holds between a sound state of the server and its generation in plain numbers, for any numbers of names that list what current instances export.
-- Source: erts internal documentation, CodeLoading; that one turn serves both kinds of state is this project's own.
use Rattle.std.specs.Prelude.{◌≡◌, ◌↔◌, ℕ, false, All, List, [], ◌∷◌, option_map}
use Rattle.term_core.specs.declared.atom.Mfa.{Mfa}
use Rattle.server_core.specs.Generations.{AreNumbered, function_ref, generation_of}
use Rattle.server_core.specs.ServerState.{IsSound, ServerState, dispatch_of, is_serial_in}
use Rattle.machine_core.specs.declared.process.Frame.{Frame}
use Rattle.machine_core.specs.declared.process.LitRef.{LitRef}
use Rattle.machine_core.specs.declared.process.Process.{Process}
use Rattle.machine_core.specs.declared.process.Value.{Value}
use Rattle.machine_core.specs.declared.process.Value.TheVariants.{Owned, Literal}
use Rattle.machine_core.specs.GenerationReads.{exported_under, found_held, holding_among, reads_in, shown_in, words_in}
use Rattle.machine_core.specs.Holds.{Holds}
use Rattle.machine_core.specs.Process.{PlainFrame, PlainProcess, process_of}
use Rattle.machine_core.specs.Reads.{dispatched, found_of}
use Rattle.machine_core.specs.ServerReads.{key_value, reads_of}
use Rattle.machine_core.specs.Turn.{ArePlaced, MayTurn, held_after, turn_by, turn_of}
use Rattle.machine_core.specs.View.{IsLawful, IsLiteral, server_words, shown_at}

-- a law of each sound state with numbers of names for what its current instances export
abbrev pub OfEachState : (List Mfa → ServerState → Type 0) → Type 0
OfEachState law = (names : List Mfa) (s : ServerState) → IsSound s → AreNumbered names s → law names s

-- a view that shows the generation of a state, with the images of its areas, is lawful, whatever the blocks are
abbrev pub IsLawfulGeneration : List Mfa → ServerState → Type 0
IsLawfulGeneration names s = (block : ℕ → ℕ) → IsLawful (shown_in names block (generation_of names s))

-- what a call reaches by a generation
pub record ReachesSame (names : List Mfa) (s : ServerState) (to : Mfa) : Type 0 where
  -- by the name of the current instance's module, and by what it exports, it is what the state's current code of the module exports
  pub read : dispatched (reads_in names (generation_of names s)) to ≡ dispatch_of s to
  -- the export table has that at the number of the name
  pub tabled : exported_under names (generation_of names s) to ≡ option_map function_ref (dispatch_of s to)

-- so each call does
abbrev pub CallsReachSame : List Mfa → ServerState → Type 0
CallsReachSame names s = (to : Mfa) → ReachesSame names s to

-- what a generation has of a key
pub record HoldsSame (names : List Mfa) (s : ServerState) (key : ℕ) : Type 0 where
  -- read by the words of its generation it is the term that the key holds in the state
  pub read : (reads_in names (generation_of names s)).key key ≡ key_value s key
  -- a reader finds of it the word or the area that the generation has
  pub tabled : found_of ((reads_in names (generation_of names s)).key key) ≡ found_held (holding_among (generation_of names s).keys key)

-- so each key does
abbrev pub KeysHoldSame : List Mfa → ServerState → Type 0
KeysHoldSame names s = (key : ℕ) → HoldsSame names s key

-- what a generation says of an area that is not released
pub record IsAreaOfState (names : List Mfa) (s : ServerState) (serial : ℕ) : Type 0 where
  -- it has the words of the state's area
  pub words : words_in (generation_of names s) serial ≡ server_words s serial
  -- these tell how many functions the instance has
  pub functions : (reads_in names (generation_of names s)).functions serial ≡ (reads_of s).functions serial
  -- and whether it is a complex term
  pub is_term : (reads_in names (generation_of names s)).is_term serial ≡ (reads_of s).is_term serial

-- it says so of each
abbrev pub AreasAgree : List Mfa → ServerState → Type 0
AreasAgree names s = (serial : ℕ) → is_serial_in s.released serial ≡ false → IsAreaOfState names s serial

-- a place of an area that is not released is that of a literal by the generation exactly where it is by the state with the same blocks
abbrev pub LiteralsAgree : List Mfa → ServerState → Type 0
LiteralsAgree names s =
    (block : ℕ → ℕ) (at : LitRef) → is_serial_in s.released at.area.serial ≡ false → IsLiteral (shown_in names block (generation_of names s)) at ↔ IsLiteral (shown_at block s) at

-- no frame stands in an instance that is released
abbrev pub AreInKept : ServerState → List PlainFrame → Type 0
AreInKept s [] = Unit {0}
AreInKept s (f ∷ below) = (is_serial_in s.released f.serial ≡ false) × AreInKept s below

-- frames stand at places by the generation exactly where they do by the state, in instances that are not released
abbrev pub PlacesAgree : List Mfa → ServerState → Type 0
PlacesAgree names s = (frames : List PlainFrame) → ArePlaced (reads_in names (generation_of names s)) frames ↔ (ArePlaced (reads_of s) frames × AreInKept s frames)

-- a turn of a process by the generation
pub record IsTurnOfState (names : List Mfa) (s : ServerState) (p : PlainProcess) : Type 0 where
  -- it is the turn under the state
  pub turn : turn_by (reads_in names (generation_of names s)) p ≡ turn_of s p
  -- and holds after it what that turn holds
  pub held : held_after (reads_in names (generation_of names s)) p ≡ held_after (reads_of s) p

-- so is each turn of a process that stands at places of the generation
abbrev pub TurnsAgree : List Mfa → ServerState → Type 0
TurnsAgree names s = (p : PlainProcess) → ArePlaced (reads_in names (generation_of names s)) p.frames → IsTurnOfState names s p

-- the area of a literal is not released
abbrev pub IsKeptValue : ServerState → Value → Type 0
IsKeptValue s (Owned term) = Unit {0}
IsKeptValue s (Literal at) = is_serial_in s.released at.area.serial ≡ false

-- neither the instance of a frame nor the area of one of its literals is released
pub record HasKept (s : ServerState) (f : Frame) : Type 0 where
  pub instance : is_serial_in s.released f.code.area.serial ≡ false
  pub values : All (IsKeptValue s) f.registers

-- so it is with each frame of a process: it names no area that is released
abbrev pub NamesKept : ServerState → Process → Type 0
NamesKept s p = All (HasKept s) p.frames

-- the code's process by a generation
pub record IsProcessOfState (names : List Mfa) (s : ServerState) (p : Process) : Type 0 where
  -- it stands for the process that it is by the state
  pub process : process_of (words_in (generation_of names s)) p ≡ process_of (server_words s) p
  -- and may have a turn exactly where it may have one by the state with the same blocks
  pub ready : (block : ℕ → ℕ) (held : Holds) → MayTurn (shown_in names block (generation_of names s)) held p ↔ MayTurn (shown_at block s) held p

-- so is each process that names no area which is released
abbrev pub ProcessesAgree : List Mfa → ServerState → Type 0
ProcessesAgree names s = (p : Process) → NamesKept s p → IsProcessOfState names s p

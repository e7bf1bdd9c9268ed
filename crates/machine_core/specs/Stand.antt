-- What contracts of the machine's parts say: where a process stands after an instruction, with frames, holds and lines at hand.
-- It holds nothing that the turn does not say: the code has the topmost frame taken out of the others.
use Rattle.std.specs.Prelude.{◌≡◌, ℕ, zero, suc, ◌+◌, ◌%◌, ◌<◌, ◌==◌, ◌||◌, ℤ, pos, negsuc, Bool, true, false, IsTrue, All, List, [], ◌∷◌, ◌++◌, drop, slice_set, Option, Some, None, unwrap_or, Result, Ok, Err}
use Rattle.term_core.specs.declared.area.AreaRef.{AreaRef}
use Rattle.term_core.specs.Image.{images_len, is_immediate, term_at}
use Rattle.term_core.specs.Plain.{plain}
use Rattle.mod_core.specs.declared.code.Instr.{Instr}
use Rattle.mod_core.specs.declared.code.Instr.TheVariants.{Call}
use Rattle.machine_core.specs.declared.process.End.{End}
use Rattle.machine_core.specs.declared.process.End.TheVariants.{Badarg}
use Rattle.machine_core.specs.declared.process.Frame.{Frame as CodeFrame}
use Rattle.machine_core.specs.declared.process.Value.{Value}
use Rattle.machine_core.specs.declared.process.Value.TheVariants.{Owned, Literal}
use Rattle.machine_core.specs.declared.op.Source.{Source}
use Rattle.machine_core.specs.declared.op.Source.TheVariants.{Register, Immediate, Constant}
use Rattle.machine_core.specs.declared.op.Op.{Op}
use Rattle.machine_core.specs.declared.op.Op.TheVariants.{Move, Add, Sub, Eq, Less, Ret, PgetOr, Elem, Print}
use Rattle.machine_core.specs.declared.process.Line.{Line}
use Rattle.machine_core.specs.declared.outcome.Outcome.{Outcome}
use Rattle.machine_core.specs.declared.outcome.Outcome.TheVariants.{GoesOn, Yields, Ends}
use Rattle.term_core.specs.declared.hold.Kind.TheVariants.{Frame as for_frames, Literal as for_literals}
use Rattle.machine_core.specs.Holds.{Holds, is_held}
use Rattle.machine_core.specs.Reach.{MayHold}
use Rattle.machine_core.specs.Reads.{HasFunction, Reads}
use Rattle.machine_core.specs.Decode.{instr_shown, operand_shown}
use Rattle.machine_core.specs.Process.{PlainFrame, PlainValue, Words, frame_of, frames_of, literal, owned, value_shown}
use Rattle.machine_core.specs.Turn.{ArePlaced, Step, goes_on, yields, ends, executed, held_with, stored}
use Rattle.machine_core.specs.Values.{value_of}
use Rattle.machine_core.specs.View.{AreValues, HasValues, IsInBlock, IsLiteral, IsReadable, Shown}

-- where a process stands, with what is held and the lines so far: it goes on, its turn ends, or it ended
pub data Stand : Type 0 where
  runs : List PlainFrame → Holds → List Line → Stand
  pauses : List PlainFrame → Holds → List Line → Stand
  over : End → Holds → List Line → Stand

-- where a process stands after an instruction, whose lines follow those that were made
abbrev pub stand_after : Holds → List Line → Step → Stand
stand_after held made (goes_on frames now line) = runs frames now (made ++ line)
stand_after held made (yields frames) = pauses frames held made
stand_after held made (ends end) = over end held made

-- where a process stands that has these frames, holds and lines
abbrev pub stand_of : Outcome → List PlainFrame → Holds → List Line → Stand
stand_of GoesOn frames held made = runs frames held made
stand_of Yields frames held made = pauses frames held made
stand_of (Ends end) frames held made = over end held made

-- where a process stands whose topmost frame is this, above these, or that could not enter its first function
abbrev pub stand_entered : Words → Result CodeFrame End → List PlainFrame → Holds → List Line → Stand
stand_entered words (Ok f) below held made = runs (frame_of words f ∷ below) held made
stand_entered words (Err end) below held made = over end held made

-- where a local call goes, there is a function
abbrev pub HasCallee : Reads → PlainFrame → Instr → Type 0
HasCallee r f (Call function at) = HasFunction r (record { serial = f.serial; function = function })
HasCallee r f i = Unit {0}

-- the area of a literal is held for literals
abbrev pub IsValueHeld : Holds → PlainValue → Type 0
IsValueHeld held (owned term) = Unit {0}
IsValueHeld held (literal serial term) = IsTrue (is_held held serial for_literals)

-- the area of each frame is held for it, and those of its literals for them
abbrev pub AreHeld : Holds → List PlainFrame → Type 0
AreHeld held [] = Unit {0}
AreHeld held (f ∷ below) = IsTrue (is_held held f.serial for_frames) × All (IsValueHeld held) f.registers × AreHeld held below

-- what a turn keeps of its frames: there are some, each stands at an instruction, and the areas that they name are held
pub record AreStanding (r : Reads) (held : Holds) (frames : List PlainFrame) : Type 0 where
  pub some : frames ≡ [] → ⊥
  pub placed : ArePlaced r frames
  pub named : AreHeld held frames

-- ---- what the code reads

-- the machine may read a value and keep it in a register: it is a term, or a literal whose area may be held for literals
abbrev pub IsUsable : Shown → Holds → Value → Type 0
IsUsable shown held (Owned term) = Unit {0}
IsUsable shown held (Literal at) = IsLiteral shown at × MayHold shown.reads held at.area.serial for_literals

-- the place behind so many images that stand one behind another from a place on
abbrev pub images_end : List ℕ → ℕ → ℕ → ℕ
images_end words at count = at + unwrap_or (images_len count (drop at words)) 0

-- so many images stand one behind another from a place on, and their words may be asked for
pub record AreImages (shown : Shown) (serial at count : ℕ) : Type 0 where
  pub len : ℕ
  pub is : images_len count (drop at (shown.words serial)) ≡ Some len
  pub readable : (i : ℕ) → i < len → IsReadable shown serial (at + i)

-- whether a word is that of an integer or an atom
abbrev pub is_immediate_word : ℕ → Bool
is_immediate_word word = word % 16 == 1 || word % 16 == 2

-- the place, counted from 0, of the element with a number
abbrev pub place_number : Option ℤ → Option ℕ
place_number (Some (pos (suc n))) = Some n
place_number (Some (pos zero)) = None
place_number (Some (negsuc n)) = None
place_number None = None

-- the place of a complex constant in an instance
pub record IsConstantAt (shown : Shown) (area : AreaRef) (place : ℕ) : Type 0 where
  pub literal : IsLiteral shown (record { area = area; at = place })
  pub complex : is_immediate (term_at (shown.words area.serial) place) ≡ false

-- what an instruction of an instance reads: a register, an integer or an atom, or a complex constant that stands there
abbrev pub IsSource : Shown → AreaRef → Source → Type 0
IsSource shown area (Register register) = Unit {0}
IsSource shown area (Immediate term) = is_immediate (plain term) ≡ true
IsSource shown area (Constant place) = IsConstantAt shown area place

-- so is each source of an instruction
abbrev pub HasSources : Shown → AreaRef → Op → Type 0
HasSources shown area (Move from to) = IsSource shown area from
HasSources shown area (Add a b to) = IsSource shown area a × IsSource shown area b
HasSources shown area (Sub a b to) = IsSource shown area a × IsSource shown area b
HasSources shown area (Eq a b target) = IsSource shown area a × IsSource shown area b
HasSources shown area (Less a b target) = IsSource shown area a × IsSource shown area b
HasSources shown area (Ret value) = IsSource shown area value
HasSources shown area (PgetOr key other to) = IsSource shown area other
HasSources shown area (Elem index from to) = IsSource shown area index × IsSource shown area from
HasSources shown area (Print value) = IsSource shown area value
HasSources shown area op = Unit {0}

-- a frame that stands in an instance which is held and stands in its block, and whose values the machine may read
pub record IsReadyFrame (shown : Shown) (held : Holds) (f : CodeFrame) : Type 0 where
  pub standing : IsTrue (is_held held f.code.area.serial for_frames)
  pub stands : IsInBlock shown f.code.area
  pub registers : All (IsUsable shown held) f.registers

-- the value that a source has in a frame
pub record IsValueOf (shown : Shown) (held : Holds) (f : CodeFrame) (source : Source) (value : Value) : Type 0 where
  pub usable : IsUsable shown held value
  pub shows : value_shown shown.words value ≡ value_of (frame_of shown.words f) (operand_shown (shown.words f.code.area.serial) source)

-- an instruction of the topmost frame comes to this, whatever stands below it
abbrev pub ComesTo : Shown → Holds → CodeFrame → Op → Outcome → CodeFrame → Holds → Type 0
ComesTo shown held top op outcome after now = (below : List PlainFrame) (made : List Line) →
    stand_after held made (executed shown.reads (frame_of shown.words top) below held (instr_shown (shown.words top.code.area.serial) op))
    ≡ stand_of outcome (frame_of shown.words after ∷ below) now made

-- a frame at a place, a register of which gets the value that was found; or the end of the process
abbrev pub stored_found : PlainFrame → ℕ → ℕ → List PlainFrame → Holds → Option PlainValue → Step
stored_found f place to below held None = ends Badarg
stored_found f place to below held (Some value) = stored (record f { place = place; registers = slice_set f.registers to value }) below (held_with held value)

-- what a turn keeps of the code's frames, the topmost taken out of the others
pub record AreReady (shown : Shown) (held : Holds) (top : CodeFrame) (below : List CodeFrame) : Type 0 where
  pub frames : AreStanding shown.reads held (frame_of shown.words top ∷ frames_of shown.words below)
  pub top_values : HasValues shown top
  pub below_values : AreValues shown below

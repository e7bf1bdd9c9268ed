-- A process as definitions see it: its frames without the blocks in which their instances stand, its literals as the terms that they are.
-- Source: this project's call machine. The code keeps the topmost frame last, and of a literal the place of its image, so that what a
-- process is depends on the words of the areas.
use Rattle.std.specs.Prelude.{◌≡◌, ℕ, List, [], ◌∷◌, ◌++◌, map, reverse, replicate, take, drop, pos, slice_get, unwrap_or}
use Rattle.std.specs.List.{flat_map}
use Rattle.term_core.specs.declared.area.AreaRef.{AreaRef}
use Rattle.term_core.specs.declared.atom.Mfa.{Mfa}
use Rattle.term_core.specs.Image.{term_at}
use Rattle.term_core.specs.Plain.{term_of}
use Rattle.term_core.specs.PlainTerm.{PlainTerm}
use Rattle.term_core.specs.declared.term.Term.{Term}
use Rattle.term_core.specs.declared.term.Term.TheVariants.{Int}
use Rattle.mod_core.specs.declared.code.TheConstants.{REGISTERS}
use Rattle.machine_core.specs.Holds.{Holds, serials_of}
use Rattle.machine_core.specs.declared.process.Value.{Value}
use Rattle.machine_core.specs.declared.process.Value.TheVariants.{Owned, Literal}
use Rattle.machine_core.specs.declared.process.Frame.{Frame}
use Rattle.machine_core.specs.declared.process.Process.{Process}
use Rattle.machine_core.specs.declared.areas.HeldAreas.{HeldAreas}

-- what a register holds: a term of the process's own, or one that stands in the area with a serial and is read there
pub data PlainValue : Type 0 where
  owned : Term → PlainValue
  literal : ℕ → Term → PlainValue

-- a call that has not returned: instance, function, place of the next instruction, the caller's register for the value, registers
pub record PlainFrame : Type 0 where
  pub serial : ℕ
  pub function : ℕ
  pub place : ℕ
  pub back : ℕ
  pub registers : List PlainValue

-- a process, its topmost frame first
pub record PlainProcess : Type 0 where
  pub number : ℕ
  pub target : Mfa
  pub args : List PlainTerm
  pub turns : ℕ
  pub frames : List PlainFrame

-- the words of each area, by its serial
abbrev pub Words : Type 0
Words = ℕ → List ℕ

-- the value that the code's value stands for
abbrev pub value_shown : Words → Value → PlainValue
value_shown words (Owned term) = owned term
value_shown words (Literal at) = literal at.area.serial (term_of (term_at (words at.area.serial) at.at))

-- the values that the code's values stand for
abbrev pub values_shown : Words → List Value → List PlainValue
values_shown words values = map (value_shown words) values

-- the frame that the code's frame stands for
abbrev pub frame_of : Words → Frame → PlainFrame
frame_of words f = record { serial = f.code.area.serial; function = f.code.function; place = f.place; back = f.back; registers = values_shown words f.registers }

-- the frames that the code's frames stand for
abbrev pub frames_of : Words → List Frame → List PlainFrame
frames_of words fs = reverse (map (frame_of words) fs)

-- the process that the code's process stands for
abbrev pub process_of : Words → Process → PlainProcess
process_of words p = record { number = p.number; target = p.target; args = p.args; turns = p.turns; frames = frames_of words p.frames }

-- a process that has had no turn
abbrev pub new_process : ℕ → Mfa → List PlainTerm → PlainProcess
new_process number target args = record { number = number; target = target; args = args; turns = 0; frames = [] }

-- the area that a value names, if it is a literal
abbrev pub value_serials : PlainValue → List ℕ
value_serials (owned term) = []
value_serials (literal serial term) = serial ∷ []

-- the areas that registers name
abbrev pub register_serials : List PlainValue → List ℕ
register_serials registers = flat_map value_serials registers

-- the areas of the literals of frames
abbrev pub literal_serials : List PlainFrame → List ℕ
literal_serials frames = flat_map (λ f. register_serials f.registers) frames

-- what frames name: the instance of each for the frame, and the areas of their literals
abbrev pub frame_names : List PlainFrame → Holds
frame_names frames = record { frames = serials_of (map (λ f. f.serial) frames); literals = serials_of (literal_serials frames) }

-- the serials of areas
abbrev pub area_serials : List AreaRef → List ℕ
area_serials areas = map (λ a. a.serial) areas

-- what is held where just these areas are, for frames and for literals
abbrev pub names_of_areas : List AreaRef → List AreaRef → Holds
names_of_areas frames literals = record { frames = serials_of (area_serials frames); literals = serials_of (area_serials literals) }

-- what is held where the areas that the code keeps are held
abbrev pub area_holds : HeldAreas → Holds
area_holds areas = names_of_areas areas.frames areas.literals

-- the area of the code's value, if it is a literal
abbrev pub value_area : Value → List ℕ
value_area (Owned term) = []
value_area (Literal at) = at.area.serial ∷ []

-- the areas of the code's literals
abbrev pub value_areas : List Value → List ℕ
value_areas values = flat_map value_area values

-- the code's value 0, which a register holds before it is set
abbrev pub no_held : Value
no_held = Owned (Int (pos 0))

-- terms as the code's values
abbrev pub owned_terms : List PlainTerm → List Value
owned_terms terms = map (λ t. Owned (term_of t)) terms

-- the code's registers of a function that is entered with these values
abbrev pub entered_values : List Value → List Value
entered_values args = take REGISTERS (args ++ replicate REGISTERS no_held)

-- so many of the code's values, which stand in registers from this one on
abbrev pub arguments_of : List Value → ℕ → ℕ → List Value
arguments_of registers first count = take count (drop first registers)

-- what the code's frames name, whatever the words of the areas are
abbrev pub code_names : List Frame → Holds
code_names frames = record {
  frames = serials_of (map (λ f. f.code.area.serial) frames);
  literals = serials_of (flat_map (λ f. value_areas f.registers) frames);
}

-- what a process names
abbrev pub names_of : PlainProcess → Holds
names_of p = frame_names p.frames

-- the process has not ended: where it has no frames, it has had no turn
abbrev pub HasNotEnded : PlainProcess → Type 0
HasNotEnded p = p.frames ≡ [] → p.turns ≡ 0

-- the integer 0, which a register holds before it is set
abbrev pub no_value : PlainValue
no_value = owned (Int (pos 0))

-- terms as values of a process's own
abbrev pub owned_values : List PlainTerm → List PlainValue
owned_values terms = map (λ t. owned (term_of t)) terms

-- the registers of a function that is entered: its arguments, and 0 in the others
abbrev pub first_registers : List PlainValue → List PlainValue
first_registers args = take REGISTERS (args ++ replicate REGISTERS no_value)

-- so many arguments, which stand in registers from this one on
abbrev pub arguments_at : List PlainValue → ℕ → ℕ → List PlainValue
arguments_at registers first count = take count (drop first registers)

-- what a register holds; outside the frame 0, so that every register has a value
abbrev pub register_of : List PlainValue → ℕ → PlainValue
register_of registers register = unwrap_or (slice_get registers register) no_value

-- A turn of a process under one generation: it ends where it stands in doomed code; its literals of retired areas become terms of its own; where it has no frames it enters its target; then instructions run, 200 at most.
-- Source: erts internal documentation, CodeLoading, for external and local calls and breakpoints; the manual page `code` for the end of what stands in purged code; the manual page `persistent_term` for terms that are read without a copy until they are replaced; the machine and its numbers are this project's own.
-- The definition steps over what is read of the server, be that the modules and terms of its state or words; the code reads words of their images. Places count words in both.
use Rattle.std.specs.Prelude.{◌≡◌, ◌<◌, ℕ, zero, suc, ◌+◌, ◌==◌, nat_le, Bool, true, false, List, [], ◌∷◌, ◌++◌, length, map, find, Option, Some, None, Result, Ok, Err, unwrap_or, slice_set, if◌then◌else◌}
use Rattle.term_core.specs.declared.atom.Mfa.{Mfa}
use Rattle.term_core.specs.declared.hold.Kind.TheVariants.{Frame, Literal}
use Rattle.term_core.specs.declared.term.Term.{Term}
use Rattle.term_core.specs.Plain.{plain}
use Rattle.term_core.specs.PlainTerm.{PlainTerm}
use Rattle.mod_core.specs.declared.code.TheConstants.{REGISTERS}
use Rattle.mod_core.specs.declared.code.Instr.{Instr}
use Rattle.mod_core.specs.declared.code.Instr.TheVariants as instrs
use Rattle.mod_core.specs.ModuleImage.{instr_len}
use Rattle.server_core.specs.ServerState.{Entry, ServerState}
use Rattle.machine_core.specs.declared.process.TheConstants.{MOST_FRAMES, MOST_TURNS, TURN_INSTRUCTIONS}
use Rattle.machine_core.specs.declared.process.Process.{Process}
use Rattle.machine_core.specs.declared.process.Line.{Line}
use Rattle.machine_core.specs.declared.process.Line.TheVariants as lines
use Rattle.machine_core.specs.declared.process.End.{End}
use Rattle.machine_core.specs.declared.process.End.TheVariants.{Normal, Undef, Badarg, SystemLimit, Killed}
use Rattle.machine_core.specs.declared.process.TurnEnd.{TurnEnd}
use Rattle.machine_core.specs.declared.process.TurnEnd.TheVariants.{Again, Ended}
use Rattle.machine_core.specs.Holds.{Holds, is_full, with_hold}
use Rattle.machine_core.specs.Process.{HasNotEnded, PlainFrame, PlainProcess, PlainValue, arguments_at, first_registers, frame_names, frames_of, literal, names_of, owned, owned_values, process_of}
use Rattle.machine_core.specs.Reads.{HasFunction, Reads, dispatched, entry_at, instr_at, mfa_of}
use Rattle.machine_core.specs.ServerReads.{reads_of}
use Rattle.machine_core.specs.View.{AreValues, Shown}
use Rattle.machine_core.specs.Values.{difference_of, element_of, is_same, less_of, operand_term, sum_of, term_of, value_of}

-- what an instruction comes to: frames, what is then held, and a line or none; the end of the turn with these frames; or the end of the process
pub data Step : Type 0 where
  goes_on : List PlainFrame → Holds → List Line → Step
  yields : List PlainFrame → Step
  ends : End → Step

-- a frame past its instruction
abbrev pub moved_past : PlainFrame → Instr → PlainFrame
moved_past f i = record f { place = f.place + instr_len i }

-- a frame past its instruction, with a register set
abbrev pub with_register : PlainFrame → Instr → ℕ → PlainValue → PlainFrame
with_register f i register value = record f { place = f.place + instr_len i; registers = slice_set f.registers register value }

-- a frame at the place to which its instruction goes where a test holds, else past its instruction
abbrev pub branched : PlainFrame → Instr → ℕ → Bool → PlainFrame
branched f i target holds = if holds then record f { place = target } else moved_past f i

-- a register gets what was computed, or the process ends
abbrev pub computed : PlainFrame → List PlainFrame → Holds → Instr → ℕ → Result Term End → Step
computed f below held i to (Ok term) = goes_on (with_register f i to (owned term) ∷ below) held []
computed f below held i to (Err end) = ends end

-- a test decides the next place, or the process ends
abbrev pub tested : PlainFrame → List PlainFrame → Holds → Instr → ℕ → Result Bool End → Step
tested f below held i target (Ok holds) = goes_on (branched f i target holds ∷ below) held []
tested f below held i target (Err end) = ends end

-- what is held once a register holds a value: the area of a literal too; none where it is one too many
abbrev pub held_with : Holds → PlainValue → Option Holds
held_with held (owned term) = Some held
held_with held (literal serial term) = if is_full held serial then None else Some (with_hold held serial Literal)

-- a frame with a new value goes on, if the value's area can be held; else the process ends
abbrev pub stored : PlainFrame → List PlainFrame → Option Holds → Step
stored f below None = ends SystemLimit
stored f below (Some held) = goes_on (f ∷ below) held []

-- a register gets a value
abbrev pub put_value : PlainFrame → List PlainFrame → Holds → Instr → ℕ → PlainValue → Step
put_value f below held i to value = stored (with_register f i to value) below (held_with held value)

-- a register gets the value that was found, or the process ends
abbrev pub put_found : PlainFrame → List PlainFrame → Holds → Instr → ℕ → Option PlainValue → Step
put_found f below held i to None = ends Badarg
put_found f below held i to (Some value) = put_value f below held i to value

-- the register of the caller gets the value; the last frame ends the process
abbrev pub returned : List PlainFrame → Holds → ℕ → PlainValue → Step
returned [] held back value = ends Normal
returned (caller ∷ below) held back value = stored (record caller { registers = slice_set caller.registers back value }) below (held_with held value)

-- the frame of a function with these registers, whose value comes into that register of the caller
abbrev pub frame_at : Reads → Entry → ℕ → List PlainValue → PlainFrame
frame_at r e back registers = record { serial = e.serial; function = e.function; place = r.first e; back = back; registers = registers }

-- the frame of a function that is entered where so many frames stand; none where no more may stand, or where its area cannot be held
abbrev pub entered : Reads → ℕ → Holds → Entry → ℕ → List PlainValue → Option PlainFrame
entered r standing held e back registers =
    if nat_le MOST_FRAMES standing then None
    else if is_full held e.serial then None
    else Some (frame_at r e back registers)

-- the terms of values
abbrev pub terms_of : List PlainValue → List PlainTerm
terms_of values = map (λ v. plain (term_of v)) values

-- the line of a call with its name and its arguments, where the function that it enters has a breakpoint
abbrev pub trace_of : Reads → Entry → Mfa → List PlainValue → List Line
trace_of r e to args = if r.traced e then lines.Trace to (terms_of args) ∷ [] else []

-- the frame of a function that is entered stands on the others, its area is held for it, and its call may make a line; or the process ends
abbrev pub stacked : List PlainFrame → Holds → ℕ → List Line → Option PlainFrame → Step
stacked frames held serial line None = ends SystemLimit
stacked frames held serial line (Some f) = goes_on (f ∷ frames) (with_hold held serial Frame) line

-- a function is entered under this name with these arguments, on the frames that stand
abbrev pub called : Reads → List PlainFrame → Holds → Entry → Mfa → ℕ → List PlainValue → Step
called r frames held e to back args = stacked frames held e.serial (trace_of r e to args) (entered r (length frames) held e back (first_registers args))

-- the same for the function that a name reaches, if it reaches one
abbrev pub called_by_name : Reads → List PlainFrame → Holds → Mfa → ℕ → List PlainValue → Option Entry → Step
called_by_name r frames held to back args None = ends (Undef to)
called_by_name r frames held to back args (Some e) = called r frames held e to back args

-- an external call: it reaches the function that the current instance exports
abbrev pub called_out : Reads → List PlainFrame → Holds → Mfa → ℕ → List PlainValue → Step
called_out r frames held to back args = called_by_name r frames held to back args (dispatched r to)

-- a local call: it enters a function of the frame's own instance, be it current or not
abbrev pub called_within : Reads → PlainFrame → List PlainFrame → Holds → Instr → Entry → ℕ → Step
called_within r f below held i e at = called r (moved_past f i ∷ below) held e (mfa_of r e) at (arguments_at f.registers at (r.arity e))

-- what an instruction does to the topmost frame, those below it and what is held
abbrev pub executed : Reads → PlainFrame → List PlainFrame → Holds → Instr → Step
executed r f below held (instrs.Move from to) = put_value f below held (instrs.Move from to) to (value_of f from)
executed r f below held (instrs.Add a b to) = computed f below held (instrs.Add a b to) to (sum_of (operand_term f a) (operand_term f b))
executed r f below held (instrs.Sub a b to) = computed f below held (instrs.Sub a b to) to (difference_of (operand_term f a) (operand_term f b))
executed r f below held (instrs.Eq a b target) = tested f below held (instrs.Eq a b target) target (Ok (is_same (operand_term f a) (operand_term f b)))
executed r f below held (instrs.Less a b target) = tested f below held (instrs.Less a b target) target (less_of (operand_term f a) (operand_term f b))
executed r f below held (instrs.Jump target) = goes_on (record f { place = target } ∷ below) held []
executed r f below held (instrs.Call function at) = called_within r f below held (instrs.Call function at) (record { serial = f.serial; function = function }) at
executed r f below held (instrs.CallExt to at) = called_out r (moved_past f (instrs.CallExt to at) ∷ below) held to at (arguments_at f.registers at to.arity)
executed r f below held (instrs.Ret value) = returned below held f.back (value_of f value)
executed r f below held (instrs.Pget key to) = put_found f below held (instrs.Pget key to) to (r.key key.0)
executed r f below held (instrs.PgetOr key other to) = put_value f below held (instrs.PgetOr key other to) to (unwrap_or (r.key key.0) (value_of f other))
executed r f below held (instrs.Elem index from to) = put_found f below held (instrs.Elem index from to) to (element_of (operand_term f index) (value_of f from))
executed r f below held (instrs.Print value) = goes_on (moved_past f (instrs.Print value) ∷ below) held (lines.Print (operand_term f value) ∷ [])
executed r f below held instrs.Yield = yields (moved_past f instrs.Yield ∷ below)

-- what the next instruction of a process comes to
abbrev pub step_of : Reads → List PlainFrame → Holds → Step
step_of r [] held = ends Normal
step_of r (f ∷ below) held = executed r f below held (instr_at r f)

-- what is left of a process, what is held, the lines that it made, and whether it goes on; an ended process has no frames
pub record Ran : Type 0 where
  pub frames : List PlainFrame
  pub held : Holds
  pub made : List Line
  pub end : TurnEnd

-- a turn that ends while the process goes on: just what the process names stays held
abbrev pub paused : List PlainFrame → List Line → Ran
paused frames made = record { frames = frames; held = frame_names frames; made = made; end = Again }

-- an end after these lines: what was held then stays held
abbrev pub ended_with : Holds → List Line → End → Ran
ended_with held made end = record { frames = []; held = held; made = made; end = Ended end }

-- the instructions that are left, after what one came to
abbrev pub after_step : (List PlainFrame → Holds → List Line → Ran) → Holds → List Line → Step → Ran
after_step rest held made (goes_on frames now line) = rest frames now (made ++ line)
after_step rest held made (yields frames) = paused frames made
after_step rest held made (ends end) = ended_with held made end

-- so many instructions at most, after these lines
unfoldable pub run_of : Reads → ℕ → List PlainFrame → Holds → List Line → Ran
run_of r zero frames held made = paused frames made
run_of r (suc n) frames held made = after_step (run_of r n) held made (step_of r frames held)

-- with what a turn begins: its process's frames; where there are none, the target is entered as by an external call
abbrev pub begun : Reads → Mfa → List PlainTerm → Holds → List PlainFrame → Step
begun r target args held [] = called_out r [] held target 0 (owned_values args)
begun r target args held (f ∷ below) = goes_on (f ∷ below) held []

-- the serial of the topmost frame whose instance is doomed, if there is one
abbrev pub doomed_serial : Reads → List PlainFrame → Option ℕ
doomed_serial r frames = find r.doomed (map (λ f. f.serial) frames)

-- a literal of a retired area becomes a term of the process's own
abbrev pub copied_value : Reads → PlainValue → PlainValue
copied_value r (owned term) = owned term
copied_value r (literal serial term) = if r.retired serial then owned term else literal serial term

-- so does each of a frame
abbrev pub copied_frame : Reads → PlainFrame → PlainFrame
copied_frame r f = record f { registers = map (copied_value r) f.registers }

-- and each of frames, which then name no retired area as a literal's
abbrev pub copied : Reads → List PlainFrame → List PlainFrame
copied r frames = map (copied_frame r) frames

-- what a turn does once its literals are copied
abbrev pub ran_copied : Reads → PlainProcess → List PlainFrame → Ran
ran_copied r p frames = after_step (run_of r TURN_INSTRUCTIONS) (frame_names frames) [] (begun r p.target p.args (frame_names frames) frames)

-- what a turn that counts does, by that serial: where there is one, the process is killed before any instruction
abbrev pub ran_unless_doomed : Reads → PlainProcess → Option ℕ → Ran
ran_unless_doomed r p None = ran_copied r p (copied r p.frames)
ran_unless_doomed r p (Some serial) = ended_with (names_of p) [] (Killed serial)

-- what a turn does to the frames of a process: none runs where it has had as many turns as can be
abbrev pub ran_of : Reads → PlainProcess → Ran
ran_of r p = if p.turns == MOST_TURNS then ended_with (names_of p) [] SystemLimit else ran_unless_doomed r p (doomed_serial r p.frames)

-- what a turn comes to: the process after it, its lines, and whether it goes on
pub record Turn : Type 0 where
  pub process : PlainProcess
  pub made : List Line
  pub end : TurnEnd

-- a process whose turn is counted, unless it has had as many as can be
abbrev pub counted : PlainProcess → PlainProcess
counted p = if p.turns == MOST_TURNS then p else record p { turns = p.turns + 1 }

-- a process after what its turn left of it
abbrev pub turn_from : PlainProcess → Ran → Turn
turn_from p ran = record { process = record p { frames = ran.frames }; made = ran.made; end = ran.end }

-- a turn of a process that holds just what it names
abbrev pub turn_by : Reads → PlainProcess → Turn
turn_by r p = turn_from (counted p) (ran_of r p)

-- the turn under a state of the plain server
abbrev pub turn_of : ServerState → PlainProcess → Turn
turn_of s p = turn_by (reads_of s) p

-- what is held after that turn: what the process then names, or what was held when it ended
abbrev pub held_after : Reads → PlainProcess → Holds
held_after r p = (ran_of r p).held

-- this turn leaves that process and those lines, and ends so
pub record TurnGives (r : Reads) (before after : PlainProcess) (lines_before lines_after : List Line) (end : TurnEnd) : Type 0 where
  pub process : (turn_by r before).process ≡ after
  pub lines : lines_after ≡ lines_before ++ (turn_by r before).made
  pub end_is : (turn_by r before).end ≡ end

-- the place to which an instruction may go besides the one behind it
abbrev pub target_of : Instr → Option ℕ
target_of (instrs.Eq a b target) = Some target
target_of (instrs.Less a b target) = Some target
target_of (instrs.Jump target) = Some target
target_of i = None

-- whether a frame may stand behind an instruction: behind all but the return
abbrev pub goes_past : Instr → Bool
goes_past (instrs.Ret value) = false
goes_past i = true

-- a place at which a frame may stand in code that begins at a place: there, behind an instruction, and where one goes
pub data IsPlaceIn (first : ℕ) (instr : ℕ → Instr) : ℕ → Type 0 where
  stands_first : IsPlaceIn first instr first
  stands_behind : (place : ℕ) → IsPlaceIn first instr place → goes_past (instr place) ≡ true → IsPlaceIn first instr (place + instr_len (instr place))
  stands_at : (place target : ℕ) → IsPlaceIn first instr place → target_of (instr place) ≡ Some target → IsPlaceIn first instr target

-- the frame stands at an instruction of its function, or at the return past its end, and its value comes into a register
pub record IsPlaced (r : Reads) (f : PlainFrame) : Type 0 where
  pub known : HasFunction r (entry_at f)
  pub at : IsPlaceIn (r.first (entry_at f)) (r.instr (entry_at f)) f.place
  pub back : f.back < REGISTERS

-- each frame stands so
abbrev pub ArePlaced : Reads → List PlainFrame → Type 0
ArePlaced r [] = Unit {0}
ArePlaced r (f ∷ below) = IsPlaced r f × ArePlaced r below

-- a process may have a turn: it has not ended, just what it names is held, each frame stands at an instruction, the place of each literal begins the image of a term, and each area that it names stands in its block
pub record MayTurn (shown : Shown) (held : Holds) (p : Process) : Type 0 where
  pub going : HasNotEnded (process_of shown.words p)
  pub names : held ≡ names_of (process_of shown.words p)
  pub placed : ArePlaced shown.reads (frames_of shown.words p.frames)
  pub values : AreValues shown p.frames

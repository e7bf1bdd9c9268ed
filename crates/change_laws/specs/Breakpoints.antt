-- Which functions have a breakpoint once a change is made, and that none is in code that is gone.
-- Source: erts internal documentation, Tracing; that the breakpoints of code go when it is dropped is this project's own.
use Rattle.std.specs.Prelude.{◌≡◌, ◌⊎◌, ℕ, ◌==◌, ◌<◌, Bool, true, false, List, length, Some, IsTrue, if◌then◌else◌}
use Rattle.term_core.specs.declared.area.CodeRef.{CodeRef}
use Rattle.mod_core.specs.declared.code.Module.{Module}
use Rattle.server_core.specs.declared.change.Change.{Change}
use Rattle.server_core.specs.declared.change.Change.TheVariants.{ClearTrace, DropOld, SetTrace}
use Rattle.server_core.specs.declared.command.Cmd.{Cmd}
use Rattle.server_core.specs.CommandTable.{apply_of}
use Rattle.server_core.specs.Decided.{Fits, change_made}
use Rattle.server_core.specs.ServerState.{Entry, IsOldCode, IsSound, ServerState, code_of, empty_state, entry_of, is_retired, is_same_entry, is_serial_in, is_traced}
use Rattle.change_laws.specs.Changes.{changed_state}
use Rattle.change_laws.specs.Uses.{IsCurrentCode}

-- a change that neither sets nor clears a breakpoint, nor drops code, whose breakpoints go with it
abbrev pub KeepsBreakpoints : Change → Type 0
KeepsBreakpoints (DropOld generation name serial says retired) = ⊥
KeepsBreakpoints (SetTrace generation at traced) = ⊥
KeepsBreakpoints (ClearTrace generation at) = ⊥
KeepsBreakpoints change = Unit {0}

-- once it is made, the same functions have a breakpoint
abbrev pub BreakpointsStay : Type 0
BreakpointsStay = (s : ServerState) (change : Change) → KeepsBreakpoints change → (changed_state s change).traced ≡ s.traced

-- whether a function has a breakpoint then: the one whose breakpoint is set or cleared as was asked, none of the code that is dropped, each other as before
abbrev pub traced_then : ServerState → Change → Entry → Bool
traced_then s (SetTrace generation at traced) e = if is_same_entry e (entry_of at) then true else is_traced s e
traced_then s (ClearTrace generation at) e = if is_same_entry e (entry_of at) then false else is_traced s e
traced_then s (DropOld generation name serial says retired) e = if e.serial == serial then false else is_traced s e
traced_then s change e = is_traced s e

-- so it is once any change is made
abbrev pub BreakpointsFollow : Type 0
BreakpointsFollow = (s : ServerState) (change : Change) (e : Entry) → is_traced (changed_state s change) e ≡ traced_then s change e

-- ---- code that is known

-- the instance is current or old code
abbrev pub IsLiveCode : ServerState → ℕ → Type 0
IsLiveCode s serial = IsCurrentCode s serial ⊎ IsOldCode s serial

-- no code is forgotten: each breakpoint is in current or old code, and each instance that is neither was dropped
pub record KnowsItsCode (s : ServerState) : Type 0 where
  pub traced : (e : Entry) → IsTrue (is_traced s e) → IsLiveCode s e.serial
  pub kept : (serial : ℕ) (m : Module) → code_of s serial ≡ Some m → IsLiveCode s serial ⊎ (IsTrue (is_retired s serial) ⊎ IsTrue (is_serial_in s.released serial))

-- a breakpoint that a change sets is one in current code
abbrev pub SetsInCode : ServerState → Change → Type 0
SetsInCode s (SetTrace generation at traced) = IsCurrentCode s at.area.serial
SetsInCode s change = Unit {0}

-- the function is one of current code
pub record IsFunctionOfArea (s : ServerState) (at : CodeRef) : Type 0 where
  pub current : IsCurrentCode s at.area.serial
  pub code : Module
  pub is : code_of s at.area.serial ≡ Some code
  pub has : at.function < length code.functions

-- a breakpoint that a change sets or clears is one of a function of current code
abbrev pub TracesInCode : ServerState → Change → Type 0
TracesInCode s (SetTrace generation at traced) = IsFunctionOfArea s at
TracesInCode s (ClearTrace generation at) = IsFunctionOfArea s at
TracesInCode s change = Unit {0}

-- each change for which a command was decided sets breakpoints in current code
abbrev pub DecidedSetsInCode : Type 0
DecidedSetsInCode = (texts : List Module) (s : ServerState) (cmd : Cmd) (change : Change) → apply_of texts s cmd ≡ Some (change_made s change) → SetsInCode s change

-- the state knows its code in the beginning
abbrev pub CodeBeginsKnown : Type 0
CodeBeginsKnown = KnowsItsCode empty_state

-- and after each change that fits
abbrev pub CodeStaysKnown : Type 0
CodeStaysKnown = (s : ServerState) (change : Change) → IsSound s → Fits s change → SetsInCode s change → KnowsItsCode s → KnowsItsCode (changed_state s change)

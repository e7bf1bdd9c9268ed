-- What a call of m:f/a reaches once a change is made.
-- Source: the manual page `code` and erts internal documentation, CodeLoading: a load makes the new code current, a delete leaves none.
use Rattle.std.specs.Prelude.{◌≡◌, ◌≢◌, ℕ, ◌+◌, List, Option, None, Some, All, option_map, slice_get}
use Rattle.term_core.specs.declared.atom.Mfa.{Mfa}
use Rattle.mod_core.specs.declared.code.Module.{Module}
use Rattle.server_core.specs.declared.change.Change.{Change}
use Rattle.server_core.specs.declared.change.Change.TheVariants.{BringIn, MakeOld}
use Rattle.server_core.specs.CommandTable.{with_all, with_deleted}
use Rattle.server_core.specs.Decided.{FitsIn}
use Rattle.server_core.specs.ServerState.{Entry, IsSound, ServerState, dispatch_of, export_of}
use Rattle.change_laws.specs.Changes.{changed_state}

-- what a module exports under a name, in its instance with this serial
abbrev pub export_at : ℕ → Module → Mfa → Option Entry
export_at serial m to = option_map (λ i. record { serial = serial; function = i }) (export_of m to)

-- a call to a module that came in reaches what this module exports, in its new instance: its serial is the next one and its place in the load
abbrev pub LoadsAreReached : Type 0
LoadsAreReached = (s : ServerState) (modules : List Module) (place : ℕ) (m : Module) (to : Mfa) → IsSound s → FitsIn s modules → slice_get modules place ≡ Some m → m.name.0 ≡ to.«module».0
    → dispatch_of (with_all s modules) to ≡ export_at (s.next_serial + place) m to

-- a call to a module that did not come in reaches what it reached
abbrev pub LoadsLeaveOthers : Type 0
LoadsLeaveOthers = (s : ServerState) (modules : List Module) (to : Mfa) → IsSound s → All (λ m. m.name.0 ≢ to.«module».0) modules → dispatch_of (with_all s modules) to ≡ dispatch_of s to

-- a call to a deleted module reaches nothing
abbrev pub DeletedIsNotReached : Type 0
DeletedIsNotReached = (s : ServerState) (name : ℕ) (to : Mfa) → name ≡ to.«module».0 → dispatch_of (with_deleted s name) to ≡ None

-- and a call to another module what it reached
abbrev pub DeletesLeaveOthers : Type 0
DeletesLeaveOthers = (s : ServerState) (name : ℕ) (to : Mfa) → name ≢ to.«module».0 → dispatch_of (with_deleted s name) to ≡ dispatch_of s to

-- a change that is neither a load nor a delete
abbrev pub KeepsCurrent : Change → Type 0
KeepsCurrent (BringIn generation modules areas versions) = ⊥
KeepsCurrent (MakeOld generation name) = ⊥
KeepsCurrent change = Unit {0}

-- once it is made, every call reaches what it reached
abbrev pub OthersLeaveCalls : Type 0
OthersLeaveCalls = (s : ServerState) (change : Change) (to : Mfa) → KeepsCurrent change → dispatch_of (changed_state s change) to ≡ dispatch_of s to

-- Which areas the server uses once a change is made, and which it has retired.
-- Source: the manual pages `code` and `persistent_term`; erts internal documentation, CodeLoading: what was current becomes old, what is dropped waits for its release.
use Rattle.std.specs.Prelude.{◌≡◌, ◌⊎◌, ℕ, ◌+◌, ◌<◌, ◌≤◌, false, List, [], ◌∷◌, ◌++◌, Some, IsTrue, slice_get}
use Rattle.std.specs.Option.{option_to_list}
use Rattle.server_core.specs.declared.change.Change.{Change}
use Rattle.server_core.specs.declared.change.Change.TheVariants.{DropOld, Forget, HoldArea, HoldWord}
use Rattle.server_core.specs.Decided.{Fits, IsNoRelease}
use Rattle.server_core.specs.ServerState.{IsOldCode, IsSound, ServerState, current_of, is_retired, is_serial_in, key_area, old_of}
use Rattle.change_laws.specs.Changes.{Incoming, incoming, changed_state}

-- the instance with this serial is the current code of some module
abbrev pub IsCurrentCode : ServerState → ℕ → Type 0
IsCurrentCode s serial = (name : ℕ) × (current_of s name ≡ Some serial)

-- some key holds the complex term of the area with this serial
abbrev pub IsHeldArea : ServerState → ℕ → Type 0
IsHeldArea s serial = (key : ℕ) × (key_area s key ≡ Some serial)

-- the state uses the area: it is a current or an old instance, or the area of a key
abbrev pub IsUsed : ServerState → ℕ → Type 0
IsUsed s serial = IsCurrentCode s serial ⊎ (IsOldCode s serial ⊎ IsHeldArea s serial)

-- code that is current once the change is made was current before, or came in with it
abbrev pub CurrentStoodOrCame : Type 0
CurrentStoodOrCame = (s : ServerState) (change : Change) (name serial : ℕ) → current_of (changed_state s change) name ≡ Some serial → (current_of s name ≡ Some serial) ⊎ (s.next_serial ≤ serial)

-- code that is old then was current or old before, of the same module
abbrev pub OldStood : Type 0
OldStood = (s : ServerState) (change : Change) (name serial : ℕ) → Fits s change → old_of (changed_state s change) name ≡ Some serial → (current_of s name ≡ Some serial) ⊎ (old_of s name ≡ Some serial)

-- an area that is used then was used before, or came in with the change
abbrev pub UsedStoodOrCame : Type 0
UsedStoodOrCame = (s : ServerState) (change : Change) (serial : ℕ) → IsUsed (changed_state s change) serial → IsUsed s serial ⊎ (s.next_serial ≤ serial)

-- an area that is retired then was retired before, or was old code or the area of a key
abbrev pub RetiredStood : Type 0
RetiredStood = (s : ServerState) (change : Change) (serial : ℕ) → Fits s change → IsTrue (is_retired (changed_state s change) serial) → IsTrue (is_retired s serial) ⊎ (IsOldCode s serial ⊎ IsHeldArea s serial)

-- what was used is used still, or is retired: no area is forgotten
abbrev pub UsedIsNotForgotten : Type 0
UsedIsNotForgotten = (s : ServerState) (change : Change) (serial : ℕ) → Fits s change → IsUsed s serial → IsUsed (changed_state s change) serial ⊎ IsTrue (is_retired (changed_state s change) serial)

-- what was retired is so still, or is released
abbrev pub RetiredIsNotForgotten : Type 0
RetiredIsNotForgotten = (s : ServerState) (change : Change) (serial : ℕ) → IsTrue (is_retired s serial) → IsTrue (is_retired (changed_state s change) serial) ⊎ IsTrue (is_serial_in (changed_state s change).released serial)

-- what comes in is used: modules are current, a term is that of a key
abbrev pub IncomingIsUsed : Type 0
IncomingIsUsed = (s : ServerState) (change : Change) (place : ℕ) (comes : Incoming) → Fits s change → slice_get (incoming change) place ≡ Some comes → IsUsed (changed_state s change) (s.next_serial + place)

-- ---- sound states

-- in a sound state each area that is used came in
abbrev pub UsedIsKnown : Type 0
UsedIsKnown = (s : ServerState) (serial : ℕ) → IsSound s → IsUsed s serial → serial < s.next_serial

-- and none is retired or released
abbrev pub UsedIsNotDropped : Type 0
UsedIsNotDropped = (s : ServerState) (serial : ℕ) → IsSound s → IsUsed s serial → (is_retired s serial ≡ false) × (is_serial_in s.released serial ≡ false)

-- and no instance is current and old
abbrev pub OldIsNotCurrent : Type 0
OldIsNotCurrent = (s : ServerState) (serial : ℕ) → IsSound s → IsOldCode s serial → IsCurrentCode s serial → ⊥

-- ---- what is dropped

-- the instances that a change drops: the old code that a purge ends
abbrev pub instances_dropped : Change → List ℕ
instances_dropped (DropOld generation name serial says retired) = serial ∷ []
instances_dropped change = []

-- the areas of terms that a change drops: that of what the key held
abbrev pub terms_dropped : ServerState → Change → List ℕ
terms_dropped s (HoldWord generation key term keys retired) = option_to_list (key_area s key.0)
terms_dropped s (HoldArea generation key term stored areas keys retired) = option_to_list (key_area s key.0)
terms_dropped s (Forget generation key retired) = option_to_list (key_area s key.0)
terms_dropped s change = []

-- a change that releases none retires just what it drops, behind what was retired
abbrev pub DroppedIsRetired : Type 0
DroppedIsRetired = (s : ServerState) (change : Change) → IsNoRelease change → (changed_state s change).retired ≡ s.retired ++ (instances_dropped change ++ terms_dropped s change)

-- and it leaves what was released
abbrev pub ReleasedStays : Type 0
ReleasedStays = (s : ServerState) (change : Change) → IsNoRelease change → (changed_state s change).released ≡ s.released

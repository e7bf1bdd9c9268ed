-- A change between its decision and its making: what it makes of a state, and what it needs of that state.
-- Source: this project's own. A loader decides, waits until nobody reads what goes, and then makes the change in one step.
use Rattle.std.specs.Prelude.{◌≡◌, ◌≢◌, ℕ, ◌+◌, ◌≤◌, true, false, List, [], ◌∷◌, ◌++◌, length, Option, Some, None, IsSome, IsTrue, All, Vec}
use Rattle.std.specs.List.{AllPairs}
use Rattle.term_core.specs.Image.{is_immediate}
use Rattle.term_core.specs.Plain.{plain}
use Rattle.term_core.specs.PlainTerm.{PlainTerm}
use Rattle.mod_core.specs.declared.code.Module.{Module}
use Rattle.mod_core.specs.Module.{IsModule}
use Rattle.server_core.specs.declared.command.TheConstants.{MOST_INSTANCES}
use Rattle.server_core.specs.declared.command.Reply.TheVariants as replies
use Rattle.server_core.specs.declared.areas.Area.{Area}
use Rattle.server_core.specs.declared.change.Change.{Change}
use Rattle.server_core.specs.declared.slots.RetiredRoom.{RetiredRoom}
use Rattle.server_core.specs.declared.change.Change.TheVariants.{Nothing, BringIn, MakeOld, DropOld, Condemn, HoldWord, HoldArea, Forget, SetTrace, ClearTrace, GiveBack}
use Rattle.server_core.specs.ServerState.{ServerState, IsShortTerm, current_of, entry_of, is_retired, live_count, old_of}
use Rattle.server_core.specs.CommandTable.{Outcome, answered, published, unchanged, with_all, with_complex, with_deleted, with_erased, with_immediate, with_purged, with_released, with_trace, without_number}
use Rattle.server_core.specs.RetiredSlots.{HasRetiredRoom}
use Rattle.server_core.specs.Rooms.{HasPlace, HasPlaces, HasRoom, IsBlock}

-- the old code with this serial is to go: from now on a process that stands in it ends
abbrev pub with_doomed : ServerState → ℕ → ServerState
with_doomed s serial = record s { doomed = s.doomed ++ serial ∷ [] }

-- what the change makes of a state, and what it answers
abbrev pub change_made : ServerState → Change → Outcome
change_made s (Nothing reply) = unchanged s reply
change_made s (BringIn generation modules areas versions) = published (with_all s modules.items) replies.Ok
change_made s (MakeOld generation name) = published (with_deleted s name.0) replies.True
change_made s (DropOld generation name serial says retired) = published (with_purged s name.0 serial) (answered says)
change_made s (Condemn generation serial) = published (with_doomed s serial) replies.Ok
change_made s (HoldWord generation key term keys retired) = published (with_immediate s key.0 (plain term)) replies.Ok
change_made s (HoldArea generation key term stored areas keys retired) = published (with_complex s key.0 (plain term)) replies.Ok
change_made s (Forget generation key retired) = published (with_erased s key.0) replies.True
change_made s (SetTrace generation at traced) = published (with_trace s (entry_of at) true) replies.True
change_made s (ClearTrace generation at) = published (with_trace s (entry_of at) false) replies.True
change_made s (GiveBack serial released) = unchanged (with_released s serial) replies.Ok

-- the generation that a change makes is the next one
abbrev pub IsNext : ServerState → ℕ → Type 0
IsNext s generation = generation ≡ s.generation + 1

-- modules come in where none is doomed, none of them has old code, no two have one name, and there are places for them
pub record FitsIn (s : ServerState) (modules : List Module) : Type 0 where
  pub sound : All IsModule modules
  pub purged : All (λ m. old_of s m.name.0 ≡ None) modules
  pub once : AllPairs (λ m n. m.name.0 ≢ n.name.0) modules
  pub rest : s.doomed ≡ []
  pub places : live_count s.versions + length modules ≤ MOST_INSTANCES

-- current code becomes old where there is such, and no old code
pub record CanBeOld (s : ServerState) (name : ℕ) : Type 0 where
  pub current : IsSome (current_of s name)
  pub old : old_of s name ≡ None
  pub rest : s.doomed ≡ []

-- old code goes where nothing else is doomed
pub record CanGo (s : ServerState) (name serial : ℕ) : Type 0 where
  pub old : old_of s name ≡ Some serial
  pub doomed : without_number serial s.doomed ≡ []

-- old code can be doomed while nothing is
pub record CanBeDoomed (s : ServerState) (serial : ℕ) : Type 0 where
  pub old : (name : ℕ) × (old_of s name ≡ Some serial)
  pub rest : s.doomed ≡ []

-- a key can come to hold a term
pub record CanHold (s : ServerState) (key : ℕ) (term : PlainTerm) : Type 0 where
  pub short : IsShortTerm term
  pub place : HasPlace s.keys key term

-- there is room for so many areas more
abbrev pub AreasFit : {Z : Type 0} → ServerState → ℕ → Option (Vec Area Z) → Type 0
AreasFit s more block = (before : ℕ) → before + 1 ≡ s.next_serial → HasRoom before more block

-- there is room for a retired area more, whichever of those that came in it is
abbrev pub RetiredFits : ServerState → RetiredRoom → Type 0
RetiredFits s room = HasRetiredRoom (length s.retired) s.next_serial room

-- what a change needs of the state in which it is made: it is as far as when the change was decided, and what the change is about still stands
abbrev pub Fits : ServerState → Change → Type 0
Fits s (Nothing reply) = Unit {0}
Fits s (BringIn generation modules areas versions) = IsNext s generation × FitsIn s modules.items × AreasFit s (length modules.items) areas × HasPlaces (length s.versions + length modules.items) versions
Fits s (MakeOld generation name) = IsNext s generation × CanBeOld s name.0
Fits s (DropOld generation name serial says retired) = IsNext s generation × CanGo s name.0 serial × RetiredFits s retired
Fits s (Condemn generation serial) = IsNext s generation × CanBeDoomed s serial
Fits s (HoldWord generation key term keys retired) = IsNext s generation × CanHold s key.0 (plain term) × (is_immediate (plain term) ≡ true) × HasPlaces (length s.keys + 1) keys × RetiredFits s retired
Fits s (HoldArea generation key term stored areas keys retired) =
    IsNext s generation × CanHold s key.0 (plain term) × (is_immediate (plain term) ≡ false) × (stored ≡ plain term) × AreasFit s 1 areas × HasPlaces (length s.keys + 1) keys × RetiredFits s retired
Fits s (Forget generation key retired) = IsNext s generation × RetiredFits s retired
Fits s (SetTrace generation at traced) = IsNext s generation × IsBlock (length s.traced + 1) traced
Fits s (ClearTrace generation at) = IsNext s generation
Fits s (GiveBack serial released) = IsTrue (is_retired s serial) × HasRoom (length s.released) 1 released

-- a change that does not release an area itself
abbrev pub IsNoRelease : Change → Type 0
IsNoRelease (GiveBack serial released) = ⊥
IsNoRelease change = Unit {0}

-- every other change that waits still fits once an area was released
abbrev pub StayFit : Type 0
StayFit = (s : ServerState) (serial : ℕ) (change : Change) → IsNoRelease change → Fits s change → Fits (with_released s serial) change

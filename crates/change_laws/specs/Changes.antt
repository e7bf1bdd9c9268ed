-- What a change makes of the server's state: what comes in with it, and that the state stays sound.
-- Source: the manual pages `code` and `persistent_term`; that a change is decided first and made later is this project's own.
use Rattle.std.specs.Prelude.{◌≡◌, ◌+◌, List, [], ◌∷◌, length, map}
use Rattle.term_core.specs.Plain.{plain}
use Rattle.term_core.specs.PlainTerm.{PlainTerm}
use Rattle.mod_core.specs.declared.code.Module.{Module}
use Rattle.server_core.specs.declared.change.Change.{Change}
use Rattle.server_core.specs.declared.change.Change.TheVariants.{BringIn, HoldArea}
use Rattle.server_core.specs.CommandTable.{with_all}
use Rattle.server_core.specs.Decided.{Fits, change_made}
use Rattle.server_core.specs.ServerState.{IsSound, ServerState}

-- the state that a change leaves once it is made
abbrev pub changed_state : ServerState → Change → ServerState
changed_state s change = (change_made s change).state

-- what stands in an area of its own: an instance of a module, or a complex term
pub data Incoming : Type 0 where
  instance : Module → Incoming
  stored : PlainTerm → Incoming

-- what a change brings in, in the order of the serials: the modules of a load, or the complex term of a put
abbrev pub incoming : Change → List Incoming
incoming (BringIn generation modules areas versions) = map instance modules.items
incoming (HoldArea generation key term kept areas keys retired) = stored (plain term) ∷ []
incoming change = []

-- the modules that come in with a change
abbrev pub modules_of : Change → List Module
modules_of (BringIn generation modules areas versions) = modules.items
modules_of change = []

-- the complex terms that come in with it
abbrev pub incoming_terms : Change → List PlainTerm
incoming_terms (HoldArea generation key term kept areas keys retired) = plain term ∷ []
incoming_terms change = []

-- each change that fits leaves a sound state sound
abbrev pub ChangesKeepSound : Type 0
ChangesKeepSound = (s : ServerState) (change : Change) → IsSound s → Fits s change → IsSound (changed_state s change)

-- serials are given to what comes in, one each, and to nothing else
abbrev pub SerialsAreGiven : Type 0
SerialsAreGiven = (s : ServerState) (change : Change) → (changed_state s change).next_serial ≡ s.next_serial + length (incoming change)

-- two states that differ at most in their instances, in the next serial, and in what is current and old
pub record IsSameButCode (s t : ServerState) : Type 0 where
  pub generation : t.generation ≡ s.generation
  pub terms : t.terms ≡ s.terms
  pub keys : t.keys ≡ s.keys
  pub traced : t.traced ≡ s.traced
  pub doomed : t.doomed ≡ s.doomed
  pub retired : t.retired ≡ s.retired
  pub released : t.released ≡ s.released

-- modules that come in change nothing else
abbrev pub LoadsLeaveTheRest : Type 0
LoadsLeaveTheRest = (s : ServerState) (modules : List Module) → IsSameButCode s (with_all s modules)

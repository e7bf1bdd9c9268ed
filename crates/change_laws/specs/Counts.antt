-- How many areas are in use once a change is made.
-- Source: the limits on instances and on persistent terms are this project's own.
use Rattle.std.specs.Prelude.{◌≡◌, ◌≢◌, ◌+◌, length}
use Rattle.std.specs.List.{AllPairs}
use Rattle.server_core.specs.declared.change.Change.{Change}
use Rattle.server_core.specs.Decided.{Fits}
use Rattle.server_core.specs.ServerState.{ServerState, empty_state, live_areas, live_count}
use Rattle.change_laws.specs.Changes.{modules_of, changed_state, incoming_terms}
use Rattle.change_laws.specs.Uses.{instances_dropped, terms_dropped}

-- the live instances are those of before, and those that come in, without those that are dropped
abbrev pub InstancesAreCounted : Type 0
InstancesAreCounted = (s : ServerState) (change : Change) → Fits s change → live_count (changed_state s change).versions + length (instances_dropped change) ≡ live_count s.versions + length (modules_of change)

-- no key stands twice among those that hold a term
abbrev pub HasEachKeyOnce : ServerState → Type 0
HasEachKeyOnce s = AllPairs (λ p q. p.key ≢ q.key) s.keys

-- so it is in the beginning
abbrev pub KeysBeginOnce : Type 0
KeysBeginOnce = HasEachKeyOnce empty_state

-- and after each change
abbrev pub KeysStayOnce : Type 0
KeysStayOnce = (s : ServerState) (change : Change) → HasEachKeyOnce s → HasEachKeyOnce (changed_state s change)

-- then the areas of terms are those of before, and that which comes in, without that of what the key held
abbrev pub TermsAreCounted : Type 0
TermsAreCounted = (s : ServerState) (change : Change) → HasEachKeyOnce s → live_areas (changed_state s change).keys + length (terms_dropped s change) ≡ live_areas s.keys + length (incoming_terms change)

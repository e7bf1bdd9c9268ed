-- What contracts see of the tables that grow: what they hold, and for how much more they have room.
use Rattle.std.specs.Prelude.{◌≡◌, ℕ, ◌+◌, ◌/◌, ◌^◌, ◌<◌, ◌≤◌, ◌&&◌, false, nat_le, not, length, is_none, List, [], ◌∷◌, Option, Some, None, MatchOption, option_and_then, Vec, vec_capacity}
use Rattle.indexmap.specs.IndexMap.{IndexMap, spare}
use Rattle.term_core.specs.Image.{IsImmediate, is_immediate}
use Rattle.term_core.specs.Plain.{term_of}
use Rattle.term_core.specs.PlainTerm.{PlainTerm}
use Rattle.server_core.specs.declared.command.TheConstants.{MOST_KEYS, MOST_TERMS}
use Rattle.server_core.specs.ServerState.{Persistent, Versions, current_among, live_areas, persistent_among}
use Rattle.server_core.specs.CommandTable.{with_versions}

-- the versions of each module, and for how many modules more there is room
pub record Rooms : Type 0 where
  pub versions : List Versions
  pub room : ℕ

-- the persistent terms, and for how many keys more there is room
pub record KeyRooms : Type 0 where
  pub persistents : List Persistent
  pub room : ℕ

-- the instance with a serial is the current code of a module, and what was current is old
abbrev pub with_current : List Versions → ℕ → ℕ → List Versions
with_current vs name serial = with_versions vs (record { name = name; current = Some serial; old = current_among vs name })

-- what was current is old, and there is no current code
abbrev pub with_made_old : List Versions → ℕ → List Versions
with_made_old vs name = with_versions vs (record { name = name; current = None; old = current_among vs name })

-- the old code is gone
abbrev pub without_old : List Versions → ℕ → List Versions
without_old vs name = with_versions vs (record { name = name; current = current_among vs name; old = None })

-- a load for each module of these names, with serials in order
abbrev pub with_currents : List Versions → ℕ → List ℕ → List Versions
with_currents vs serial [] = vs
with_currents vs serial (name ∷ names) = with_currents (with_current vs name serial) (serial + 1) names

-- the area of what a key holds among these, if it holds a complex term
abbrev pub area_among : List Persistent → ℕ → Option ℕ
area_among ps key = option_and_then (λ p. p.area) (persistent_among ps key)

-- what is found without an area is found as a word
abbrev pub HasWord : Persistent → Type 0
HasWord p = p.area ≡ None → IsImmediate (term_of p.term)

-- there is a place for what a key is to hold: it holds a term already, or there are few keys; and a complex term comes where there are few areas
pub record HasPlace (keys : List Persistent) (key : ℕ) (term : PlainTerm) : Type 0 where
  pub for_key : (is_none (persistent_among keys key) && nat_le MOST_KEYS (length keys)) ≡ false
  pub for_area : (not (is_immediate term) && nat_le MOST_TERMS (live_areas keys)) ≡ false

-- a block without items, with room for so many
pub record IsBlock {T Z : Type 0} (count : ℕ) (block : Vec T Z) : Type 0 where
  pub empty : block.items ≡ []
  pub room : count ≤ vec_capacity block

-- a map without entries, with room for so many
pub record HasPlaces {K V S : Type 0} (count : ℕ) (map : IndexMap K V S) : Type 0 where
  pub empty : map.entries ≡ []
  pub room : count ≤ spare map

-- a block of this capacity has room for every list up to the power of two that is next to this length
abbrev pub HasRoomAhead : ℕ → ℕ → Type 0
HasRoomAhead len capacity = (power : ℕ) → 2 ^ power / 2 < len → 2 ^ power ≤ capacity

-- room for so many items behind those of a list that only grows: where its own block need not have it, a bigger one
pub record HasRoom {T Z : Type 0} (len more : ℕ) (block : Option (Vec T Z)) : Type 0 where
  pub power : ℕ
  pub fits : len + more ≤ 2 ^ power
  pub bigger : MatchOption block (2 ^ power / 2 < len) (IsBlock (2 ^ power))

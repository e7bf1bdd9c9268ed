-- What a key of a persistent term holds in a generation, and what a change makes of the keys.
-- Source: Erlang/OTP, the manual page of persistent_term; the words are this project's own.
use Rattle.std.specs.Prelude.{◌≡◌, ◌≢◌, ℕ, ◌%◌, true, Option, Some, None, ◌↔◌}
use Rattle.term_core.specs.declared.area.AreaRef.{AreaRef}
use Rattle.term_core.specs.declared.area.Found.{Found}
use Rattle.term_core.specs.declared.area.Found.TheVariants as founds
use Rattle.term_core.specs.declared.generation.KeyTerm.{KeyTerm}
use Rattle.term_core.specs.declared.generation.Holding.{Holding}
use Rattle.term_core.specs.declared.generation.Holding.TheVariants as holdings
use Rattle.area_core.specs.declared.table.Published.{Published}
use Rattle.area_core.specs.Generations.{is_term_word}
use Rattle.area_core.specs.Blocks.{Among}
use Rattle.term_table.specs.declared.change.Change.{Change}
use Rattle.term_table.specs.declared.change.Change.TheVariants.{Put, Erase}

-- ---- what a generation holds

-- the generation has no such key
abbrev pub Lacks : Published → ℕ → Type 0
Lacks p key = (k : KeyTerm) → Among p.state.keys k → k.key.0 ≢ key

-- the generation has the key, and it holds this
pub record HoldsTerm (p : Published) (key : ℕ) (holding : Holding) : Type 0 where
  pub term : KeyTerm
  pub among : Among p.state.keys term
  pub key_is : term.key.0 ≡ key
  pub holding_is : term.holding ≡ holding

-- so has each of its entries of the key
abbrev pub EachHolds : Published → ℕ → Holding → Type 0
EachHolds p key holding = (k : KeyTerm) → Among p.state.keys k → k.key.0 ≡ key → k.holding ≡ holding

-- what a look-up under the generation finds
abbrev pub IsHeld : Published → ℕ → Found → Type 0
IsHeld p key founds.Absent = Lacks p key
IsHeld p key (founds.Word value) = HoldsTerm p key (holdings.Word value) × EachHolds p key (holdings.Word value)
IsHeld p key (founds.Area area) = HoldsTerm p key (holdings.Area area.serial) × EachHolds p key (holdings.Area area.serial) × Among p.areas area

-- no word that a key holds is one that leads to an area
abbrev pub HasPlainWords : Published → Type 0
HasPlainWords p = (key value : ℕ) → HoldsTerm p key (holdings.Word value) → value % 16 ≢ 5

-- ---- changes

-- the key that is changed
abbrev pub key_of : Change → ℕ
key_of (Put key value) = key.0
key_of (Erase key) = key.0

-- the word that stands under it then, if one does
abbrev pub change_value : Change → Option ℕ
change_value (Put key value) = Some value
change_value (Erase key) = None

-- the change adds a key that the generation lacks
abbrev pub IsNewKey : Change → Published → Type 0
IsNewKey (Put key value) p = Lacks p key.0
IsNewKey (Erase key) p = ⊥

-- the generation holds under the key what this word stands for, or lacks the key
abbrev pub HoldsWord : Published → ℕ → Option ℕ → Type 0
HoldsWord p key None = Lacks p key
HoldsWord p key (Some word) = (holding : Holding) × HoldsTerm p key holding × ((k : KeyTerm) → Among p.state.keys k → k.key.0 ≡ key → is_term_word p k.holding word ≡ true)

-- a generation has the keys of another with this change, and the areas of the other keys are in the same blocks
pub record ChangesTo (change : Change) (p q : Published) : Type 0 where
  pub here : HoldsWord q (key_of change) (change_value change)
  pub others : (k : KeyTerm) → k.key.0 ≢ key_of change → Among q.state.keys k ↔ Among p.state.keys k
  pub placed : (k : KeyTerm) (serial : ℕ) (a : AreaRef) → Among q.state.keys k → k.key.0 ≢ key_of change → k.holding ≡ holdings.Area serial → Among p.areas a → a.serial ≡ serial → Among q.areas a

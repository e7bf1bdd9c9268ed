-- What holds of every state that meets the rule.
use Rattle.std.specs.Prelude.{◌≡◌, ℕ, Bool, List, Some, true, false, slice_get, slice_index, IsTrue}
use mathlib.Core.Option.{some}
use lib.ListN.{get_elem?}
use Rattle.atomic_table.specs.Table.{State}
use Rattle.term_core.specs.declared.area.CodeRef.{CodeRef}
use Rattle.area_core.specs.declared.map.WordKind.TheVariants.{InBlock}
use Rattle.area_core.specs.declared.table.KeptArea.{KeptArea}
use Rattle.area_core.specs.declared.table.Published.{Published}
use Rattle.area_core.specs.Generations.{is_entry_word}
use Rattle.area_core.specs.Map.{kind_at, slot_place, block_place, image_entry_at}
use Rattle.area_core.specs.Blocks.{Among, IsAnchor}
use Rattle.area_core.specs.Readers.{held_by_member}
use Rattle.area_core.specs.Step.{IsReadable, IsSound}
use Rattle.marks.specs.declared.kept.LookKind.{LookKind}
use Rattle.marks.specs.Names.{names_in}
use Rattle.marks.specs.Kept.{comes_to}
use Rattle.marks.specs.Steps.{holding}
use Rattle.shared_words.specs.declared.opening.Opening.{Opening}
use Rattle.shared_words.specs.declared.view.WriterView.{WriterView}
use Rattle.shared_words.specs.declared.view.MemberView.{MemberView}
use Rattle.shared_words.specs.declared.view.View.{View}
use Rattle.shared_words.specs.declared.view.View.TheVariants.{Member}
use Rattle.shared_words.specs.Views.{held_last}
use Rattle.shared_words.specs.Shown.{state_of}
use Rattle.shared_words.specs.Rule.{RunningRule}
use Rattle.shared_words.specs.Publishing.{MayStoreWord, MayStoreEntry, ReadsHeld, MayLoadWord}
use Rattle.shared_words.specs.Slots.{IsClear}

-- the state that words and views show meets the progress invariant and the block invariant
abbrev pub ShowsSound : (Published → Type 0) → Type 0
ShowsSound Served = (opening : Opening) (s : State (Unit {0}) View) (r : RunningRule Served opening s) → IsSound (state_of s.words r.writer r.seats)

-- the generation that a seat holds is one that some thread may read
abbrev pub HeldIsReadable : (Published → Type 0) → Type 0
HeldIsReadable Served = (opening : Opening) (s : State (Unit {0}) View) (r : RunningRule Served opening s) (id g : ℕ) (v : View) → get_elem? s.views id ≡ some v → held_last v ≡ Some g → IsReadable (state_of s.words r.writer r.seats) g

-- the load is one by a slot, of an entry word of an area that is kept in the block
pub record IsEntryLoad (kept : List KeptArea) (word block at : ℕ) (v : View) : Type 0 where
  pub m : MemberView
  pub is : v ≡ Member m
  pub unheld : ReadsHeld word m.seen (held_by_member m.member) → ⊥
  pub area : KeptArea
  pub among : Among kept area
  pub here : area.area.block ≡ block
  pub entry : IsTrue (is_entry_word area at)

-- a word of a block that some seat may load is none that the writer may store, but for an entry word of a kept area
abbrev pub KeepsWhatIsRead : (Published → Type 0) → Type 0
KeepsWhatIsRead Served = (opening : Opening) (s : State (Unit {0}) View) (r : RunningRule Served opening s) (id word value block at : ℕ) (v : View) → get_elem? s.views id ≡ some v → kind_at word ≡ InBlock block at → MayLoadWord word v → MayStoreWord r.writer word value → IsEntryLoad r.writer.kept word block at v

-- the word is an entry word of an area that is kept in its block
pub record IsKeptEntry (kept : List KeptArea) (word : ℕ) : Type 0 where
  pub block : ℕ
  pub at : ℕ
  pub is : kind_at word ≡ InBlock block at
  pub area : KeptArea
  pub among : Among kept area
  pub here : area.area.block ≡ block
  pub entry : IsTrue (is_entry_word area at)

-- so is the word of each entry that the writer may store, which it may while a seat loads the word
abbrev pub StoresEntriesAlone : (Published → Type 0) → Type 0
StoresEntriesAlone Served = (opening : Opening) (s : State (Unit {0}) View) (r : RunningRule Served opening s) (at : CodeRef) (on : Bool) → MayStoreEntry r.writer at on → IsKeptEntry r.writer.kept (block_place at.area.block (image_entry_at at.function))

-- no slot names the area in the kind, and no turn under a generation that a thread may read comes to it
pub record IsOutOfUse (words : List ℕ) (w : WriterView) (seats : List View) (kind : LookKind) (serial : ℕ) : Type 0 where
  pub unnamed : (process anchor : ℕ) → IsAnchor process anchor → names_in kind (slice_index words (slot_place process anchor)) serial ≡ false
  pub unreached : (g : ℕ) (p : Published) → IsReadable (state_of words w seats) g → slice_get w.published g ≡ Some p → comes_to (holding true g p) kind serial ≡ false

-- so it is of each area that a look found clear, while the writer keeps the look
abbrev pub ClearHolds : (Published → Type 0) → Type 0
ClearHolds Served = (opening : Opening) (s : State (Unit {0}) View) (r : RunningRule Served opening s) (kind : LookKind) (serial : ℕ) → IsClear r.writer kind serial → IsOutOfUse s.words r.writer r.seats kind serial

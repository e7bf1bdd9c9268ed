-- When an area may be released, and what that leaves: nobody may read its block, and no slot names it.
-- Source: Erlang/OTP erts internal documentation, CodeLoading, and the manual page of persistent_term; the words are this
-- project's own.
use Rattle.std.specs.Prelude.{◌≡◌, ℕ, ◌<◌, ◌≤◌, nat_lt, if◌then◌else◌, length, Some, false, slice_index}
use mathlib.Core.Option.{some}
use lib.ListN.{get_elem?}
use Rattle.atomic_table.specs.Table.{State}
use Rattle.prgr_core.specs.declared.member.Retirement.{Retirement}
use Rattle.term_core.specs.declared.area.AreaRef.{AreaRef}
use Rattle.area_core.specs.declared.table.Published.{Published}
use Rattle.area_core.specs.declared.map.TheConstants.{BIG_BLOCKS}
use Rattle.area_core.specs.Map.{block_place, retire_place, doom_place, slot_place, room_of}
use Rattle.area_core.specs.Blocks.{Among, IsAnchor}
use Rattle.marks.specs.declared.kept.LookKind.TheVariants.{Both}
use Rattle.marks.specs.Names.{names_in}
use Rattle.shared_words.specs.declared.opening.Opening.{Opening}
use Rattle.shared_words.specs.declared.view.WriterView.{WriterView}
use Rattle.shared_words.specs.declared.view.View.{View}
use Rattle.shared_words.specs.Rule.{RunningRule}
use Rattle.shared_words.specs.Publishing.{MayLoadWord, with_word}
use Rattle.shared_words.specs.Slots.{IsClear}
use Rattle.shared_words.specs.Drops.{drop_of, with_drop}
use Rattle.literal_areas.specs.declared.blocks.BlockUse.TheVariants.{Retired}
use Rattle.literal_areas.specs.declared.areas.Areas.{Areas}
use Rattle.literal_areas.specs.Blocks.{use_of}

-- the area may be released
pub record MayRelease (s : Areas) (w : WriterView) (area : AreaRef) : Type 0 where
  -- it is retired, by a generation that was published
  pub since : ℕ
  pub retired : use_of s area.block ≡ Some (Retired area.serial since)
  pub published : since < length w.published
  -- a value that the writer took since then is reached
  pub pair : Retirement
  pub taken : Among w.pairs pair
  pub later : since ≤ pair.generation
  pub reached : pair.need ≤ w.counter
  -- a look in both kinds was clear of it
  pub clear : IsClear w Both area.serial

-- the writer once the retire word of the block is 0, and its doom word where it is one for instances
abbrev pub words_cleared : ℕ → WriterView → WriterView
words_cleared block w =
    if nat_lt block BIG_BLOCKS then with_word (doom_place block) 0 (with_word (retire_place block) 0 w) else with_word (retire_place block) 0 w

-- the same once the area is released: it keeps besides that the area was dropped in both kinds
abbrev pub area_released : AreaRef → WriterView → WriterView
area_released area w = with_drop (drop_of w Both area.serial) (words_cleared area.block w)

-- while the writer knows this, no thread may load a word of the block
abbrev pub IsUnread : (Published → Type 0) → Opening → WriterView → ℕ → Type 0
IsUnread Served opening w block =
    (s : State (Unit {0}) View) (r : RunningRule Served opening s) → r.writer ≡ w → (id : ℕ) (v : View) (at : ℕ) → at < room_of block → get_elem? s.views id ≡ some v → MayLoadWord (block_place block at) v → ⊥

-- while the writer knows this, no slot names the area
abbrev pub IsUnnamed : (Published → Type 0) → Opening → WriterView → ℕ → Type 0
IsUnnamed Served opening w serial =
    (s : State (Unit {0}) View) (r : RunningRule Served opening s) → r.writer ≡ w → (process anchor : ℕ) → IsAnchor process anchor → names_in Both (slice_index s.words (slot_place process anchor)) serial ≡ false

-- A change that leaves what calls reach, what keys hold and what is traced of code that stays is published over the blocks of the newest generation, with no wait.
-- Source: Erlang/OTP erts internal documentation, CodeLoading, and the manual page code (purge, soft_purge).
use Rattle.std.specs.Prelude.{◌≡◌, ℕ, ◌<◌, List, length, Option, Some, None, IsSomeAnd}
use Rattle.term_core.specs.declared.area.AreaRef.{AreaRef}
use Rattle.term_core.specs.declared.atom.Mfa.{Mfa}
use Rattle.term_core.specs.declared.generation.Generation.{Generation}
use Rattle.area_core.specs.declared.map.TheConstants.{BIG_BLOCKS}
use Rattle.area_core.specs.declared.table.Published.{Published}
use Rattle.area_core.specs.Map.{doom_place}
use Rattle.area_core.specs.Step.{to_publish}
use Rattle.marks.specs.declared.kept.LookKind.TheVariants.{Frame}
use Rattle.marks.specs.Steps.{with_drop_kept}
use Rattle.shared_words.specs.declared.view.WriterView.{WriterView}
use Rattle.shared_words.specs.Publishing.{with_word}
use Rattle.shared_words.specs.Drops.{AgreesWithLooks, drop_of, with_drop}
use Rattle.shared_words.specs.Slots.{IsClear}
use Rattle.progress_words.specs.Roots.{newest_of}
use Rattle.progress_words.specs.Tokens.{written_by}
use Rattle.server_core.specs.declared.change.Change.{Change}
use Rattle.server_core.specs.declared.change.Change.TheVariants.{Condemn, DropOld}
use Rattle.server_core.specs.ServerState.{ServerState}
use Rattle.literal_areas.specs.declared.areas.Areas.{Areas}
use Rattle.literal_areas.specs.Blocks.{IsLive}
use Rattle.literal_areas.specs.Owned.{AreOf}
use Rattle.staging.specs.declared.tables.Tables.{Tables}
use Rattle.staging.specs.Replaced.{HasRetired}
use Rattle.staging.specs.Stages.{NothingStaged}
use Rattle.staging.specs.Standing.{StandFor}

-- the generation over the code index, the breakpoint index and the term table of the newest one
abbrev pub renewed : WriterView → Generation → List AreaRef → Published
renewed w state areas = to_publish (newest_of w).root.code (newest_of w).root.bp (newest_of w).root.term state areas

-- a change of what is doomed, or the drop of old code
abbrev pub IsRenewal : Change → Type 0
IsRenewal (Condemn generation serial) = Unit {0}
IsRenewal (DropOld generation name serial says retired) = Unit {0}
IsRenewal change = ⊥

-- ---- the word that is stored before the root

-- the writer knows what it knew but for words, and the areas that are kept are the same
abbrev pub IsSameButWords : WriterView → WriterView → Type 0
IsSameButWords before after = after ≡ record before { words = after.words }

-- the instance is doomed from the generation on that is published next: its doom word says so, and no other word was stored
pub record HasDoomed (serial : ℕ) (pools : Areas) (before after : WriterView) : Type 0 where
  pub area : AreaRef
  pub serial_is : area.serial ≡ serial
  pub live : IsLive pools area
  pub big : area.block < BIG_BLOCKS
  pub stored : after ≡ with_word (doom_place area.block) (length before.published) before

-- the word of a change is stored, if it has one
abbrev pub HasAnnounced : Change → Areas → WriterView → Areas → WriterView → Type 0
HasAnnounced (Condemn generation serial) old before new after = (new ≡ old) × HasDoomed serial old before after
HasAnnounced (DropOld generation name serial says retired) old before new after = HasRetired serial old before new after
HasAnnounced change old before new after = (new ≡ old) × (after ≡ before)

-- the words stood for the state, and but for the word of the change they stand so still
pub record AreAnnounced (names : List Mfa) (s : ServerState) (change : Change) (t : Tables) : Type 0 where
  -- the pools and the words before
  pub pools : Areas
  pub view : WriterView
  pub stands : StandFor names s pools view
  pub owned : AreOf pools view
  pub announced : HasAnnounced change pools view t.pools (written_by t.writer)
  pub staged : NothingStaged t

-- ---- what is kept of an instance that is dropped

-- the area is that of the instance that the change drops, if it drops one
abbrev pub IsDropOf : Change → Option AreaRef → Type 0
IsDropOf (DropOld generation name serial says retired) dropped = IsSomeAnd dropped (λ area. area.serial ≡ serial)
IsDropOf change dropped = dropped ≡ None

-- a look was clear of frames in the instance that the change drops
abbrev pub IsClearOf : Change → WriterView → Type 0
IsClearOf (DropOld generation name serial says retired) w = IsClear w Frame serial
IsClearOf change w = Unit {0}

-- what the writer knows once it keeps the drop besides
abbrev pub with_drop_of : Option AreaRef → WriterView → WriterView → WriterView
with_drop_of None before after = after
with_drop_of (Some area) before after = with_drop (drop_of before Frame area.serial) after

-- the drop is kept besides, and agrees with each look that is kept; of another change nothing more is kept
abbrev pub KeepsDrop : Change → WriterView → WriterView → Type 0
KeepsDrop (DropOld generation name serial says retired) before after =
    (after.looks ≡ with_drop_kept before.looks (drop_of before Frame serial)) × AgreesWithLooks before.looks (drop_of before Frame serial)
KeepsDrop change before after = after.looks ≡ before.looks

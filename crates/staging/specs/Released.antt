-- An area that is retired is released: its block is free, the newest generation stays, and the words stand for the state that has released it.
-- Source: Erlang/OTP erts internal documentation, CodeLoading, and the manual page of persistent_term; that a release is no generation is this project's own.
use Rattle.std.specs.Prelude.{◌≡◌, ℕ, List, IsTrue}
use Rattle.term_core.specs.declared.area.AreaRef.{AreaRef}
use Rattle.term_core.specs.declared.atom.Mfa.{Mfa}
use Rattle.marks.specs.declared.kept.LookKind.TheVariants.{Both}
use Rattle.marks.specs.Steps.{with_drop_kept}
use Rattle.shared_words.specs.declared.view.WriterView.{WriterView}
use Rattle.shared_words.specs.Drops.{drop_of}
use Rattle.shared_words.specs.Slots.{IsClear}
use Rattle.progress_words.specs.Tokens.{written_by}
use Rattle.server_core.specs.declared.change.Change.{Change}
use Rattle.server_core.specs.CommandTable.{with_released}
use Rattle.server_core.specs.ServerState.{ServerState, is_retired}
use Rattle.breakpoints.specs.Laws.{IsCalledByNone, IsUncalled}
use Rattle.literal_areas.specs.declared.areas.Areas.{Areas}
use Rattle.literal_areas.specs.Released.{MayRelease}
use Rattle.staging.specs.declared.tables.Tables.{Tables}
use Rattle.staging.specs.declared.stage.Stage.{Stage}
use Rattle.staging.specs.Stages.{AreAtRest, AreSettling, StageStands}
use Rattle.staging.specs.Whose.{KeepsWaits}

-- the area of this serial may be released
pub record IsReleasable (serial : ℕ) (pools : Areas) (w : WriterView) : Type 0 where
  pub area : AreaRef
  pub serial_is : area.serial ≡ serial
  pub may : MayRelease pools w area
  -- no generation that may be read has a current or old instance in its block
  pub called : IsCalledByNone w area.block
  pub uncalled : IsUncalled w area.block

-- a retired area of which a look in both kinds was clear may be released, at each stage of a change that waits
abbrev pub ClearAreReleasable : List Mfa → Type 0
ClearAreReleasable names =
    (s : ServerState) (change : Change) (stage : Stage) (t : Tables) (serial : ℕ) → StageStands names s change t stage → IsTrue (is_retired s serial)
    → IsClear (written_by t.writer) Both serial → IsReleasable serial t.pools (written_by t.writer)

-- so it may while the switch of a breakpoint is not over
abbrev pub SettlingAreReleasable : List Mfa → Type 0
SettlingAreReleasable names =
    (s : ServerState) (t : Tables) (serial : ℕ) → AreSettling names s t → IsTrue (is_retired s serial) → IsClear (written_by t.writer) Both serial → IsReleasable serial t.pools (written_by t.writer)

-- what is staged, and what a commit, a key and a patch wait for, is as before
pub record IsStagedStill (old new : Tables) : Type 0 where
  pub index : new.index ≡ old.index
  pub terms : new.terms ≡ old.terms
  pub patch : new.patch ≡ old.patch

-- the words stand for each state that they stood for, once it has released the area
abbrev pub StandReleased : List Mfa → ℕ → Tables → Tables → Type 0
StandReleased names serial old new = (s : ServerState) → AreAtRest names s old → AreAtRest names (with_released s serial) new

-- so do they at each stage of a change that waits
abbrev pub StagesReleased : List Mfa → ℕ → Tables → Tables → Type 0
StagesReleased names serial old new =
    (s : ServerState) (change : Change) (stage : Stage) → StageStands names s change old stage → StageStands names (with_released s serial) change new stage

-- and while the switch of a breakpoint is not over
abbrev pub SettlingReleased : List Mfa → ℕ → Tables → Tables → Type 0
SettlingReleased names serial old new = (s : ServerState) → AreSettling names s old → AreSettling names (with_released s serial) new

-- what the words stand for they stand for still, at rest, at each stage of a change that waits, and while the switch of a breakpoint is not over
pub record StandStill (names : List Mfa) (old new : Tables) : Type 0 where
  pub rest : (s : ServerState) → AreAtRest names s old → AreAtRest names s new
  pub stages : (s : ServerState) (change : Change) (stage : Stage) → StageStands names s change old stage → StageStands names s change new stage
  pub settling : (s : ServerState) → AreSettling names s old → AreSettling names s new

-- that the area was dropped is kept, and nothing is published
pub record KeepsRelease (serial : ℕ) (before after : WriterView) : Type 0 where
  pub looks : after.looks ≡ with_drop_kept before.looks (drop_of before Both serial)
  pub published : after.published ≡ before.published
  pub notes : after.notes ≡ before.notes
  pub waits : KeepsWaits before after
  -- and no value was taken to wait for
  pub pairs : after.pairs ≡ before.pairs

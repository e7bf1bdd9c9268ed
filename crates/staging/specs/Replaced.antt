-- What a key held is retired when the key comes to hold another term, or none.
-- Source: Erlang/OTP, the manual page of persistent_term: what a key held before is dropped once nobody reads it.
use Rattle.std.specs.Prelude.{◌≡◌, ℕ, List, length, Option, Some, None}
use Rattle.term_core.specs.declared.area.AreaRef.{AreaRef}
use Rattle.term_core.specs.declared.atom.Mfa.{Mfa}
use Rattle.area_core.specs.declared.map.TheConstants.{BUCKETS}
use Rattle.area_core.specs.Map.{retire_place}
use Rattle.shared_words.specs.declared.view.WriterView.{WriterView}
use Rattle.shared_words.specs.Publishing.{with_word}
use Rattle.progress_words.specs.Tokens.{written_by}
use Rattle.server_core.specs.declared.change.Change.{Change}
use Rattle.server_core.specs.declared.change.Change.TheVariants.{HoldWord, HoldArea, Forget}
use Rattle.server_core.specs.Decided.{change_made}
use Rattle.server_core.specs.ServerState.{ServerState, key_area}
use Rattle.literal_areas.specs.declared.areas.Areas.{Areas}
use Rattle.literal_areas.specs.Blocks.{IsLive, with_retired}
use Rattle.literal_areas.specs.Owned.{AreOf}
use Rattle.literal_areas.specs.Written.{IsPublished}
use Rattle.term_table.specs.Built.{held_in}
use Rattle.term_table.specs.Tables.{staging_table, words_in}
use Rattle.staging.specs.declared.tables.Tables.{Tables}
use Rattle.staging.specs.Keyed.{AreKeyed}
use Rattle.change_laws.specs.Changes.{incoming}
use Rattle.staging.specs.Placed.{ArePlaced}
use Rattle.staging.specs.Standing.{StandFor}
use Rattle.staging.specs.Upcoming.{areas_in}

-- ---- the former area

-- the area of what the key of a change held, if it had one
abbrev pub former_of : ServerState → Change → Option ℕ
former_of s (HoldWord generation key term keys retired) = key_area s key.0
former_of s (HoldArea generation key term stored areas keys retired) = key_area s key.0
former_of s (Forget generation key retired) = key_area s key.0
former_of s change = None

-- the area of this serial is live in a block, and was published
pub record IsLiveThere (serial : ℕ) (pools : Areas) (w : WriterView) : Type 0 where
  pub area : AreaRef
  pub serial_is : area.serial ≡ serial
  pub live : IsLive pools area
  pub published : IsPublished w area

-- the area is that of what the key holds, and live in its block
pub record IsFormerArea (s : ServerState) (key : ℕ) (pools : Areas) (area : AreaRef) : Type 0 where
  pub held : key_area s key ≡ Some area.serial
  pub live : IsLive pools area

-- the area is retired from the generation on that is published next: its block and its retire word say so, and no other word was stored
pub record HasRetired (serial : ℕ) (old : Areas) (before : WriterView) (new : Areas) (after : WriterView) : Type 0 where
  pub area : AreaRef
  pub serial_is : area.serial ≡ serial
  pub live : IsLive old area
  pub pools : new ≡ with_retired area (length before.published) old
  pub stored : after ≡ with_word (retire_place area.block) (length before.published) before

-- so is the former area, if there is one
abbrev pub FormerRetired : Option ℕ → Areas → WriterView → Areas → WriterView → Type 0
FormerRetired None old before new after = (new ≡ old) × (after ≡ before)
FormerRetired (Some serial) old before new after = HasRetired serial old before new after

-- ---- all that a key needs before the store of the root

-- as many keys are staged as the state has that the change leaves
abbrev pub AreCounted : ServerState → Change → Tables → Type 0
AreCounted s change t = held_in (words_in (written_by t.writer).words (staging_table (written_by t.writer))) BUCKETS ≡ length (change_made s change).state.keys

-- the key is staged, and what comes in has its area
pub record HaveKeyed (names : List Mfa) (s : ServerState) (change : Change) (t : Tables) (taken : List AreaRef) : Type 0 where
  pub rest : Areas
  pub stands : StandFor names s rest (written_by t.writer)
  pub placed : ArePlaced (incoming change) rest t.pools (written_by t.writer) taken
  pub whole : length taken ≡ length (incoming change)
  pub keyed : AreKeyed names s change (areas_in t.pools) t
  pub counted : AreCounted s change t
  pub patch : t.patch ≡ None

-- and the former area is retired
pub record HaveReplaced (names : List Mfa) (s : ServerState) (change : Change) (t : Tables) (taken : List AreaRef) : Type 0 where
  pub rest : Areas
  -- the pools and the words before it was
  pub pools : Areas
  pub view : WriterView
  pub stands : StandFor names s rest view
  pub placed : ArePlaced (incoming change) rest pools view taken
  pub owned : AreOf pools view
  pub whole : length taken ≡ length (incoming change)
  pub former : FormerRetired (former_of s change) pools view t.pools (written_by t.writer)
  pub keyed : AreKeyed names s change (areas_in t.pools) t
  pub counted : AreCounted s change t
  pub patch : t.patch ≡ None

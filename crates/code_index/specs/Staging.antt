-- Of the three code indices one is active, and the one behind it, going round, is that in which exports are staged.
-- Source: Erlang/OTP erts internal documentation, CodeLoading; the words are this project's own.
use Rattle.std.specs.Prelude.{◌≡◌, ◌≢◌, ℕ, ◌+◌, ◌%◌, ◌<◌, ◌≤◌, [], ◌∷◌, length}
use Rattle.area_core.specs.declared.map.TheConstants.{TABLE_WORDS, CODE_INDICES, AREAS_START}
use Rattle.area_core.specs.declared.table.Published.{Published}
use Rattle.area_core.specs.declared.table.KeptArea.{KeptArea}
use Rattle.area_core.specs.Map.{word_at}
use Rattle.area_core.specs.Blocks.{Among}
use Rattle.area_core.specs.Step.{opening_published}
use Rattle.shared_words.specs.declared.view.WriterView.{WriterView}
use Rattle.shared_words.specs.Views.{newest_number}
use Rattle.shared_words.specs.Publishing.{EachMayBeRead}
use Rattle.progress_words.specs.Needs.{HasTaken}
use Rattle.progress_words.specs.Roots.{newest_of}
use Rattle.code_index.specs.declared.index.Staging.{Staging}
use Rattle.code_index.specs.declared.index.Staging.TheVariants.{Nothing, Staged, Committing}
use Rattle.code_index.specs.Exports.{LeadTo}

-- ---- which index

-- the index by which it is called
abbrev pub active_index : WriterView → ℕ
active_index w = (newest_of w).root.code

-- the index in which the exports of the next generation are staged
abbrev pub staging_index : WriterView → ℕ
staging_index w = (active_index w + 1) % CODE_INDICES

-- ---- how far

-- the index that is staged; the first one where nothing is
abbrev pub block_of : Staging → ℕ
block_of Nothing = 0
block_of (Staged block) = block
block_of (Committing block need) = block

-- exports are staged, and no commit has begun
abbrev pub IsStaged : Staging → Type 0
IsStaged x = (block : ℕ) × (x ≡ Staged block)

-- what is staged is in the staging index of the writer, and a commit that has begun waits for a value that was taken while the
-- newest generation was that
abbrev pub GoesWith : Staging → WriterView → Type 0
GoesWith Nothing w = Unit {0}
GoesWith (Staged block) w = block ≡ staging_index w
GoesWith (Committing block need) w = (block ≡ staging_index w) × HasTaken w (newest_number w.published) need

-- the staging index leads each name to what this generation exports
abbrev pub Stages : Staging → Published → WriterView → Type 0
Stages Nothing p w = ⊥
Stages (Staged block) p w = LeadTo w.words block p
Stages (Committing block need) p w = LeadTo w.words block p

-- ---- whose index

-- the code indices are those of the writer who knows this
pub record IsIndexOf (x : Staging) (w : WriterView) : Type 0 where
  -- the writer knows all words
  pub all : length w.words ≡ TABLE_WORDS
  -- areas do not stand in the blocks of indices
  pub areas : (k : KeptArea) → Among w.kept k → AREAS_START ≤ k.area.block
  -- the active index is one of the three, and leads each name to what the newest generation exports
  pub fits : active_index w < CODE_INDICES
  pub active : LeadTo w.words (active_index w) (newest_of w)
  -- no generation that may be read is called by the staging index
  pub free : EachMayBeRead w (λ g p. p.root.code ≢ staging_index w)
  pub staged : GoesWith x w

-- the writer has published nothing but the empty generation, keeps no area, and each word is 0
pub record IsAtFirst (w : WriterView) : Type 0 where
  pub all : length w.words ≡ TABLE_WORDS
  pub published : w.published ≡ opening_published ∷ []
  pub kept : w.kept ≡ []
  pub words : (place : ℕ) → word_at w.words place ≡ 0

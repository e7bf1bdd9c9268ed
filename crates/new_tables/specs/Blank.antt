-- The writer of a new table.
use Rattle.std.specs.Prelude.{◌≡◌, ℕ, [], ◌∷◌, length}
use Rattle.area_core.specs.declared.map.TheConstants.{TABLE_WORDS}
use Rattle.area_core.specs.Map.{word_at}
use Rattle.area_core.specs.Step.{opening_published}
use Rattle.shared_words.specs.declared.view.WriterView.{WriterView}

-- it has published the empty generation alone and made no note, it keeps no area, and each word is 0
pub record IsBlank (w : WriterView) : Type 0 where
  pub all : length w.words ≡ TABLE_WORDS
  pub published : w.published ≡ opening_published ∷ []
  pub kept : w.kept ≡ []
  pub notes : w.notes ≡ []
  pub words : (place : ℕ) → word_at w.words place ≡ 0

-- What the copy of the active index leaves: the first so many words of another lead to what the newest generation exports,
-- and all other words are as before.
use Rattle.std.specs.Prelude.{◌≡◌, ◌≢◌, ℕ, ◌<◌, slice_get, IsTrue}
use Rattle.area_core.specs.Map.{word_at, block_place}
use Rattle.area_core.specs.Generations.{is_code_word}
use Rattle.shared_words.specs.declared.view.WriterView.{WriterView}
use Rattle.shared_words.specs.Publishing.{with_word}
use Rattle.progress_words.specs.Roots.{newest_of}

-- one word was copied
pub record HasCopiedWord (block entry : ℕ) (old new : WriterView) : Type 0 where
  pub value : ℕ
  pub leads : IsTrue (is_code_word (newest_of old) (slice_get (newest_of old).state.exports entry) value)
  pub view : new ≡ with_word (block_place block entry) value old

-- so many words were copied
pub record HasCopied (block count : ℕ) (old new : WriterView) : Type 0 where
  pub leads : (entry : ℕ) → entry < count → IsTrue (is_code_word (newest_of old) (slice_get (newest_of old).state.exports entry) (word_at new.words (block_place block entry)))
  pub others : (place : ℕ) → ((entry : ℕ) → entry < count → place ≢ block_place block entry) → word_at new.words place ≡ word_at old.words place
  pub same : new ≡ record old { words = new.words }

-- Generations in which integers stand under the first atoms, and nothing else is.
use Rattle.std.specs.Prelude.{◌≡◌, ℕ, zero, suc, ◌+◌, ◌*◌, ◌%◌, List, [], ◌∷◌, length}
use Rattle.term_core.specs.declared.generation.KeyTerm.{KeyTerm}
use Rattle.term_core.specs.declared.generation.Holding.TheVariants.{Word}
use Rattle.area_core.specs.declared.table.Published.{Published}
use Rattle.area_core.specs.Map.{word_at}
use Rattle.area_core.specs.Blocks.{Among}
use Rattle.area_core.specs.Step.{empty_generation, to_publish}
use Rattle.shared_words.specs.declared.view.WriterView.{WriterView}
use Rattle.progress_words.specs.Roots.{newest_of}
use Rattle.term_table.specs.Laws.{IsElsewhere}

-- the word of the integer that a key holds, which is its own number
abbrev pub key_integer_word : ℕ → ℕ
key_integer_word key = key * 16 + 15

-- so many keys, the last first
abbrev pub keys_to : ℕ → List KeyTerm
keys_to zero = []
keys_to (suc n) = record { key = record { 0 = n }; holding = Word (key_integer_word n) } ∷ keys_to n

-- a generation with these, over this term table and the first block of each other sort
abbrev pub keyed_over : ℕ → ℕ → Published
keyed_over table n = to_publish 0 0 table (record empty_generation { keys = keys_to n }) []

-- it is one of these
abbrev pub IsKeyed : Published → Type 0
IsKeyed p = (table : ℕ) × (n : ℕ) × (p ≡ keyed_over table n)

-- the writer has published so many keys, one in each generation after the first; no area is kept, and each word that is none
-- of a term table is 0
pub record HasKeys (n : ℕ) (w : WriterView) : Type 0 where
  pub published : (p : Published) → Among w.published p → IsKeyed p
  pub newest : newest_of w ≡ keyed_over (n % 4) n
  pub long : length w.published ≡ n + 1
  pub kept : w.kept ≡ []
  pub words : (place : ℕ) → IsElsewhere place → word_at w.words place ≡ 0

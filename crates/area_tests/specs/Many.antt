-- Generations of instances that have no words: they have the serials from 1 on, in the blocks from 9 on. One has seventeen, of
-- which the sixteenth is doomed.
use Rattle.std.specs.Prelude.{◌≡◌, ℕ, zero, suc, ◌+◌, List, [], ◌∷◌}
use Rattle.term_core.specs.declared.area.AreaRef.{AreaRef}
use Rattle.term_core.specs.declared.generation.AreaWords.{AreaWords}
use Rattle.area_core.specs.declared.table.Published.{Published}
use Rattle.area_core.specs.declared.table.KeptArea.{KeptArea}
use Rattle.area_core.specs.Map.{word_at, doom_place}
use Rattle.area_core.specs.Step.{empty_generation, opening_published, to_publish}
use Rattle.shared_words.specs.declared.view.WriterView.{WriterView}

-- so many serials from 1 on, the last first
abbrev pub many_serials : ℕ → List ℕ
many_serials zero = []
many_serials (suc n) = suc n ∷ many_serials n

-- the area behind so many
abbrev pub ref_one : ℕ → AreaRef
ref_one i = record { serial = suc i; block = 9 + i }

-- so many areas, the last first
abbrev pub many_refs : ℕ → List AreaRef
many_refs zero = []
many_refs (suc n) = ref_one n ∷ many_refs n

-- their images
abbrev pub images : ℕ → List AreaWords
images zero = []
images (suc n) = record { serial = suc n; words = [] } ∷ images n

-- as one of them is kept
abbrev pub kept_one : ℕ → KeptArea
kept_one i = record { area = ref_one i; words = [] }

-- as they are kept
abbrev pub kepts : ℕ → List KeptArea
kepts zero = []
kepts (suc n) = kept_one n ∷ kepts n

-- so many are current, and these are doomed; it is published over the first block of each sort
abbrev pub published_of : ℕ → List ℕ → Published
published_of n doomed = to_publish 0 0 0 (record empty_generation { current = many_serials n; doomed = doomed; areas = images n }) (many_refs n)

-- seventeen are current, and the sixteenth is doomed
abbrev pub many_published : Published
many_published = published_of 17 (16 ∷ [])

-- nothing but the empty generation was published, no area is kept, and each word behind the slots is 0, but the doom word of the
-- sixteenth instance's block
pub record IsPrepared (w : WriterView) : Type 0 where
  pub published : w.published ≡ opening_published ∷ []
  pub kept : w.kept ≡ []
  pub doom : word_at w.words (doom_place 24) ≡ 1
  pub others : (place : ℕ) → (place ≡ doom_place 24 → ⊥) → word_at w.words place ≡ 0

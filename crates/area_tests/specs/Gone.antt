-- The generation is published in which areas are retired.
use Rattle.std.specs.Prelude.{◌≡◌, ℕ, suc, ◌+◌, ◌<◌, ◌≤◌, length, Some}
use Rattle.shared_words.specs.declared.view.WriterView.{WriterView}
use Rattle.literal_areas.specs.declared.areas.Areas.{Areas}
use Rattle.literal_areas.specs.declared.blocks.BlockUse.TheVariants.{Retired}
use Rattle.literal_areas.specs.Blocks.{use_of}
use Rattle.literal_areas.specs.Owned.{AreOf}

-- generation 2 is published, and the areas behind so many are retired from it on, up to this number of them
pub record AreGone (done last : ℕ) (s : Areas) (w : WriterView) : Type 0 where
  pub owned : AreOf s w
  pub used : (i : ℕ) → done ≤ i → i < last → use_of s (9 + i) ≡ Some (Retired (suc i) 2)
  pub published : length w.published ≡ 3

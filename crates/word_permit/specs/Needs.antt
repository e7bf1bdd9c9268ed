-- What a permit waits for before it looks for an area in slots.
-- Source: Erlang/OTP erts internal documentation, ThreadProgress, on operations that are scheduled for later.
use Rattle.std.specs.Prelude.{◌≡◌, ℕ, slice_get, Some, IsTrue}
use Rattle.area_core.specs.declared.table.Published.{Published}
use Rattle.area_core.specs.Generations.{is_retired_area}
use Rattle.shared_words.specs.declared.view.WriterView.{WriterView}
use Rattle.progress_words.specs.Needs.{HasTaken}
use Rattle.word_permit.specs.declared.book.AreaNeed.{AreaNeed}

-- the value was taken while the newest generation had the area retired: once it is reached, no thread reads a generation that uses the area
pub record IsAwaited (w : WriterView) (n : AreaNeed) : Type 0 where
  pub generation : ℕ
  pub taken : HasTaken w generation n.value
  pub published : Published
  pub at : slice_get w.published generation ≡ Some published
  pub retired : IsTrue (is_retired_area published n.serial)

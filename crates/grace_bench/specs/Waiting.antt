-- What a writer knows that waits for grace periods.
use Rattle.std.specs.Prelude.{◌≡◌, ℕ, ◌≤◌}
use Rattle.prgr_core.specs.declared.member.Retirement.{Retirement}
use Rattle.area_core.specs.Blocks.{Among}
use Rattle.shared_words.specs.declared.view.WriterView.{WriterView}
use Rattle.progress_words.specs.Needs.{HasTaken}

-- the writer has loaded the counter some times: what it published stays, and what it took to wait for
pub record HasAsked (old new : WriterView) : Type 0 where
  pub published : new.published ≡ old.published
  pub words : new.words ≡ old.words
  pub kept : new.kept ≡ old.kept
  pub pairs : (pair : Retirement) → Among old.pairs pair → Among new.pairs pair

-- a value that the writer took while this generation was the newest is reached
pub record IsOver (w : WriterView) (generation : ℕ) : Type 0 where
  pub need : ℕ
  pub taken : HasTaken w generation need
  pub reached : need ≤ w.counter

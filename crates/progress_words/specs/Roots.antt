-- What the root word of the newest generation says.
use Rattle.std.specs.Prelude.{◌≡◌, ◌+◌, length}
use Rattle.area_core.specs.declared.table.Published.{Published}
use Rattle.area_core.specs.Blocks.{RootFits}
use Rattle.shared_words.specs.declared.view.WriterView.{WriterView}
use Rattle.shared_words.specs.Views.{newest_number, published_at}
use Rattle.progress_words.specs.declared.roots.RootParts.{RootParts}

-- the newest generation
abbrev pub newest_of : WriterView → Published
newest_of w = published_at w.published (newest_number w.published)

-- the numbers are those of the newest generation and of its blocks, which there are
pub record IsNewestRoot (w : WriterView) (parts : RootParts) : Type 0 where
  pub code : parts.code ≡ (newest_of w).root.code
  pub bp : parts.bp ≡ (newest_of w).root.bp
  pub term : parts.term ≡ (newest_of w).root.term
  pub fits : RootFits (newest_of w).root
  pub number : length w.published ≡ parts.generation + 1

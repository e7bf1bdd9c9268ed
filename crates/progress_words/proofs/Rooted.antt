-- What a load of the root tells the writer: its view is as before, and the word is that of the newest generation.
use Rattle.std.proofs.Common.{◌≡◌, ℕ, ◌+◌, ◌/◌, ◌%◌, ◌<◌, List, length, ap, subst, ◌∙◌, arith}
use Rattle.area_core.specs.declared.table.Published.{Published}
use Rattle.area_core.specs.Blocks.{RootFits}
use Rattle.atomic_table.specs.Seated.{TableId}
use Rattle.shared_words.specs.declared.opening.Opening.{Opening}
use Rattle.shared_words.specs.declared.seats.Writer as writers
use Rattle.shared_words.specs.declared.view.View.{View}
use Rattle.shared_words.specs.declared.view.View.TheVariants.{Writer}
use Rattle.shared_words.specs.Views.{newest_number, newest_root, published_at, seen_generations}
use Rattle.shared_words.specs.Seats.{writer_of}
use Rattle.shared_words.specs.Kinds.{RootLoaded, root_found}
use Rattle.progress_words.specs.Tokens.{written_by, IsWriterOf}
use Rattle.progress_words.specs.Roots.{newest_of, IsNewestRoot}

-- the writer has published something
pub some_published : (table : TableId) (opening : Opening) (writer : writers.Writer) → IsWriterOf table opening writer → 0 < length (written_by writer).published
some_published table opening writer token = let counted : length (written_by writer).published ≡ writer.generation + 1 = token.published in omega (arith, counted)

module _ (Served : Published → Type 0) (old new : View) (found : ℕ) (h : RootLoaded Served old new found) (is : old ≡ Writer (writer_of old)) where
  -- the view is as before
  pub view_same : new ≡ Writer (writer_of old)
  view_same = h.view ∙ ap (root_found (seen_generations new)) is

  seen_same : seen_generations new ≡ (writer_of old).published
  seen_same = ap seen_generations view_same

  -- the word is the newest root
  word_is : found ≡ newest_root (writer_of old).published
  word_is = h.root ∙ ap newest_root seen_same

  root_fits : RootFits (newest_of (writer_of old)).root
  root_fits = subst (λ (ps : List Published). RootFits (published_at ps (newest_number ps)).root) seen_same h.fits

  -- the numbers in it are those of the newest generation
  pub parts_told : 0 < length (writer_of old).published → IsNewestRoot (writer_of old) (record { code = found % 4; bp = found / 4 % 2; term = found / 8 % 4; generation = found / 32 })
  parts_told some =
      let word = word_is in
      let code = root_fits.code in
      let bp = root_fits.bp in
      let term = root_fits.term in record {
        code = omega (arith, word, code, bp, term);
        bp = omega (arith, word, code, bp, term);
        term = omega (arith, word, code, bp, term);
        fits = root_fits;
        number = omega (arith, word, code, bp, term, some);
      }

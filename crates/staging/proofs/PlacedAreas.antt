-- An area is taken and written: what that leaves of the writer's tables.
use Rattle.std.proofs.Common.{◌≢◌, ℕ, ◌≤◌, List, length, sym, ap, subst, ◌∙◌}
use Rattle.std.proofs.lemmas.Option.{none-some}
use Rattle.atomic_table.specs.Seated.{TableId}
use Rattle.term_core.specs.declared.area.AreaRef.{AreaRef}
use Rattle.area_core.specs.declared.table.KeptArea.{KeptArea}
use Rattle.area_core.specs.Blocks.{Among}
use Rattle.shared_words.proofs.ShownMembers.{within_get}
use Rattle.shared_words.specs.declared.opening.Opening.{Opening}
use Rattle.progress_words.specs.Tokens.{IsWriterOf, written_by}
use Rattle.literal_areas.specs.declared.blocks.Pool.{Pool}
use Rattle.literal_areas.specs.declared.blocks.BlockUse.TheVariants.{Free}
use Rattle.literal_areas.specs.Blocks.{HasTaken, serial_at}
use Rattle.literal_areas.specs.Owned.{AreOf, IsUnpublished}
use Rattle.literal_areas.specs.Written.{HasWritten, KeepsOtherBlocks}
use Rattle.literal_areas.proofs.Serials.{serial_here}
use Rattle.code_index.specs.Laws as indices
use Rattle.code_index.specs.Staging.{IsIndexOf}
use Rattle.term_table.specs.Laws as terms
use Rattle.term_table.specs.Tables.{IsTableOf}
use Rattle.staging.specs.declared.tables.Tables.{Tables}
use Rattle.staging.specs.Placed.{HasPlaced}
use Rattle.staging.specs.Whose.{AreTablesOf, KeepsStaged}
use Rattle.staging.proofs.Elsewhere.{block_high, index_elsewhere, terms_elsewhere}
use Rattle.staging.proofs.Patched.{patch_beside, patch_fits, write_beside}

module _ (table : TableId) (opening : Opening) (pool : Pool) (words : List ℕ) (area : AreaRef) (old new : Tables) (by_index : indices.KeptByWrites) (by_terms : terms.KeptByWrites) (was : AreTablesOf table opening old) (took : HasTaken pool area old.pools new.pools)
    (token : IsWriterOf table opening new.writer) (written : HasWritten area.block (length words) words (written_by old.writer) (written_by new.writer)) (others : KeepsOtherBlocks area.block (written_by old.writer) (written_by new.writer))
    (owned : AreOf new.pools (written_by new.writer)) (unpublished : IsUnpublished (written_by new.writer) area) (kept : KeepsStaged old new) where
  high : 9 ≤ area.block
  high = block_high pool old.pools area.block took.block

  -- no area is kept in the block, which was free
  unkept : (k : KeptArea) → Among (written_by old.writer).kept k → k.area.block ≢ area.block
  unkept k among same = none-some k.area.serial (sym (ap (serial_at old.pools) same ∙ serial_here old.pools area.block Free took.block.free) ∙ was.pools.kept k among)

  -- the tables are still the writer's
  pub tables_placed : AreTablesOf table opening new
  tables_placed = record {
    token = token;
    index = subst (λ x. IsIndexOf x (written_by new.writer)) (sym kept.index)
        ((by_index old.index (written_by old.writer) (written_by new.writer) (index_elsewhere area.block (written_by old.writer) (written_by new.writer) high was.pools.all owned.all written.same others) was.index).owned was.index);
    terms = subst (λ t. IsTableOf t (written_by new.writer)) (sym kept.terms)
        ((by_terms old.terms (written_by old.writer) (written_by new.writer) (terms_elsewhere area.block (written_by old.writer) (written_by new.writer) high was.pools.all owned.all written.same others) was.terms).owned was.terms);
    pools = owned;
    patch = patch_beside old.patch new.patch (written_by old.writer) (written_by new.writer) kept.patch
        (write_beside area.block (written_by old.writer) (written_by new.writer) high (owned.all ∙ sym was.pools.all) (patch_fits old.patch (written_by old.writer) was.patch) unkept others written.same) was.patch;
  }

  -- and the area has its words
  pub area_placed : HasPlaced pool words area old new
  area_placed = record {
    taken = took;
    unpublished = unpublished;
    written = λ at value there. written.image at value (within_get words at value there) there;
    others = others;
    stored = written;
    staged = kept;
  }

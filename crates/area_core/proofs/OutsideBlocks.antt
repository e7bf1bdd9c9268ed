-- A store of a word outside of the blocks keeps the block invariant where the clauses on such words hold of it.
use Rattle.std.proofs.Common.{◌≡◌, ℕ, length-set, Some, ◌⊎◌, ◌∙◌}
use Rattle.std.specs.Prelude.{slice_get, slice_set}
use Rattle.area_core.specs.declared.map.WordKind.{WordKind}
use Rattle.area_core.specs.declared.map.WordKind.TheVariants.{Retire, Doom, InBlock}
use Rattle.area_core.specs.declared.table.Published.{Published}
use Rattle.area_core.specs.declared.table.KeptArea.{KeptArea}
use Rattle.area_core.specs.declared.table.Table.{Table}
use Rattle.area_core.specs.Map.{word_at, kind_at, image_entry_at}
use Rattle.area_core.specs.Blocks.{Among, RetireTells, DoomTells, NamedAreKept, AnchorsApart}
use Rattle.area_core.specs.Stores.{with_word}
use Rattle.area_core.specs.Step.{IsReadable, IsSound, blocks_of}
use Rattle.area_core.proofs.Frames.{code_after, breakpoints_after, terms_after, entries_after, retired_after, doomed_after, images_after}
use Rattle.area_core.proofs.BlockStores.{stored_off}

module _ (s : Table) (sound : IsSound s) (place value : ℕ) (kind : WordKind) (is : kind_at place ≡ kind) (outside : (block at : ℕ) → kind ≡ InBlock block at → ⊥) where
  off : (x : ℕ) → (kind_at x ≡ kind) ⊎ (word_at (slice_set s.words place value) x ≡ word_at s.words x)
  off = stored_off s.words place value kind is

  pub outside_kept :
      ((g : ℕ) (p : Published) → IsReadable s g → slice_get s.published g ≡ Some p → (k : KeptArea) → Among s.kept k → kind ≡ Retire k.area.block → RetireTells (word_at (slice_set s.words place value)) k g p)
      → ((g : ℕ) (p : Published) → IsReadable s g → slice_get s.published g ≡ Some p → (k : KeptArea) → Among s.kept k → kind ≡ Doom k.area.block → DoomTells (word_at (slice_set s.words place value)) k g p)
      → NamedAreKept (word_at (slice_set s.words place value)) s.kept
      → AnchorsApart (word_at (slice_set s.words place value))
      → IsSound (with_word s place value)
  outside_kept retired doomed named apart = record {
    progress = sound.progress;
    blocks = record {
      roots_fit = sound.blocks.roots_fit;
      instances_placed = sound.blocks.instances_placed;
      code_stands = code_after (blocks_of s) (IsReadable s) (word_at (slice_set s.words place value)) kind off sound.blocks (λ g p counts here root entry within same. outside p.root.code entry same);
      breakpoints_stand = breakpoints_after (blocks_of s) (IsReadable s) (word_at (slice_set s.words place value)) kind off sound.blocks (λ g p counts here root a among instance fits function few same. outside _ _ same);
      terms_stand = terms_after (blocks_of s) (IsReadable s) (word_at (slice_set s.words place value)) kind off sound.blocks (λ g p counts here root at within same. outside _ at same);
      used_kept = sound.blocks.used_kept;
      areas_stand = λ g p counts here k among. record {
        entries = entries_after (blocks_of s) (IsReadable s) (word_at (slice_set s.words place value)) kind off sound.blocks g p counts here k among (λ function has same none. absurd (outside k.area.block (image_entry_at function) same));
        retired = retired_after (blocks_of s) (IsReadable s) (word_at (slice_set s.words place value)) kind off sound.blocks g p counts here k among (retired g p counts here k among);
        doomed = doomed_after (blocks_of s) (IsReadable s) (word_at (slice_set s.words place value)) kind off sound.blocks g p counts here k among (doomed g p counts here k among);
      };
      images_stand = λ k among. images_after (blocks_of s) (IsReadable s) (word_at (slice_set s.words place value)) kind off sound.blocks k among (λ at old has plain same. absurd (outside k.area.block at same));
      kept_fit = sound.blocks.kept_fit;
      kept_apart = sound.blocks.kept_apart;
      named_kept = named;
      anchors_apart = apart;
    };
    words = length-set s.words place value ∙ sound.words;
    published = sound.published;
  }

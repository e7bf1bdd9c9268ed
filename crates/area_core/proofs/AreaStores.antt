-- A store of a retire or doom word keeps the block invariant, and so does the release of an area.
use Rattle.std.proofs.Common.{◌≡◌, ℕ, ◌<◌, false, ◌||◌, Some, ◌⊎◌, inl, inr, sym, ap, ◌∙◌, subst, arith}
use Rattle.std.specs.Prelude.{slice_get, slice_set, IsTrue}
use Rattle.std.proofs.lemmas.Bool.{or_cases, true≢false}
use Rattle.std.proofs.lemmas.Bool.Decides.{nat_tests}
use Rattle.area_core.specs.declared.map.TheConstants.{TABLE_WORDS}
use Rattle.area_core.specs.declared.map.WordKind.TheVariants.{Retire, Doom}
use Rattle.area_core.specs.declared.table.Published.{Published}
use Rattle.area_core.specs.declared.table.KeptArea.{KeptArea}
use Rattle.area_core.specs.declared.table.Table.{Table}
use Rattle.area_core.specs.Map.{word_at, kind_at, retire_place, doom_place}
use Rattle.area_core.specs.Generations.{is_retired_area, is_doomed_area, tells, are_alike}
use Rattle.area_core.specs.Blocks.{Among}
use Rattle.area_core.specs.Readers.{readable_generations}
use Rattle.area_core.specs.Stores.{with_word, holds_in_block, may_be_doom}
use Rattle.area_core.specs.Step.{IsReadable, IsSound, blocks_of}
use Rattle.area_core.proofs.Places.{kind_retire_place, kind_doom_place, word_here}
use Rattle.area_core.proofs.Held.{readable_held}
use Rattle.area_core.proofs.Tests.{generation_passes, agrees_same}
use Rattle.area_core.proofs.Frames.{named_after, apart_after}
use Rattle.area_core.proofs.OutsideBlocks.{outside_kept}
use Rattle.area_core.proofs.BlockStores.{stored_off, in_block_passes}

-- ---- a retire or doom word

-- a retire or doom word is one of the table
pub area_word_within : (word block : ℕ) → (kind_at word ≡ Retire block) ⊎ (kind_at word ≡ Doom block) → word < TABLE_WORDS
area_word_within word block is =
    elim is as (λ _. word < TABLE_WORDS) [ inl retire ↦ retire_within word block retire | inr doom ↦ doom_within word block doom ]
  where
    retire_within : (word block : ℕ) → kind_at word ≡ Retire block → word < 83413
    retire_within word block is = grind (arith, nat_tests)

    doom_within : (word block : ℕ) → kind_at word ≡ Doom block → word < 83413
    doom_within word block is = grind (arith, nat_tests)

-- what is stored at a place stands there
pub stored_at : (s : Table) → IsSound s → (word value place : ℕ) → word < TABLE_WORDS → word ≡ place → word_at (slice_set s.words word value) place ≡ value
stored_at s sound word value place within same =
    ap (word_at (slice_set s.words word value)) (sym same) ∙ word_here s.words word value (subst (λ n. word < n) (sym sound.words) within)

-- a retire word is stored that tells what each generation says of the area in its block
pub retire_word_kept :
    (s : Table) → IsSound s → (word value block : ℕ) → kind_at word ≡ Retire block
    → ((g : ℕ) (p : Published) → IsReadable s g → slice_get s.published g ≡ Some p → (k : KeptArea) → Among s.kept k → k.area.block ≡ block → tells value g ≡ is_retired_area p k.area.serial)
    → IsSound (with_word s word value)
retire_word_kept s sound word value block is tell =
    outside_kept s sound word value (Retire block) is (λ other at same. absurd (cc))
    (λ g p counts here k among same. ap (λ (x : ℕ). tells x g) (stored k.area.block same) ∙ tell g p counts here k among (block_same block k.area.block same))
    (λ g p counts here k among same. absurd (cc))
    (named_after (blocks_of s) (IsReadable s) (word_at (slice_set s.words word value)) (Retire block) off sound.blocks (λ same. absurd (cc)))
    (apart_after (blocks_of s) (IsReadable s) (word_at (slice_set s.words word value)) (Retire block) off sound.blocks (λ same. absurd (cc)))
  where
    off : (x : ℕ) → (kind_at x ≡ Retire block) ⊎ (word_at (slice_set s.words word value) x ≡ word_at s.words x)
    off = stored_off s.words word value (Retire block) is

    stored : (other : ℕ) → Retire block ≡ Retire other → word_at (slice_set s.words word value) (retire_place other) ≡ value
    stored other same = stored_at s sound word value (retire_place other) (area_word_within word block (inl is)) (kind_retire_place word other (is ∙ same)).0

    block_same : (block other : ℕ) → Retire block ≡ Retire other → other ≡ block
    block_same block other same = cc

-- a doom word is stored that tells what each generation says of the instance in its block
pub doom_word_kept :
    (s : Table) → IsSound s → (word value block : ℕ) → kind_at word ≡ Doom block
    → ((g : ℕ) (p : Published) → IsReadable s g → slice_get s.published g ≡ Some p → (k : KeptArea) → Among s.kept k → k.area.block ≡ block → is_retired_area p k.area.serial ≡ false → tells value g ≡ is_doomed_area p k.area.serial)
    → IsSound (with_word s word value)
doom_word_kept s sound word value block is tell =
    outside_kept s sound word value (Doom block) is (λ other at same. absurd (cc))
    (λ g p counts here k among same. absurd (cc))
    (λ g p counts here k among same big unretired. ap (λ (x : ℕ). tells x g) (stored k.area.block same) ∙ tell g p counts here k among (block_same block k.area.block same) unretired)
    (named_after (blocks_of s) (IsReadable s) (word_at (slice_set s.words word value)) (Doom block) off sound.blocks (λ same. absurd (cc)))
    (apart_after (blocks_of s) (IsReadable s) (word_at (slice_set s.words word value)) (Doom block) off sound.blocks (λ same. absurd (cc)))
  where
    off : (x : ℕ) → (kind_at x ≡ Doom block) ⊎ (word_at (slice_set s.words word value) x ≡ word_at s.words x)
    off = stored_off s.words word value (Doom block) is

    stored : (other : ℕ) → Doom block ≡ Doom other → word_at (slice_set s.words word value) (doom_place other) ≡ value
    stored other same = stored_at s sound word value (doom_place other) (area_word_within word block (inr is)) (kind_doom_place word other (is ∙ same)).0

    block_same : (block other : ℕ) → Doom block ≡ Doom other → other ≡ block
    block_same block other same = cc

-- a doom word is stored where the test lets it through
pub doom_stored : (s : Table) → IsSound s → (word value block : ℕ) → kind_at word ≡ Doom block → IsTrue (holds_in_block s.kept block (may_be_doom s (readable_generations s.progress) value)) → IsSound (with_word s word value)
doom_stored s sound word value block is may = doom_word_kept s sound word value block is
    (λ g p counts here k among same unretired.
    let passes = in_block_passes s.kept block (may_be_doom s (readable_generations s.progress) value) k may among same in
    let says = generation_passes s.published (readable_generations s.progress) (λ g p. is_retired_area p k.area.serial || are_alike (tells value g) (is_doomed_area p k.area.serial)) g p passes (readable_held s.progress sound.progress g counts) here in
    elim (or_cases (is_retired_area p k.area.serial) (are_alike (tells value g) (is_doomed_area p k.area.serial)) says) as (λ _. tells value g ≡ is_doomed_area p k.area.serial) [
      | inl retired ↦ absurd (true≢false (sym retired ∙ unretired))
      | inr agree ↦ agrees_same (tells value g) (is_doomed_area p k.area.serial) agree
    ])

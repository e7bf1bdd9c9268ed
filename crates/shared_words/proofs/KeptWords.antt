-- The words of blocks that members found: which steps of the writer leave them, and that they stand in one table.
use Rattle.std.proofs.Common.{◌≡◌, ℕ, ◌<◌, true, false, not, ◌&&◌, inl, inr, List, [], ◌∷◌, sym, ap, subst, ◌∙◌, arith}
use Rattle.std.specs.Prelude.{◌==◌, Some, slice_get, IsTrue}
use Rattle.std.proofs.lemmas.Bool.{and_parts, and_from, cases_Bool, eq-eqb, eqb-true, true≢false}
use Rattle.area_core.specs.declared.map.TheConstants.{AREAS_START}
use Rattle.area_core.specs.declared.map.WordKind.{WordKind}
use Rattle.area_core.specs.declared.map.WordKind.TheVariants.{Retire, InBlock}
use Rattle.area_core.specs.declared.table.KeptArea.{KeptArea}
use Rattle.area_core.specs.declared.table.Published.{Published}
use Rattle.area_core.specs.Generations.{is_entry_word}
use Rattle.area_core.specs.Map.{kind_at, word_at}
use Rattle.area_core.specs.Readers.{reads_in_block, reads_word}
use Rattle.area_core.specs.Blocks.{Blocks, BlockInvariant, Among}
use Rattle.area_core.specs.Roots.{fresh_areas}
use Rattle.area_core.proofs.Places.{word_there}
use Rattle.area_core.proofs.Tests.{filter_keeps, passed_by}
use Rattle.area_core.proofs.BlockStores.{same_block}
use Rattle.shared_words.specs.declared.view.BlockWord.{BlockWord}
use Rattle.shared_words.specs.declared.view.WriterView.{WriterView}
use Rattle.shared_words.specs.Rule.{MayBeRead, AreAreasApart, IsPlain, WordKept}
use Rattle.shared_words.specs.Publishing.{FitsInBlock, FitsWord, MayStoreWord, IsSteady, is_released, kept_left, with_word, with_next}
use Rattle.shared_words.proofs.ShownMembers.{still_at}
use Rattle.shared_words.proofs.AreaReleases.{unless}
use Rattle.shared_words.proofs.BlockReads.{used_there}

-- ---- steps of the writer

-- while what was published, the words and the areas stay, and no more may be read
pub kept_as : (w w' : WriterView) → w'.published ≡ w.published → w'.words ≡ w.words → w'.kept ≡ w.kept → ((g : ℕ) → MayBeRead w' g → MayBeRead w g) → (f : BlockWord) → WordKept w f → WordKept w' f
kept_as w w' published words kept fewer f h = record {
  published = h.published;
  at = ap (λ (ps : List Published). slice_get ps f.generation) published ∙ h.at;
  stands = λ reads may block at is plain. ap (λ (ws : List ℕ). word_at ws f.word) words ∙ h.stands reads (fewer f.generation may) block at is (subst (λ (ks : List KeptArea). IsPlain ks block at) kept plain);
}

-- once more is published
pub kept_with : (w : WriterView) (p : Published) (f : BlockWord) → WordKept w f → WordKept (with_next p w) f
kept_with w p f h = record {
  published = h.published;
  at = still_at w.published (p ∷ []) f.generation h.published h.at;
  stands = λ reads may block at is plain. h.stands reads may block at is (λ k among same. plain k (among.0, still_at w.kept (fresh_areas w.kept p) among.0 k among.1) same);
}

-- an area that is released is none whose words a generation which may be read reads
plain_left : (w : WriterView) (words : ℕ → ℕ) (value : ℕ) (kind : WordKind) → FitsWord w value kind → BlockInvariant (record { word = words; published = w.published; kept = w.kept }) (MayBeRead w) → (g : ℕ) (p : Published) → MayBeRead w g → slice_get w.published g ≡ Some p → AreAreasApart p
    → (block at : ℕ) → reads_in_block p block at ≡ true → IsPlain (kept_left w value kind) block at → IsPlain w.kept block at
plain_left w words value (Retire other) fits sound g p may here once block at reads plain = λ k among same.
    elim (cases_Bool (is_entry_word k at)) as (λ _. is_entry_word k at ≡ false) [
      | inr other_word ↦ other_word
      | inl entry ↦
          let uses = used_there w.kept p once (sound.used_kept g p may here) sound.kept_apart k among (sound.kept_fit k among).first block at same reads in
          let stays = unless (k.area.block == other) (is_released w value k) (λ retired goes. true≢false (sym uses ∙ fits.unused g p may here k among (eqb-true k.area.block other retired) goes)) in
          let left = passed_by (λ (x : KeptArea). (x.area.block == block) && is_entry_word x at) (kept_left w value (Retire other))
          (filter_keeps (λ (x : KeptArea). not ((x.area.block == other) && is_released w value x)) (λ (x : KeptArea). (x.area.block == block) && is_entry_word x at) w.kept among.0 k among.1 stays (and_from (k.area.block == block) (is_entry_word k at) (eq-eqb k.area.block block same) entry)) in
          let parts = and_parts (left.0.area.block == block) (is_entry_word left.0 at) left.3 in
          absurd (true≢false (sym parts.1 ∙ plain left.0 (left.1, left.2) (eqb-true left.0.area.block block parts.0)))
    ]
plain_left w words value kind fits sound g p may here once block at reads plain = plain

-- the store of an entry word of a kept area leaves what is no such word
pub kept_patched : (w : WriterView) (word value block at : ℕ) → kind_at word ≡ InBlock block at → (k : KeptArea) → Among w.kept k → k.area.block ≡ block → is_entry_word k at ≡ true → (f : BlockWord) → WordKept w f → WordKept (with_word word value w) f
kept_patched w word value block at is k among same entry f h = record {
  published = h.published;
  at = h.at;
  stands = λ reads may other place there plain.
      let left : IsPlain w.kept other place = subst (λ (kind : WordKind). IsPlain (kept_left w value kind) other place) is plain in
      word_there w.words word value f.word (λ one. apart other place (sym is ∙ ap kind_at (sym one) ∙ there) left) ∙ h.stands reads may other place there left;
}
  where
    apart : (other place : ℕ) → InBlock block at ≡ InBlock other place → IsPlain w.kept other place → ⊥
    apart other place one plain =
        let parts = same_block block at other place one in
        true≢false (sym entry ∙ ap (is_entry_word k) parts.1 ∙ plain k among (same ∙ parts.0))

-- no other store is into a word of a block that a generation which may be read reads
pub kept_stored : (w : WriterView) (word value : ℕ) → MayStoreWord w word value → (words : ℕ → ℕ) → BlockInvariant (record { word = words; published = w.published; kept = w.kept }) (MayBeRead w) → ((p : Published) → Among w.published p → AreAreasApart p) → (f : BlockWord) → WordKept w f → WordKept (with_word word value w) f
kept_stored w word value fits words sound once f h = record {
  published = h.published;
  at = h.at;
  stands = λ reads may block at is plain.
      word_there w.words word value f.word (λ same. read reads may block at is same)
      ∙ h.stands reads may block at is (plain_left w words value (kind_at word) fits sound f.generation h.published may h.at (once h.published (f.generation, h.at)) block at (sym (ap (λ (kind : WordKind). reads_word kind h.published) is) ∙ reads) plain);
}
  where
    read : IsTrue (reads_word (kind_at f.word) h.published) → MayBeRead w f.generation → (block at : ℕ) → kind_at f.word ≡ InBlock block at → f.word ≡ word → ⊥
    read reads may block at is same =
        let here : kind_at word ≡ InBlock block at = ap kind_at (sym same) ∙ is in
        let owes : FitsInBlock w block at value = subst (FitsWord w value) here fits in
        true≢false (sym reads ∙ ap (λ (kind : WordKind). reads_word kind h.published) is ∙ owes.unread f.generation h.published may h.at)

-- ---- words in front of the areas

-- a word of the tables that roots name is one that no store changes while a generation reads it
pub steady_in_front : (b : Blocks) (Counts : ℕ → Type 0) → BlockInvariant b Counts → (word block at : ℕ) → kind_at word ≡ InBlock block at → block < AREAS_START → IsSteady b word
steady_in_front b Counts sound word block at is front = record {
  block = block;
  at = at;
  is = is;
  plain = λ k among same. absurd (let high = (sound.kept_fit k among).first in omega (arith, high, same, front));
}

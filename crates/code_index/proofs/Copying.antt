-- The copy of the active index, word by word.
use Rattle.std.proofs.Common.{◌≡◌, ℕ, ◌+◌, ◌<◌, inl, inr, true, false, length, refl, sym, ap, subst, ◌∙◌, arith}
use Rattle.std.specs.Prelude.{Some, slice_get, slice_set}
use Rattle.std.proofs.lemmas.Bool.{cases_eq, lt-ltb, eq-eqb, ne_eqb}
use Rattle.atomic_table.specs.Seated.{TableId}
use Rattle.area_core.specs.declared.map.WordKind.TheVariants.{InBlock}
use Rattle.area_core.specs.declared.table.Published.{Published}
use Rattle.area_core.specs.Map.{word_at, kind_at, block_place}
use Rattle.area_core.specs.Generations.{is_code_word}
use Rattle.area_core.specs.Readers.{reads_in_block, is_read_under}
use Rattle.area_core.specs.Step.{opening_published}
use Rattle.area_core.proofs.Places.{word_here, word_there}
use Rattle.shared_words.specs.declared.opening.Opening.{Opening}
use Rattle.shared_words.specs.declared.seats.Writer as writers
use Rattle.shared_words.specs.declared.view.View.TheVariants.{Writer}
use Rattle.shared_words.specs.declared.view.WriterView.{WriterView}
use Rattle.shared_words.specs.Views.{newest_number}
use Rattle.shared_words.specs.Publishing.{FitsInBlock, FitsWord, MayStoreWord, MayLoadWord, WordTells, with_word, kept_left}
use Rattle.shared_words.proofs.ShownMembers.{there_is}
use Rattle.progress_words.specs.Tokens.{written_by, IsWriterOf, IsSameWriter}
use Rattle.progress_words.specs.Roots.{newest_of}
use Rattle.code_index.specs.declared.index.Staging.{Staging}
use Rattle.code_index.specs.declared.index.Staging.TheVariants.{Nothing}
use Rattle.code_index.specs.Staging.{active_index, staging_index, block_of, IsStaged, GoesWith, IsIndexOf}
use Rattle.code_index.specs.Copied.{HasCopiedWord, HasCopied}
use Rattle.code_index.proofs.Indices.{behind_fits, behind_differs, index_kind, index_within, index_apart}
use Rattle.code_index.proofs.Owned.{owned_stored}

-- ---- who reads and who stores

reads_code : (p : Published) (block at : ℕ) → block ≡ p.root.code → block < 3 → reads_in_block p block at ≡ true
reads_code p block at same low = rw (lt-ltb block 3 low) (eq-eqb block p.root.code same)

reads_none : (p : Published) (block at : ℕ) → (block ≡ p.root.code → ⊥) → block < 3 → reads_in_block p block at ≡ false
reads_none p block at differ low = rw (lt-ltb block 3 low) (ne_eqb block p.root.code differ)

-- the newest generation stands at its number
pub newest_there : (w : WriterView) → 0 < length w.published → slice_get w.published (newest_number w.published) ≡ Some (newest_of w)
newest_there w some = there_is w.published (newest_number w.published) opening_published (omega (arith, some))

-- the writer may load a word of the active index
pub may_load : (w : WriterView) (entry : ℕ) → 0 < length w.published → active_index w < 3 → entry < 1024 → MayLoadWord (block_place (active_index w) entry) (Writer w)
may_load w entry some fits few =
    let read : is_read_under (InBlock (active_index w) entry) (Some (newest_of w)) ≡ true = reads_code (newest_of w) (active_index w) entry refl fits in
    (λ i. is_read_under (index_kind (active_index w) entry fits few i) (newest_there w some i)) ∙ read

-- what it finds leads the name to what the newest generation exports
pub load_leads : (w : WriterView) (entry found : ℕ) → 0 < length w.published → entry < 1024 → WordTells (Writer w) (block_place (active_index w) entry) found → is_code_word (newest_of w) (slice_get (newest_of w).state.exports entry) found ≡ true
load_leads w entry found some few tells =
    let told = tells (newest_number w.published) (newest_of w) refl (newest_there w some) in
    ap (is_code_word (newest_of w) (slice_get (newest_of w).state.exports entry)) (sym told.here) ∙ told.stands.code_stands (newest_number w.published) (newest_of w) refl told.published entry few

-- a word of the staging index may be stored
pub may_stage : (x : Staging) (w : WriterView) (entry value : ℕ) → entry < 1024 → IsIndexOf x w → MayStoreWord w (block_place (staging_index w) entry) value
may_stage x w entry value few own = subst (FitsWord w value) (sym (index_kind (staging_index w) entry (behind_fits (active_index w)) few)) fits
  where
    low : staging_index w < 3
    low = behind_fits (active_index w)

    fits : FitsInBlock w (staging_index w) entry value
    fits = record {
      unread = λ g p may at. reads_none p (staging_index w) entry (λ same. own.free g p may at (sym same)) low;
      unkept = λ k among same. absurd (let high = own.areas k among in let under = low in omega (arith, high, same, under));
      entries = λ k function among same has here none. absurd (let high = own.areas k among in let under = low in omega (arith, high, same, under));
    }

-- and leaves the indices those of the writer
pub owned_staged : (x : Staging) (w : WriterView) (entry value : ℕ) → entry < 1024 → IsIndexOf x w → IsIndexOf x (with_word (block_place (staging_index w) entry) value w)
owned_staged x w entry value few own =
    owned_stored x w (block_place (staging_index w) entry) value
    (λ other fewer same. behind_differs (active_index w) (sym (index_apart (active_index w) other (staging_index w) entry own.fits fewer (behind_fits (active_index w)) few same).0)) own

-- ---- one word after another

module _ (block count : ℕ) (old now next : WriterView) (h : HasCopied block count old now) (one : HasCopiedWord block count now next) (all : length now.words ≡ 83413) (fits : block < 3) (few : count < 1024) where
  abbrev place : ℕ
  place = block_place block count

  in_table : place < length now.words
  in_table = let within = index_within block count fits few in omega (arith, within, all)

  -- the newest generation is the same
  newest_same : newest_of now ≡ newest_of old
  newest_same = ap newest_of h.same

  words_next : next.words ≡ slice_set now.words place one.value
  words_next = ap (λ (w : WriterView). w.words) one.view

  leads : (entry : ℕ) → entry < count + 1 → is_code_word (newest_of old) (slice_get (newest_of old).state.exports entry) (word_at next.words (block_place block entry)) ≡ true
  leads entry less =
      elim (cases_eq entry count) as (λ _. is_code_word (newest_of old) (slice_get (newest_of old).state.exports entry) (word_at next.words (block_place block entry)) ≡ true) [
        | inl same ↦ (
            let stored : word_at next.words (block_place block entry) ≡ one.value = ap (λ (n : ℕ). word_at next.words (block_place block n)) same ∙ ap (λ ws. word_at ws place) words_next ∙ word_here now.words place one.value in_table in
            (λ i. is_code_word (sym newest_same i) (slice_get (sym newest_same i).state.exports (same i)) (stored i)) ∙ one.leads)
        | inr differ ↦ (
            let low : entry < count = omega (arith, less, differ) in
            let few_too : entry < 1024 = omega (arith, low, few) in
            ap (is_code_word (newest_of old) (slice_get (newest_of old).state.exports entry)) (ap (λ ws. word_at ws (block_place block entry)) words_next ∙ word_there now.words place one.value (block_place block entry) (λ same. differ (index_apart block entry block count fits few_too fits few same).1))
            ∙ h.leads entry low)
      ]

  -- one more is copied
  pub one_copied : HasCopied block (count + 1) old next
  one_copied = record {
    leads = leads;
    others = λ x off. ap (λ ws. word_at ws x) words_next ∙ word_there now.words place one.value x (off count (omega (arith))) ∙ h.others x (λ entry low. off entry (omega (arith, low)));
    same = one.view ∙ (λ i. record (h.same i) { words = slice_set now.words place one.value; kept = kept_same i }) ∙ (λ i. record old { words = sym words_next i });
  }
    where
      kept_same : kept_left now one.value (kind_at place) ≡ old.kept
      kept_same = ap (kept_left now one.value) (index_kind block count fits few) ∙ ap (λ (w : WriterView). w.kept) h.same

-- what the writer and its index are once so many words are copied
pub record CopiesOn (table : TableId) (opening : Opening) (block count : ℕ) (old now : writers.Writer) : Type 0 where
  pub token : IsWriterOf table opening now
  pub same : IsSameWriter old now
  pub copied : HasCopied block count (written_by old) (written_by now)
  pub owned : IsIndexOf Nothing (written_by now)

pub copies_more : (table : TableId) (opening : Opening) (block count : ℕ) (old now next : writers.Writer) → CopiesOn table opening block count old now → block ≡ staging_index (written_by now) → count < 1024 → IsWriterOf table opening next → IsSameWriter now next → HasCopiedWord block count (written_by now) (written_by next) → CopiesOn table opening block (count + 1) old next
copies_more table opening block count old now next h staging few token same one = record {
  token = token;
  same = record {
    seat = record {
      same_table = same.seat.same_table ∙ h.same.seat.same_table;
      same_number = same.seat.same_number ∙ h.same.seat.same_number;
      same_slots = same.seat.same_slots ∙ h.same.seat.same_slots;
    };
    generation = same.generation ∙ h.same.generation;
  };
  copied = one_copied block count (written_by old) (written_by now) (written_by next) h.copied one h.owned.all fits few;
  owned = subst (IsIndexOf Nothing) (sym (one.view ∙ ap (λ (b : ℕ). with_word (block_place b count) one.value (written_by now)) staging)) (owned_staged Nothing (written_by now) count one.value few h.owned);
}
  where
    fits : block < 3
    fits = let low = behind_fits (active_index (written_by now)) in omega (arith, low, staging)

-- ---- what is staged then

-- the block of what is staged is that of the staging index
pub staged_block : (x : Staging) (w : WriterView) → IsStaged x → GoesWith x w → block_of x ≡ staging_index w
staged_block x w staged goes = ap block_of staged.1 ∙ subst (λ (y : Staging). GoesWith y w) staged.1 goes

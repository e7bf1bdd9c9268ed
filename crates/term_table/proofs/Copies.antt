-- The words of a whole table, word by word: how they are loaded, and how they are stored where no thread reads them.
use Rattle.std.proofs.Common.{◌≡◌, ℕ, ◌+◌, ◌<◌, inl, inr, true, length, length-set, sym, ap, subst, ◌∙◌, arith}
use Rattle.std.specs.Prelude.{Some, slice_get, slice_set}
use Rattle.std.proofs.lemmas.Bool.{cases_eq}
use Rattle.atomic_table.specs.Seated.{TableId}
use Rattle.area_core.specs.declared.map.WordKind.TheVariants.{InBlock}
use Rattle.area_core.specs.Map.{word_at, kind_at, term_place}
use Rattle.area_core.specs.Readers.{is_read_under}
use Rattle.area_core.specs.Step.{opening_published}
use Rattle.area_core.proofs.Places.{word_here, word_there}
use Rattle.shared_words.specs.declared.opening.Opening.{Opening}
use Rattle.shared_words.specs.declared.seats.Writer as writers
use Rattle.shared_words.specs.declared.view.View.TheVariants.{Writer}
use Rattle.shared_words.specs.declared.view.WriterView.{WriterView}
use Rattle.shared_words.specs.Views.{newest_number}
use Rattle.shared_words.specs.Publishing.{FitsInBlock, FitsWord, MayStoreWord, MayLoadWord, with_word, kept_left}
use Rattle.shared_words.proofs.ShownMembers.{there_is}
use Rattle.progress_words.specs.Tokens.{written_by, IsWriterOf, IsSameWriter}
use Rattle.term_table.specs.declared.buckets.Buckets.{Buckets}
use Rattle.term_table.specs.Built.{words_of}
use Rattle.progress_words.specs.Roots.{newest_of}
use Rattle.term_table.specs.Tables.{active_table, words_in}
use Rattle.term_table.specs.Staged.{HasLoaded, IsFreeTable, HasStored}
use Rattle.term_table.proofs.TablePlaces.{table_kind, table_within, table_apart, reads_own, reads_other}

-- the same writer over two calls
same_on : (old now next : writers.Writer) → IsSameWriter old now → IsSameWriter now next → IsSameWriter old next
same_on old now next first last = record {
  seat = record {
    same_table = last.seat.same_table ∙ first.seat.same_table;
    same_number = last.seat.same_number ∙ first.seat.same_number;
    same_slots = last.seat.same_slots ∙ first.seat.same_slots;
  };
  generation = last.generation ∙ first.generation;
}

-- ---- loads

-- the newest generation stands at its number
pub newest_there : (w : WriterView) → 0 < length w.published → slice_get w.published (newest_number w.published) ≡ Some (newest_of w)
newest_there w some = there_is w.published (newest_number w.published) opening_published (omega (arith, some))

-- the writer may load a word of the active table
pub may_load : (w : WriterView) (table at : ℕ) → 0 < length w.published → table < 4 → table ≡ active_table w → at < 1024 → MayLoadWord (term_place table at) (Writer w)
may_load w table at some fits active few =
    let read : is_read_under (InBlock (5 + table) at) (Some (newest_of w)) ≡ true = reads_own (newest_of w) table at fits active in
    (λ i. is_read_under (table_kind table at fits few i) (newest_there w some i)) ∙ read

-- what the writer and the buckets are once so many words are loaded
pub record LoadsOn (id : TableId) (opening : Opening) (table count : ℕ) (old now : writers.Writer) (loaded : Buckets) : Type 0 where
  pub token : IsWriterOf id opening now
  pub same : IsSameWriter old now
  pub view : written_by now ≡ written_by old
  pub loaded_so : HasLoaded table count (written_by old) loaded

-- ---- stores

-- a word of a free table may be stored
pub may_store : (w : WriterView) (table at value : ℕ) → at < 1024 → IsFreeTable table w → MayStoreWord w (term_place table at) value
may_store w table at value few free = subst (FitsWord w value) (sym (table_kind table at free.fits few)) fits
  where
    fits : FitsInBlock w (5 + table) at value
    fits = record {
      unread = λ g p may there. reads_other p table at free.fits (free.unread g p may there);
      unkept = λ k among same. absurd (let high = free.areas k among in let under = free.fits in omega (arith, high, same, under));
      entries = λ k function among same has here none. absurd (let high = free.areas k among in let under = free.fits in omega (arith, high, same, under));
    }

kept_same : (w : WriterView) (table at value : ℕ) → at < 1024 → table < 4 → kept_left w value (kind_at (term_place table at)) ≡ w.kept
kept_same w table at value few fits = ap (kept_left w value) (table_kind table at fits few)

stored_is : (w : WriterView) (table at value : ℕ) → at < 1024 → table < 4 → with_word (term_place table at) value w ≡ record w { words = slice_set w.words (term_place table at) value }
stored_is w table at value few fits i = record w { words = slice_set w.words (term_place table at) value; kept = kept_same w table at value few fits i }

-- and the table stays free
free_stored : (w : WriterView) (table place value : ℕ) → IsFreeTable table w → IsFreeTable table (record w { words = slice_set w.words place value })
free_stored w table place value free = record {
  all = length-set w.words place value ∙ free.all;
  fits = free.fits;
  areas = free.areas;
  unread = free.unread;
}

-- what the writer is once so many words are stored
pub record StoresOn (id : TableId) (opening : Opening) (table count : ℕ) (built : Buckets) (old now : writers.Writer) : Type 0 where
  pub token : IsWriterOf id opening now
  pub same : IsSameWriter old now
  pub free : IsFreeTable table (written_by now)
  pub stored : HasStored table count built (written_by old) (written_by now)

module _ (table count value : ℕ) (built : Buckets) (old now next : WriterView) (h : HasStored table count built old now) (free : IsFreeTable table now) (few : count < 1024) (is : value ≡ words_of built count) (stored : next ≡ with_word (term_place table count) value now) where
  abbrev place : ℕ
  place = term_place table count

  in_table : place < length now.words
  in_table = let within = table_within table count free.fits few in let all = free.all in omega (arith, within, all)

  next_is : next ≡ record now { words = slice_set now.words place value }
  next_is = stored ∙ stored_is now table count value few free.fits

  words_next : next.words ≡ slice_set now.words place value
  words_next = ap (λ (w : WriterView). w.words) next_is

  words : (at : ℕ) → at < count + 1 → words_in next.words table at ≡ words_of built at
  words at less =
      elim (cases_eq at count) as (λ _. words_in next.words table at ≡ words_of built at) [
        | inl equal ↦
            ap (λ (n : ℕ). word_at next.words (term_place table n)) equal ∙ ap (λ ws. word_at ws place) words_next ∙ word_here now.words place value in_table ∙ is
            ∙ ap (words_of built) (sym equal)
        | inr differ ↦ (
            let low : at < count = omega (arith, less, differ) in
            let few_too : at < 1024 = omega (arith, low, few) in
            ap (λ ws. word_at ws (term_place table at)) words_next
            ∙ word_there now.words place value (term_place table at) (λ same. differ (table_apart table at table count free.fits few_too free.fits few same).1)
            ∙ h.words at low)
      ]

  one_stored : HasStored table (count + 1) built old next
  one_stored = record {
    long = ap length words_next ∙ length-set now.words place value ∙ h.long;
    words = words;
    others = λ x off. ap (λ ws. word_at ws x) words_next ∙ word_there now.words place value x (off count (omega (arith))) ∙ h.others x (λ at low. off at (omega (arith, low)));
    same = next_is ∙ (λ i. record (h.same i) { words = slice_set now.words place value }) ∙ (λ i. record old { words = sym words_next i });
  }

pub stores_more : (id : TableId) (opening : Opening) (table count value : ℕ) (built : Buckets) (old now next : writers.Writer) → StoresOn id opening table count built old now → count < 1024 → value ≡ words_of built count → IsWriterOf id opening next → IsSameWriter now next → written_by next ≡ with_word (term_place table count) value (written_by now) → StoresOn id opening table (count + 1) built old next
stores_more id opening table count value built old now next h few is token same stored = record {
  token = token;
  same = same_on old now next h.same same;
  free = subst (IsFreeTable table) (sym (next_is table count value built (written_by old) (written_by now) (written_by next) h.stored h.free few is stored)) (free_stored (written_by now) table (term_place table count) value h.free);
  stored = one_stored table count value built (written_by old) (written_by now) (written_by next) h.stored h.free few is stored;
}

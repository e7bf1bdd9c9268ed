-- The term tables stay those of their writer: over stores of words, stores of the root, loads of the counter and notes.
use Rattle.std.proofs.Common.{◌≡◌, ◌≢◌, ℕ, ◌+◌, ◌%◌, ◌<◌, ◌≤◌, inl, inr, ⊎_elim, [], ◌∷◌, ◌++◌, length, length-set, sym, ap, subst, ◌∙◌, arith}
use Rattle.std.specs.Prelude.{Option, Some, None, slice_get, slice_index}
use Rattle.prgr_core.proofs.Parts.{slice_get-push_at}
use Rattle.area_core.specs.declared.table.Published.{Published}
use Rattle.area_core.specs.declared.table.KeptArea.{KeptArea}
use Rattle.area_core.specs.Map.{kind_at, term_place}
use Rattle.area_core.specs.Blocks.{Among}
use Rattle.area_core.specs.Roots.{fresh_areas}
use Rattle.area_core.specs.Terms.{TermsStand}
use Rattle.area_core.proofs.Places.{word_there}
use Rattle.area_core.proofs.RootTests.{in_either}
use Rattle.shared_words.specs.declared.view.WriterView.{WriterView}
use Rattle.shared_words.specs.Views.{published_at}
use Rattle.shared_words.specs.Kinds.{counter_kept}
use Rattle.shared_words.specs.Notes.{with_note}
use Rattle.shared_words.specs.Publishing.{kept_next, with_next, with_word}
use Rattle.shared_words.proofs.ShownMembers.{still_at}
use Rattle.shared_words.proofs.RootStores.{newest_next, at_next}
use Rattle.shared_words.proofs.WordStores.{kept_was}
use Rattle.term_table.specs.Built.{held_in, IsTable}
use Rattle.progress_words.specs.Needs.{HasLoadedCounter}
use Rattle.progress_words.specs.Roots.{newest_of}
use Rattle.term_table.specs.Tables.{Terms, active_table, words_in, StagedFor, GoesWith, IsPast, IsTableOf}
use Rattle.term_table.specs.Laws.{IsElsewhere, KeepsTable, KeepsKeys}
use Rattle.term_table.proofs.TablePlaces.{behind_fits}
use Rattle.term_table.proofs.Alike.{counted_same, table_same, stands_same}

-- ---- a store of a word

module _ (w : WriterView) (word value : ℕ) (off : IsElsewhere word) where
  abbrev after : WriterView
  after = with_word word value w

  same : (table : ℕ) → table < 4 → (at : ℕ) → at < 1024 → words_in w.words table at ≡ words_in after.words table at
  same table fits at few = sym (word_there w.words word value (term_place table at) (λ is. off table at fits few (sym is)))

  goes_stored : (o : Option ℕ) → GoesWith o w → GoesWith o after
  goes_stored None goes = tt
  goes_stored (Some table) goes =
      let fits : table < 4 = let is = goes.0 in let fits = behind_fits (active_table w) in omega (arith, is, fits) in
      (goes.0, table_same (words_in w.words table) (words_in after.words table) (same table fits) goes.1)

  staged_stored : (o : Option ℕ) (p : Published) → GoesWith o w → StagedFor o p w → StagedFor o p after
  staged_stored None p goes staged = staged
  staged_stored (Some table) p goes staged =
      let fits : table < 4 = let is = goes.0 in let fits = behind_fits (active_table w) in omega (arith, is, fits) in
      stands_same (words_in w.words table) (words_in after.words table) (same table fits) p staged

  owned_stored : (t : Terms) → IsTableOf t w → IsTableOf t after
  owned_stored t own = record {
    all = length-set w.words word value ∙ own.all;
    long = own.long;
    areas = λ k among. own.areas k (kept_was w value (kind_at word) k among);
    fits = own.fits;
    table = table_same (words_in w.words (active_table w)) (words_in after.words (active_table w)) (same (active_table w) own.fits) own.table;
    active = stands_same (words_in w.words (active_table w)) (words_in after.words (active_table w)) (same (active_table w) own.fits) (newest_of w) own.active;
    counted = counted_same (words_in w.words (active_table w)) (words_in after.words (active_table w)) (same (active_table w) own.fits) ∙ own.counted;
    past = λ table g p few differ at has. let past = own.past table g p few differ at has in record { generation = past.generation; taken = past.taken; before = past.before };
    staged = goes_stored t.staged own.staged;
  }

-- a store elsewhere
pub stored_elsewhere : (t : Terms) (w : WriterView) (word value : ℕ) → IsElsewhere word → IsTableOf t w → KeepsTable t w (with_word word value w)
stored_elsewhere t w word value off own = record {
  owned = owned_stored w word value off t;
  staged = λ p staged. staged_stored w word value off t.staged p own.staged staged;
}

-- ---- a store of the root

module _ (t : Terms) (w : WriterView) (p : Published) (keys : KeepsKeys w p) (high : (k : KeptArea) → Among (fresh_areas w.kept p) k → 9 ≤ k.area.block) where
  newest_is : newest_of (with_next p w) ≡ p
  newest_is = ap (published_at (w.published ++ p ∷ [])) (newest_next w.published p) ∙ at_next w.published p

  active_is : active_table (with_next p w) ≡ active_table w
  active_is = ap (λ (q : Published). q.root.term) newest_is ∙ keys.table

  areas_next : ((k : KeptArea) → Among w.kept k → 9 ≤ k.area.block) → (k : KeptArea) → Among (kept_next w p) k → 9 ≤ k.area.block
  areas_next old k among =
      elim (in_either w.kept (fresh_areas w.kept p) among.0 k among.1) as (λ _. 9 ≤ k.area.block) [
        | inl was ↦ old k (among.0, was)
        | inr fresh ↦ high k (fresh.0, fresh.2)
      ]

  past_next : (table need : ℕ) → table ≢ active_table w → IsPast w table need → IsPast (with_next p w) table need
  past_next table need differ past = record {
    generation = past.generation;
    taken = past.taken;
    before = λ g q at has. ⊎_elim
        (λ (old : slice_get w.published g ≡ Some q). past.before g q old has)
        (λ (last : (g ≡ length w.published) × (q ≡ p)). absurd (differ (sym has ∙ ap (λ (x : Published). x.root.term) last.1 ∙ keys.table)))
        (slice_get-push_at w.published p g q at);
  }

  goes_next : (o : Option ℕ) → GoesWith o w → GoesWith o (with_next p w)
  goes_next None goes = tt
  goes_next (Some table) goes = (goes.0 ∙ ap (λ (n : ℕ). (n + 1) % 4) (sym active_is), goes.1)

  staged_next : (o : Option ℕ) (q : Published) → StagedFor o q w → StagedFor o q (with_next p w)
  staged_next None q staged = staged
  staged_next (Some table) q staged = staged

  owned_rooted : IsTableOf t w → IsTableOf t (with_next p w)
  owned_rooted own = record {
    all = own.all;
    long = own.long;
    areas = areas_next own.areas;
    fits = subst (λ (n : ℕ). n < 4) (sym active_is) own.fits;
    table = subst (λ (n : ℕ). IsTable (words_in w.words n)) (sym active_is) own.table;
    active = subst (λ (q : Published). TermsStand (words_in w.words q.root.term) q) (sym newest_is) keys.stands;
    counted = subst (λ (q : Published). held_in (words_in w.words q.root.term) 512 ≡ length q.state.keys) (sym newest_is) keys.counted;
    past = λ table g q few differ at has.
        let apart : table ≢ active_table w = λ same. differ (same ∙ sym active_is) in
        ⊎_elim (λ (old : slice_get w.published g ≡ Some q). past_next table (slice_index t.needs table) apart (own.past table g q few apart old has))
        (λ (last : (g ≡ length w.published) × (q ≡ p)). absurd (apart (sym has ∙ ap (λ (x : Published). x.root.term) last.1 ∙ keys.table)))
        (slice_get-push_at w.published p g q at);
    staged = goes_next t.staged own.staged;
  }

  pub rooted_same : KeepsTable t w (with_next p w)
  rooted_same = record { owned = owned_rooted; staged = λ q staged. staged_next t.staged q staged }

-- ---- a load of the counter, and a note

goes_counted : (o : Option ℕ) (w : WriterView) (counter : ℕ) → GoesWith o w → GoesWith o (counter_kept counter w)
goes_counted None w counter goes = tt
goes_counted (Some table) w counter goes = goes

staged_counted : (o : Option ℕ) (p : Published) (w : WriterView) (counter : ℕ) → StagedFor o p w → StagedFor o p (counter_kept counter w)
staged_counted None p w counter staged = staged
staged_counted (Some table) p w counter staged = staged

pub owned_counted : (t : Terms) (w : WriterView) (counter : ℕ) → IsTableOf t w → IsTableOf t (counter_kept counter w)
owned_counted t w counter own = record {
  all = own.all;
  long = own.long;
  areas = own.areas;
  fits = own.fits;
  table = own.table;
  active = own.active;
  counted = own.counted;
  past = λ table g p few differ at has.
      let past = own.past table g p few differ at has in
      record { generation = past.generation; taken = (past.taken.0, still_at w.pairs _ past.taken.0 _ past.taken.1); before = past.before };
  staged = goes_counted t.staged w counter own.staged;
}

kept_counted : (t : Terms) (w : WriterView) (counter : ℕ) → KeepsTable t w (counter_kept counter w)
kept_counted t w counter = record { owned = owned_counted t w counter; staged = λ p staged. staged_counted t.staged p w counter staged }

pub counted : (t : Terms) (old new : WriterView) → HasLoadedCounter old new → KeepsTable t old new
counted t old new loaded = subst (KeepsTable t old) (sym loaded.view) (kept_counted t old loaded.counter)

goes_noted : (o : Option ℕ) (w : WriterView) (process : ℕ) → GoesWith o w → GoesWith o (with_note process w)
goes_noted None w process goes = tt
goes_noted (Some table) w process goes = goes

staged_noted : (o : Option ℕ) (p : Published) (w : WriterView) (process : ℕ) → StagedFor o p w → StagedFor o p (with_note process w)
staged_noted None p w process staged = staged
staged_noted (Some table) p w process staged = staged

pub noted : (t : Terms) (w : WriterView) (process : ℕ) → KeepsTable t w (with_note process w)
noted t w process = record {
  owned = λ own. record {
    all = own.all;
    long = own.long;
    areas = own.areas;
    fits = own.fits;
    table = own.table;
    active = own.active;
    counted = own.counted;
    past = λ table g p few differ at has. let past = own.past table g p few differ at has in record { generation = past.generation; taken = past.taken; before = past.before };
    staged = goes_noted t.staged w process own.staged;
  };
  staged = λ p staged. staged_noted t.staged p w process staged;
}

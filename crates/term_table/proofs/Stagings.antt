-- A change that is staged: what the staging table finds then, and that the tables stay those of their writer.
use Rattle.std.proofs.Common.{◌≡◌, ℕ, ◌+◌, ◌<◌, ◌≤◌, false, Option, length, refl, sym, ap, subst, ◌∙◌, arith}
use Rattle.std.specs.Prelude.{Some, slice_index}
use Rattle.area_core.specs.declared.table.Published.{Published}
use Rattle.area_core.specs.Map.{word_at, term_place}
use Rattle.area_core.specs.Terms.{found_in, TermsStand}
use Rattle.shared_words.specs.declared.view.WriterView.{WriterView}
use Rattle.shared_words.specs.Kinds.{counter_kept}
use Rattle.shared_words.proofs.ShownMembers.{still_at}
use Rattle.progress_words.specs.Needs.{HasLoadedCounter}
use Rattle.term_table.specs.declared.change.Change.{Change}
use Rattle.term_table.specs.declared.buckets.Buckets.{Buckets}
use Rattle.term_table.specs.Keys.{ChangesTo, key_of, change_value}
use Rattle.term_table.specs.Built.{held_in, IsTable, words_of, AreBuilt, HasRebuilt, found_after, is_full_table, key_count}
use Rattle.progress_words.specs.Roots.{newest_of}
use Rattle.term_table.specs.Tables.{Terms, active_table, staging_table, words_in, Stages, IsTableOf}
use Rattle.term_table.specs.Staged.{HasLoaded, IsFreeTable, HasStored, HasStaged}
use Rattle.term_table.proofs.TablePlaces.{behind_fits, behind_differs, table_apart}
use Rattle.term_table.proofs.Alike.{found_same, counted_same, built_same, table_same, stands_same}
use Rattle.term_table.proofs.Words.{stands_changed}
use Rattle.term_table.proofs.Fullness.{rebuilt_few}

module _ (t : Terms) (w : WriterView) (own : IsTableOf t w) where
  abbrev active : ℕ → ℕ
  active = words_in w.words (active_table w)

  -- ---- the words of the active table

  module _ (held : Buckets) (loaded : HasLoaded (active_table w) 1024 w held) where
    back : (at : ℕ) → at < 1024 → active at ≡ words_of held at
    back at low = sym (loaded.words at low)

    pub held_built : AreBuilt held
    held_built = record { whole = loaded.whole; built = built_same active (words_of held) back own.table.built }

    pub held_few : held_in (words_of held) 512 ≤ 384
    held_few = (table_same active (words_of held) back own.table).few

    pub held_stands : TermsStand (words_of held) (newest_of w)
    held_stands = stands_same active (words_of held) back (newest_of w) own.active

    pub held_counted : held_in (words_of held) 512 ≡ length (newest_of w).state.keys
    held_counted = counted_same active (words_of held) back ∙ own.counted

  -- ---- behind the wait

  module _ (waited : WriterView) (asked : HasLoadedCounter w waited) (enough : slice_index t.needs (staging_table w) ≤ waited.counter) where
    abbrev after : WriterView
    after = counter_kept asked.counter w

    enough_there : slice_index t.needs (staging_table w) ≤ asked.counter
    enough_there = subst (λ (v : WriterView). slice_index t.needs (staging_table w) ≤ v.counter) asked.view enough

    free_after : IsFreeTable (staging_table w) after
    free_after = record {
      all = own.all;
      fits = behind_fits (active_table w);
      areas = own.areas;
      unread = λ g p may at same.
          let past = own.past (staging_table w) g p (behind_fits (active_table w)) (behind_differs (active_table w) own.fits) at same in
          let before = past.before g p at same in
          let last = may (record { generation = past.generation; need = slice_index t.needs (staging_table w) }) (past.taken.0, still_at w.pairs _ past.taken.0 _ past.taken.1) enough_there in
          omega (arith, before, last);
    }

    -- no thread reads the staging table
    pub free_now : IsFreeTable (staging_table w) waited
    free_now = subst (IsFreeTable (staging_table w)) (sym asked.view) free_after

    -- ---- once it is stored

    module _ (change : Change) (held built : Buckets) (loaded : HasLoaded (active_table w) 1024 w held) (rebuilt : HasRebuilt change held built) (room : is_full_table change (words_of held) ≡ false) (new : WriterView) (stored : HasStored (staging_table w) 1024 built waited new) where
      abbrev staged : ℕ → ℕ
      staged = words_in new.words (staging_table w)

      found : (key : ℕ) → found_in staged key ≡ found_after change (found_in active) key
      found key =
          found_same staged (words_of built) stored.words key ∙ rebuilt.found key
          ∙ ap (λ (o : Option ℕ). found_after change (λ _. o) key) (found_same (words_of held) active loaded.words key)

      counted : held_in staged 512 + key_count (found_in active (key_of change)) ≡ held_in active 512 + key_count (change_value change)
      counted =
          let one = counted_same staged (words_of built) stored.words in
          let two = counted_same (words_of held) active loaded.words in
          let three = ap key_count (found_same (words_of held) active loaded.words (key_of change)) in
          let four = rebuilt.counted in omega (arith, one, two, three, four)

      staged_back : (at : ℕ) → at < 1024 → words_of built at ≡ staged at
      staged_back at low = sym (stored.words at low)

      staged_table : IsTable staged
      staged_table = table_same (words_of built) staged staged_back (record { built = rebuilt.built.built; few = rebuilt_few change held built rebuilt (held_few held loaded) room })

      same_words : waited.words ≡ w.words
      same_words = ap (λ (v : WriterView). v.words) asked.view

      -- the change is staged
      pub has_staged : (u : Terms) → u ≡ record { staged = Some (staging_table w); needs = t.needs } → HasStaged change t u w new
      has_staged u is = record {
        table = is;
        found = found;
        counted = counted;
        others = λ place off. stored.others place off ∙ ap (λ ws. word_at ws place) same_words;
        waited = waited;
        loaded = asked;
        enough = enough;
        same = stored.same;
      }

      -- for each generation with the change
      pub stages_changed : (u : Terms) → u ≡ record { staged = Some (staging_table w); needs = t.needs } → (q : Published) → ChangesTo change (newest_of w) q → Stages u q new
      stages_changed u is q changes = subst (λ (v : Terms). Stages v q new) (sym is) (stands_changed active staged change (newest_of w) q own.active found changes)

      new_is : new ≡ record (counter_kept asked.counter w) { words = new.words }
      new_is = stored.same ∙ ap (λ (v : WriterView). record v { words = new.words }) asked.view

      kept : (at : ℕ) → at < 1024 → active at ≡ words_in new.words (active_table w) at
      kept at low =
          sym (stored.others (term_place (active_table w) at) (λ other few same. behind_differs (active_table w) own.fits (sym (table_apart (active_table w) at (staging_table w) other own.fits low (behind_fits (active_table w)) few same).0))
          ∙ ap (λ ws. word_at ws (term_place (active_table w) at)) same_words)

      owned : IsTableOf (record { staged = Some (staging_table w); needs = t.needs }) (record (counter_kept asked.counter w) { words = new.words })
      owned = record {
        all = stored.long ∙ ap length same_words ∙ own.all;
        long = own.long;
        areas = own.areas;
        fits = own.fits;
        table = table_same active (words_in new.words (active_table w)) kept own.table;
        active = stands_same active (words_in new.words (active_table w)) kept (newest_of w) own.active;
        counted = counted_same active (words_in new.words (active_table w)) kept ∙ own.counted;
        past = λ table g p few differ at has.
            let past = own.past table g p few differ at has in
            record { generation = past.generation; taken = (past.taken.0, still_at w.pairs _ past.taken.0 _ past.taken.1); before = past.before };
        staged = (refl, staged_table);
      }

      -- the tables stay those of the writer
      pub owned_staged : (u : Terms) → u ≡ record { staged = Some (staging_table w); needs = t.needs } → IsTableOf u new
      owned_staged u is = subst (λ (z : Terms × WriterView). IsTableOf z.0 z.1) (λ i. (sym is i, sym new_is i)) owned

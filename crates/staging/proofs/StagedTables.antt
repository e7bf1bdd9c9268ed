-- A key is staged: what that leaves of the writer's tables.
use Rattle.std.proofs.Common.{◌≡◌, ℕ, ◌+◌, ◌≤◌, true, List, ◌∷◌, length, map, Option, Some, None, refl, sym, ap, subst, ◌∙◌, arith}
use Rattle.std.specs.Prelude.{◌==◌, slice_get, IsSomeAnd}
use Rattle.std.proofs.lemmas.Bool.{and_parts, eqb-true}
use Rattle.prgr_core.proofs.Parts.{some_same}
use Rattle.std.proofs.lemmas.List.{length-map}
use Rattle.area_core.proofs.Tests.{passed_by}
use Rattle.atomic_table.specs.Seated.{TableId}
use Rattle.term_core.specs.declared.area.AreaRef.{AreaRef}
use Rattle.term_core.specs.declared.atom.Mfa.{Mfa}
use Rattle.term_core.specs.declared.generation.KeyTerm.{KeyTerm}
use Rattle.term_core.specs.Plain.{plain}
use Rattle.area_core.specs.declared.table.KeptArea.{KeptArea}
use Rattle.area_core.specs.declared.table.Published.{Published}
use Rattle.area_core.specs.Blocks.{Among}
use Rattle.area_core.specs.Generations.{is_term_word}
use Rattle.area_core.specs.Map.{word_at}
use Rattle.area_core.specs.Terms.{TermsStand, found_in, is_word_of}
use Rattle.shared_words.specs.declared.opening.Opening.{Opening}
use Rattle.shared_words.specs.declared.view.WriterView.{WriterView}
use Rattle.progress_words.specs.Roots.{newest_of}
use Rattle.progress_words.specs.Tokens.{IsWriterOf, written_by}
use Rattle.server_core.specs.declared.change.Change.{Change}
use Rattle.server_core.specs.declared.change.Change.TheVariants.{HoldWord, HoldArea, Forget}
use Rattle.server_core.specs.Decided.{change_made}
use Rattle.server_core.specs.Generations.{key_term}
use Rattle.server_core.specs.ServerState.{Persistent, ServerState, persistent_among}
use Rattle.code_index.specs.Laws as indices
use Rattle.code_index.specs.Staging.{IsIndexOf}
use Rattle.literal_areas.specs.Laws as pools
use Rattle.literal_areas.specs.Owned.{AreOf}
use Rattle.term_table.specs.declared.change.Change as changes
use Rattle.term_table.specs.Built.{key_count, held_in}
use Rattle.term_table.specs.Keys.{ChangesTo, key_of, change_value}
use Rattle.term_table.specs.Staged.{HasStaged}
use Rattle.term_table.specs.Tables.{IsTableOf, Stages, active_table, staging_table, words_in}
use Rattle.staging.specs.declared.tables.Tables.{Tables}
use Rattle.staging.specs.Keyed.{key_change}
use Rattle.change_laws.specs.Changes.{incoming}
use Rattle.staging.specs.Placed.{ArePlaced}
use Rattle.staging.specs.Replaced.{HaveKeyed}
use Rattle.staging.specs.Stages.{HavePlaced}
use Rattle.staging.specs.Upcoming.{areas_in}
use Rattle.staging.specs.Whose.{AreTablesOf}
use Rattle.staging.proofs.KeyLists.{StandOnce, held_among, held_one, key_at, length_erased, length_put, none_among, once_stand, term_at}
use Rattle.staging.proofs.KeyStaged.{newest_keys}
use Rattle.staging.proofs.StagedKey.{one_taken}
use Rattle.staging.proofs.Patched.{patch_beside, patch_loaded}
use Rattle.staging.proofs.TableStores.{StoresTable, index_table, owned_table, placed_loaded, placed_table, stands_loaded, stands_table, table_beside}

-- ---- how many keys there are

-- a key is found where it holds a term
module _ (block : ℕ → ℕ) (p : Published) (ps : List Persistent) (key : ℕ) (terms : TermsStand block p) (keys : p.state.keys ≡ map key_term ps) where
  counted_found : (o : Option ℕ) (h : Option Persistent) → found_in block key ≡ o → persistent_among ps key ≡ h → key_count o ≡ held_one h
  counted_found None None found held = refl
  counted_found (Some word) (Some h) found held = refl
  counted_found None (Some h) found held =
      let there = held_among ps key h held in
      let at = terms.found there.0.0 (key_term h) (ap (λ (ks : List KeyTerm). slice_get ks there.0.0) keys ∙ term_at ps there.0.0 h there.0.1) in
      absurd (subst (λ (o : Option ℕ). IsSomeAnd o (λ word. is_term_word p (key_term h).holding word ≡ true)) (ap (found_in block) there.1 ∙ found) at)
  counted_found (Some word) None found held =
      let one = passed_by (is_word_of p key word) p.state.keys (terms.only key word found) in
      let at = key_at ps one.1 one.0 (ap (λ (ks : List KeyTerm). slice_get ks one.1) (sym keys) ∙ one.2) in
      absurd (none_among ps key held one.1 at.0 at.1 (sym (same_key one.0 one.3) ∙ sym (ap (λ (x : KeyTerm). x.key.0) at.2)))
    where
      same_key : (k : KeyTerm) → is_word_of p key word k ≡ true → k.key.0 ≡ key
      same_key k e = eqb-true k.key.0 key (and_parts (k.key.0 == key) (is_term_word p k.holding word) e).0

  pub found_counts : key_count (found_in block key) ≡ held_one (persistent_among ps key)
  found_counts = counted_found (found_in block key) (persistent_among ps key) refl refl

-- ---- the staged change

module _ (table : TableId) (opening : Opening) (old new : Tables) (staged : changes.Change) (by_counter : indices.KeptByCounters) (by_writes : indices.KeptByWrites) (by_loads : pools.KeptByCounters) (was : AreTablesOf table opening old)
    (token : IsWriterOf table opening new.writer) (terms : IsTableOf new.terms (written_by new.writer)) (has : HasStaged staged old.terms new.terms (written_by old.writer) (written_by new.writer)) (index_is : new.index ≡ old.index) (pools_are : new.pools ≡ old.pools) (patch_is : new.patch ≡ old.patch) where
  abbrev before : WriterView
  before = written_by old.writer

  abbrev after : WriterView
  after = written_by new.writer

  waited_words : has.waited.words ≡ before.words
  waited_words = ap (λ (w : WriterView). w.words) has.loaded.view

  pub stores : StoresTable (staging_table before) has.waited after
  stores = record {
    fits = omega arith;
    long = terms.all ∙ sym was.terms.all ∙ sym (ap length waited_words);
    others = λ place off. has.others place off ∙ sym (ap (λ (words : List ℕ). word_at words place) waited_words);
    same = has.same;
  }

  pub tables_staged : AreTablesOf table opening new
  tables_staged = record {
    token = token;
    index = subst (λ x. IsIndexOf x after) (sym index_is) ((by_writes old.index has.waited after (index_table (staging_table before) has.waited after stores) waits).owned waits);
    terms = terms;
    pools = subst (λ p. AreOf p after) (sym pools_are) (owned_table old.pools (staging_table before) has.waited after stores (by_loads old.pools before has.waited has.loaded was.pools));
    patch = patch_beside old.patch new.patch has.waited after patch_is
        (table_beside (staging_table before) has.waited after (subst (λ (w : WriterView). (k : KeptArea) → Among w.kept k → 9 ≤ k.area.block) (sym has.loaded.view) was.index.areas) stores)
        (patch_loaded old.patch old.patch before has.waited refl has.loaded was.patch);
  }
    where
      waits : IsIndexOf old.index has.waited
      waits = (by_counter old.index before has.waited has.loaded).owned was.index

  -- the same tables are active and staging
  staging_is : staging_table after ≡ staging_table before
  staging_is = ap staging_table has.same ∙ ap (λ (w : WriterView). staging_table (record w { words = after.words })) has.loaded.view

  module _ (names : List Mfa) (s : ServerState) (change : Change) (taken : List AreaRef) (had : HavePlaced names s change old taken) (whole : length taken ≡ length (incoming change)) (is : key_change change taken ≡ Some staged)
      (stands : (q : Published) → ChangesTo staged (newest_of before) q → Stages new.terms q after) where
    keys : (newest_of before).state.keys ≡ map key_term s.keys
    keys = newest_keys names s (newest_of before) had.stands.newest_is

    once : StandOnce s.keys
    once = once_stand s.keys had.stands.keys_once

    held_before : held_in (words_in before.words (active_table before)) 512 ≡ length s.keys
    held_before = was.terms.counted ∙ ap length keys ∙ length-map s.keys key_term

    found_before : (key : ℕ) → key_count (found_in (words_in before.words (active_table before)) key) ≡ held_one (persistent_among s.keys key)
    found_before key = found_counts (words_in before.words (active_table before)) (newest_of before) s.keys key was.terms.active keys

    -- the sum that the table tells
    told : (c : changes.Change) → staged ≡ c → held_in (words_in after.words (staging_table before)) 512 + held_one (persistent_among s.keys (key_of c)) ≡ length s.keys + key_count (change_value c)
    told c same = let sum = has.counted in let held = held_before in let found = found_before (key_of c) in
        subst (λ (d : changes.Change). held_in (words_in after.words (staging_table before)) 512 + held_one (persistent_among s.keys (key_of d)) ≡ length s.keys + key_count (change_value d)) same
        (let there = found_before (key_of staged) in omega (arith, sum, held, there))

    counted_for : (change : Change) (taken : List AreaRef) → key_change change taken ≡ Some staged → held_in (words_in after.words (staging_table before)) 512 ≡ length (change_made s change).state.keys
    counted_for (HoldWord generation key term kept retired) taken is =
        let sum = told _ (sym (some_same _ staged is)) in let long = length_put s.keys (record { key = key.0; term = plain term; area = None }) in omega (arith, sum, long)
    counted_for (HoldArea generation key term kept blocks places retired) (a ∷ taken) is =
        let sum = told _ (sym (some_same _ staged is)) in let long = length_put s.keys (record { key = key.0; term = plain term; area = Some s.next_serial }) in omega (arith, sum, long)
    counted_for (Forget generation key retired) taken is = let sum = told _ (sym (some_same _ staged is)) in let long = length_erased s.keys key.0 once in omega (arith, sum, long)
    counted_for change taken is = absurd (cc)

    pub have_keyed : HaveKeyed names s change new taken
    have_keyed = record {
      rest = had.rest;
      stands = stands_table names s had.rest (staging_table before) has.waited after stores (stands_loaded names s had.rest before has.waited has.loaded had.stands);
      placed = subst (λ p. ArePlaced (incoming change) had.rest p after taken) (sym pools_are)
          (placed_table (incoming change) had.rest old.pools taken (staging_table before) has.waited after stores (placed_loaded (incoming change) had.rest old.pools taken before has.waited has.loaded had.placed));
      whole = whole;
      keyed = λ q state areas. stands q (one_taken names s had.rest old.pools before q had.stands (areas ∙ ap areas_in pools_are) change taken staged had.placed whole state is);
      counted = ap (λ (t : ℕ). held_in (words_in after.words t) 512) staging_is ∙ counted_for change taken is;
      patch = patch_is ∙ had.patch;
    }

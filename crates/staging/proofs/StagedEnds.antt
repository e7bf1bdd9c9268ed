-- What staging a key answers: why it never is full, and what the wait leaves.
use Rattle.std.proofs.Common.{◌≡◌, ℕ, false, ◌&&◌, List, [], ◌∷◌, ◌++◌, length, map, Option, Some, None, refl, sym, ap, subst, ◌∙◌, arith}
use Rattle.std.specs.Prelude.{is_none, nat_le}
use Rattle.std.proofs.lemmas.Bool.{leb-false}
use Rattle.std.proofs.lemmas.List.{length-map}
use Rattle.prgr_core.proofs.Parts.{some_same}
use Rattle.atomic_table.specs.Seated.{TableId}
use Rattle.term_core.specs.declared.area.AreaRef.{AreaRef}
use Rattle.term_core.specs.declared.atom.Mfa.{Mfa}
use Rattle.term_core.specs.declared.generation.KeyTerm.{KeyTerm}
use Rattle.term_core.specs.Image.{immediate_word}
use Rattle.area_core.specs.declared.table.Published.{Published}
use Rattle.area_core.specs.Blocks.{Among}
use Rattle.shared_words.specs.declared.opening.Opening.{Opening}
use Rattle.progress_words.specs.Needs.{HasLoadedCounter}
use Rattle.progress_words.specs.Tokens.{IsWriterOf, written_by}
use Rattle.server_core.specs.declared.change.Change.{Change}
use Rattle.server_core.specs.declared.change.Change.TheVariants.{HoldWord, HoldArea, Forget}
use Rattle.server_core.specs.Decided.{Fits}
use Rattle.server_core.specs.Generations.{key_term}
use Rattle.server_core.specs.ServerState.{Persistent, ServerState, key_area, persistent_among}
use Rattle.change_laws.specs.Changes.{incoming}
use Rattle.code_index.specs.Laws as indices
use Rattle.code_index.specs.Staging.{IsIndexOf}
use Rattle.literal_areas.specs.declared.areas.Areas.{Areas}
use Rattle.literal_areas.specs.Laws as pools
use Rattle.literal_areas.specs.Owned.{AreOf}
use Rattle.term_table.specs.declared.change.Change as changes
use Rattle.term_table.specs.declared.change.Change.TheVariants.{Put, Erase}
use Rattle.term_table.specs.Keys.{IsNewKey, Lacks, key_of}
use Rattle.term_table.specs.Tables.{IsTableOf}
use Rattle.staging.specs.declared.tables.Tables.{Tables}
use Rattle.staging.specs.Keyed.{area_word, key_change}
use Rattle.staging.specs.Placed.{ArePlaced}
use Rattle.staging.specs.Replaced.{former_of}
use Rattle.staging.specs.Stages.{HasPublished, HavePlaced, IsCodeChange, IsKeyChange}
use Rattle.staging.specs.Whose.{AreTablesOf}
use Rattle.staging.proofs.KeyLists.{held_among, term_at}
use Rattle.staging.proofs.Patched.{patch_loaded}
use Rattle.staging.proofs.TableStores.{placed_loaded, stands_loaded}

-- ---- the change of the keys

-- there is one
pub never_none : (change : Change) (taken : List AreaRef) → IsKeyChange change → length taken ≡ length (incoming change) → key_change change taken ≡ None → ⊥
never_none (HoldWord generation key term keys retired) taken is whole none = (cc)
never_none (HoldArea generation key term kept areas keys retired) [] is whole none = (cc)
never_none (HoldArea generation key term kept areas keys retired) (a ∷ taken) is whole none = (cc)
never_none (Forget generation key retired) taken is whole none = (cc)
never_none change taken is whole none = is

by_key : (s : ServerState) (n key : ℕ) → n ≡ key → key_area s key ≡ key_area s n
by_key s n key same = ap (key_area s) (sym same)

-- its key is that of the change
pub former_is : (s : ServerState) (change : Change) (taken : List AreaRef) (staged : changes.Change) (n : ℕ) → key_change change taken ≡ Some staged → n ≡ key_of staged → former_of s change ≡ key_area s n
former_is s (HoldWord generation key term keys retired) taken staged n is same = by_key s n key.0 (same ∙ sym (ap key_of (some_same (Put key (immediate_word term)) staged is)))
former_is s (HoldArea generation key term kept areas keys retired) (a ∷ taken) staged n is same = by_key s n key.0 (same ∙ sym (ap key_of (some_same (Put key (area_word a)) staged is)))
former_is s (Forget generation key retired) taken staged n is same = by_key s n key.0 (same ∙ sym (ap key_of (some_same (Erase key) staged is)))
former_is s change taken staged n is same = absurd (cc)

-- ---- there is room for the key

module _ (names : List Mfa) (s : ServerState) (p : Published) (keys : p.state.keys ≡ map key_term s.keys) where
  lacks_none : (key : ℕ) → Lacks p key → (o : Option Persistent) → persistent_among s.keys key ≡ o → o ≡ None
  lacks_none key lacks None e = refl
  lacks_none key lacks (Some held) e =
      let there = held_among s.keys key held e in
      absurd (lacks (key_term held) (subst (λ (ks : List KeyTerm). Among ks (key_term held)) (sym keys) (there.0.0, term_at s.keys there.0.0 held there.0.1)) there.1)

  room : (key : ℕ) → (is_none (persistent_among s.keys key) && nat_le 384 (length s.keys)) ≡ false → Lacks p key → length p.state.keys ≡ 384 → ⊥
  room key fits lacks full =
      let none = lacks_none key lacks (persistent_among s.keys key) refl in
      let few = leb-false 384 (length s.keys) (subst (λ (o : Option Persistent). (is_none o && nat_le 384 (length s.keys)) ≡ false) none fits) in
      let same = ap length keys ∙ length-map s.keys key_term in
      omega (arith, few, full, same)

  pub never_full : (change : Change) (taken : List AreaRef) (staged : changes.Change) → Fits s change → key_change change taken ≡ Some staged → IsNewKey staged p → length p.state.keys ≡ 384 → ⊥
  never_full (HoldWord generation key term kept retired) taken staged fits is new full = room key.0 fits.1.place.for_key (subst (λ (c : changes.Change). IsNewKey c p) (sym (some_same (Put key (immediate_word term)) staged is)) new) full
  never_full (HoldArea generation key term kept areas places retired) (a ∷ taken) staged fits is new full = room key.0 fits.1.place.for_key (subst (λ (c : changes.Change). IsNewKey c p) (sym (some_same (Put key (area_word a)) staged is)) new) full
  never_full (Forget generation key retired) taken staged fits is new full = subst (λ (c : changes.Change). IsNewKey c p) (sym (some_same (Erase key) staged is)) new
  never_full change taken staged fits is new full = (cc)

-- ---- the wait

pub tables_waited : (table : TableId) (opening : Opening) (old new : Tables) → indices.KeptByCounters → pools.KeptByCounters → AreTablesOf table opening old → IsWriterOf table opening new.writer → IsTableOf new.terms (written_by new.writer) → HasLoadedCounter (written_by old.writer) (written_by new.writer) → new.index ≡ old.index → new.pools ≡ old.pools → new.patch ≡ old.patch → AreTablesOf table opening new
tables_waited table opening old new by_counter by_loads was token terms loaded index_is pools_are patch_is = record {
  token = token;
  index = subst (λ x. IsIndexOf x (written_by new.writer)) (sym index_is) ((by_counter old.index (written_by old.writer) (written_by new.writer) loaded).owned was.index);
  terms = terms;
  pools = subst (λ (x : Areas). AreOf x (written_by new.writer)) (sym pools_are) (by_loads old.pools (written_by old.writer) (written_by new.writer) loaded was.pools);
  patch = patch_loaded old.patch new.patch (written_by old.writer) (written_by new.writer) patch_is loaded was.patch;
}

pub placed_waited : (names : List Mfa) (s : ServerState) (change : Change) (old new : Tables) (taken : List AreaRef) → HasLoadedCounter (written_by old.writer) (written_by new.writer) → new.terms ≡ old.terms → new.pools ≡ old.pools → new.patch ≡ old.patch → HavePlaced names s change old taken → HavePlaced names s change new taken
placed_waited names s change old new taken loaded terms pools patch had = record {
  rest = had.rest;
  stands = stands_loaded names s had.rest (written_by old.writer) (written_by new.writer) loaded had.stands;
  placed = subst (λ (x : Areas). ArePlaced (incoming change) had.rest x (written_by new.writer) taken) (sym pools) (placed_loaded (incoming change) had.rest old.pools taken (written_by old.writer) (written_by new.writer) loaded had.placed);
  terms = ap (λ t. t.staged) terms ∙ had.terms;
  patch = patch ∙ had.patch;
}

-- ---- what is published, from before the key was staged

pub published_from : (names : List Mfa) (s : ServerState) (first old new : Tables) (generation : ℕ) → (written_by old.writer).published ≡ (written_by first.writer).published → HasPublished names s old new generation → HasPublished names s first new generation
published_from names s first old new generation same done = record {
  next = done.next;
  shows = done.shows;
  published = done.published ∙ ap (λ (ps : List Published). ps ++ done.next ∷ []) same;
  number = done.number ∙ ap length same;
  rest = done.rest;
}

-- ---- a change is of code or of a key

pub not_both : (change : Change) → IsCodeChange change → IsKeyChange change → ⊥
not_both (HoldWord generation key term keys retired) code is = code
not_both (HoldArea generation key term kept areas keys retired) code is = code
not_both (Forget generation key retired) code is = code
not_both change code is = is

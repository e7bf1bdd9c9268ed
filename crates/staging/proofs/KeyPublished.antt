-- A key is published: the store of the root is allowed, and what it leaves.
use Rattle.std.proofs.Common.{◌≡◌, ℕ, ◌<◌, ◌≤◌, inl, inr, true, false, List, length, Option, Some, None, refl, sym, ap, subst, ◌∙◌, arith}
use Rattle.std.specs.Prelude.{nat_lt, slice_get, IfSome}
use Rattle.std.proofs.lemmas.Bool.{and_parts, false_from_ne_true, ltb-true}
use Rattle.std.proofs.lemmas.List.{length-map}
use Rattle.prgr_core.proofs.Parts.{and_then_some}
use Rattle.atomic_table.specs.Seated.{TableId}
use Rattle.term_core.specs.declared.area.AreaRef.{AreaRef}
use Rattle.term_core.specs.declared.atom.Mfa.{Mfa}
use Rattle.term_core.specs.PlainTerm.{PlainTerm}
use Rattle.area_core.specs.declared.table.KeptArea.{KeptArea}
use Rattle.area_core.specs.declared.table.Published.{Published}
use Rattle.area_core.specs.Blocks.{Among, AreaStands}
use Rattle.area_core.specs.Generations as generations
use Rattle.area_core.specs.Generations.{has_function, tells}
use Rattle.area_core.specs.Map.{retire_place, word_at}
use Rattle.area_core.specs.Roots.{fresh_areas}
use Rattle.shared_words.specs.declared.opening.Opening.{Opening}
use Rattle.shared_words.specs.declared.view.WriterView.{WriterView}
use Rattle.shared_words.specs.Kinds.{counter_kept}
use Rattle.shared_words.specs.Publishing.{with_next}
use Rattle.progress_words.specs.Needs.{HasLoadedCounter}
use Rattle.progress_words.specs.Roots.{newest_of}
use Rattle.progress_words.specs.Tokens.{IsWriterOf, written_by}
use Rattle.progress_words.proofs.Rooted.{some_published}
use Rattle.server_core.specs.declared.change.Change.{Change}
use Rattle.server_core.specs.declared.change.Change.TheVariants.{HoldWord, HoldArea, Forget}
use Rattle.server_core.specs.Decided.{Fits}
use Rattle.server_core.specs.Generations.{generation_of, key_term}
use Rattle.server_core.specs.ServerState.{HasItsArea, IsPersistent, IsSound, IsTermArea, Persistent, ServerState, code_of, dispatch_of, key_area, persistent_of}
use Rattle.breakpoints.specs.Indices.{BreakpointsRest}
use Rattle.breakpoints.specs.Laws.{TracesStand}
use Rattle.code_law.specs.Served.{IsServed}
use Rattle.change_laws.specs.Changes.{incoming, changed_state}
use Rattle.change_laws.specs.Uses.{IsUsed}
use Rattle.code_index.specs.declared.index.Staging.TheVariants as indices
use Rattle.code_index.specs.Exports.{LeadTo}
use Rattle.code_index.specs.Laws as index_laws
use Rattle.code_index.specs.Staging.{IsIndexOf, active_index}
use Rattle.literal_areas.specs.declared.areas.Areas.{Areas}
use Rattle.literal_areas.specs.declared.blocks.BlockUse.TheVariants.{Live}
use Rattle.literal_areas.specs.Blocks as areas
use Rattle.literal_areas.specs.Blocks.{Stands, use_of}
use Rattle.literal_areas.proofs.Serials.{serial_here}
use Rattle.literal_areas.proofs.Uses.{use_within}
use Rattle.literal_areas.specs.Owned.{AreOf}
use Rattle.literal_areas.proofs.Listed.{kept_counted, owned_next}
use Rattle.term_table.specs.Published as published
use Rattle.term_table.specs.Published.{MayPublishTerms, restaged}
use Rattle.term_table.specs.Tables.{IsTableOf, Terms}
use Rattle.staging.specs.declared.tables.Tables.{Tables}
use Rattle.staging.specs.Placed.{ArePlaced}
use Rattle.staging.specs.Replaced.{FormerRetired, HaveReplaced, former_of}
use Rattle.staging.specs.Stages.{HasPublished, IsKeyChange}
use Rattle.staging.specs.Standing.{IsShownBy, StandFor, retire_word_of}
use Rattle.staging.specs.Upcoming.{IsUpcoming, areas_in}
use Rattle.staging.specs.Whose.{AreTablesOf, KeepsKnown}
use Rattle.staging.proofs.Coming.{ComesNext, IsFresh, TracesAlike}
use Rattle.staging.proofs.Counted.{stands_counted}
use Rattle.staging.proofs.KeptExports.{leads}
use Rattle.staging.proofs.Known.{known_same}
use Rattle.staging.proofs.KeyLists.{once_stand}
use Rattle.staging.proofs.KeyPools.{retires}
use Rattle.staging.proofs.KeyStates.{rekeys}
use Rattle.staging.proofs.KeyWords.{retires_words}
use Rattle.staging.proofs.Taken.{live_stays}
use Rattle.staging.proofs.KeyBlocks.{IsNew, IsReady, stood_or_new, stood_stands}
use Rattle.staging.proofs.KeyComes.{key_alike, key_comes_next}
use Rattle.staging.proofs.NextAreas.{apart_next, fresh_comes, go_on, next_listed, used_kept}
use Rattle.staging.proofs.NextStands.{is_listed, stands_next}
use Rattle.staging.proofs.NextStays.{old_stays_next, retired_stays_next, served_next}
use Rattle.staging.proofs.NextTraces.{traces_next}
use Rattle.staging.proofs.NextWords.{areas_next, fresh_fits, fresh_images, instances_next}
use Rattle.staging.proofs.Patched.{rest_counted, rest_of, rests}

-- a change of a key leaves what calls reach
calls_stay : (s : ServerState) (change : Change) → IsKeyChange change → (to : Mfa) → dispatch_of (changed_state s change) to ≡ dispatch_of s to
calls_stay s (HoldWord generation key term keys retired) is to = refl
calls_stay s (HoldArea generation key term kept areas keys retired) is to = refl
calls_stay s (Forget generation key retired) is to = refl
calls_stay s change is to = absurd is

no_function : (k : KeptArea) (function : ℕ) → 64 ≤ k.area.block → has_function k function ≡ true → ⊥
no_function k function small e = absurd (let parts = and_parts (nat_lt k.area.block 64) _ e in let low = ltb-true k.area.block 64 parts.0 in omega (arith, low, small))

module _ (names : List Mfa) (s : ServerState) (change : Change) (v w : WriterView) (rest before pools : Areas) (taken : List AreaRef) (h : IsReady names s change v w rest before pools taken) where
  abbrev after : ServerState
  after = changed_state s change

  next : ComesNext names after pools w
  next = key_comes_next names s change v w rest before pools taken h

  module _ (p : Published) (up : IsUpcoming names after pools p) where
    -- ---- what calls reach

    newest_v : newest_of w ≡ newest_of v
    newest_v = ap newest_of h.words.same

    listed : (a : AreaRef) → Among (newest_of w).areas a → IsUsed s a.serial → Among p.areas a
    listed a among used = next_listed names after pools w p next up a (stood_stands names s change v w rest before pools taken h a (h.stands.listed a (subst (λ (q : Published). Among q.areas a) newest_v among) used))

    leads_key : index_laws.KeptByExports → LeadTo w.words (active_index w) (newest_of w) → LeadTo w.words (active_index w) p
    leads_key alike active = leads names s after w p (subst (IsShownBy names s) (sym newest_v) h.stands.newest_is) up.state (calls_stay s change h.key) listed alike active

    -- ---- what comes in

    fresh_all : (k : KeptArea) → Among (fresh_areas w.kept p) k → (g : ℕ) (q : Published) → slice_get w.published g ≡ Some q → AreaStands (word_at w.words) k g q
    fresh_all k at g q here =
        elim (stood_or_new names s change v w rest before pools taken h k.area stands) as (λ _. AreaStands (word_at w.words) k g q) [
          | inl stood ↦ absurd (let kept = h.stands.images.areas k.area stood in fresh.unpublished.kept (record { area = k.area; words = kept.0 }) (subst (λ (ks : List KeptArea). Among ks (record { area = k.area; words = kept.0 })) (sym (ap (λ (x : WriterView). x.kept) h.words.same)) kept.1) refl)
          | inr new ↦ record {
            entries = λ function has none. absurd (no_function k function new.small has);
            retired = ap (λ (word : ℕ). tells word g) word_is ∙ sym (unretired new);
            doomed = λ big none. absurd (let small = new.small in omega (arith, big, small));
          }
        ]
      where
        fresh : IsFresh after pools w k.area k.words
        fresh = (fresh_comes names after pools w p next up k at).0

        stands : Stands pools k.area
        stands = serial_here pools k.area.block (Live k.area.serial) fresh.live

        fits : k.area.block < 320
        fits = use_within pools k.area.block (Live k.area.serial) next.owned.sound.sizes fresh.live

        word_is : word_at w.words (retire_place k.area.block) ≡ 0
        word_is = next.words.retire k.area.block fits ∙ ap retire_word_of fresh.live

        unretired : IsNew names s change v w rest before pools taken h k.area → generations.is_retired_area q k.area.serial ≡ false
        unretired new = false_from_ne_true (generations.is_retired_area q k.area.serial) (λ e. let low = (h.stands.dropped.retired q k.area.serial (g, sym (ap (λ (ps : List Published). slice_get ps g) (ap (λ (x : WriterView). x.published) h.words.same)) ∙ here) e).0 in let past = new.serial in omega (arith, low, past))

-- ---- the key is staged, and the former area retired

-- the area of a key is no instance
pub key_no_code : (s : ServerState) → IsSound s → (key serial : ℕ) → key_area s key ≡ Some serial → code_of s serial ≡ None
key_no_code s sound key serial e =
    let found = and_then_some (λ (p : Persistent). p.area) (persistent_of s key) serial e in
    let is = subst (λ (o : Option Persistent). IfSome o (IsPersistent s)) found.1 (sound.keys key) in
    let term = subst (HasItsArea s found.0.term) found.2 is.area in
    (subst (λ (o : Option PlainTerm). IfSome o (IsTermArea s serial)) term (sound.terms serial)).no_code

pub published_retired : (former : Option ℕ) (old new : Areas) (before after : WriterView) → FormerRetired former old before new after → after.published ≡ before.published
published_retired None old new before later is = ap (λ (x : WriterView). x.published) is.1
published_retired (Some serial) old new before later is = ap (λ (x : WriterView). x.published) is.stored

pub known_retired : (former : Option ℕ) (old new : Areas) (before after : WriterView) → FormerRetired former old before new after → KeepsKnown before after
known_retired None old new before later is = known_same before later is.1
known_retired (Some serial) old new before later is = subst (KeepsKnown before) (sym is.stored) (record { notes = refl; looks = refl; waits = λ pair had. had; longer = omega (arith) })

-- so its block is a small one
pub former_high : (names : List Mfa) (s : ServerState) (change : Change) (rest pools : Areas) (w : WriterView) (taken : List AreaRef) → IsSound s → IsKeyChange change → StandFor names s rest w → ArePlaced (incoming change) rest pools w taken → areas.IsSound pools
    → (block serial : ℕ) → former_of s change ≡ Some serial → use_of pools block ≡ Some (Live serial) → 64 ≤ block
former_high names s change rest pools w taken sound key stands placed one block serial is live =
    let held = (rekeys s change (once_stand s.keys stands.keys_once) key).held serial is in
    let found = stands.blocks.used serial (inr (inr (held.0, held.1))) in
    let stays = ap (λ (x : Areas). use_of x found.0) placed.pools_are ∙ live_stays taken rest found.0 serial placed.taken_are found.1 in
    let same = one.apart found.0 block serial (serial_here pools found.0 (Live serial) stays) (serial_here pools block (Live serial) live) in
    subst (λ (b : ℕ). 64 ≤ b) same (stands.placed.terms (record { serial = serial; block = found.0 }) (serial_here rest found.0 (Live serial) found.1) (key_no_code s sound held.0 serial held.1))

module _ (names : List Mfa) (s : ServerState) (change : Change) (table : TableId) (opening : Opening) (t : Tables) (taken : List AreaRef) (own : AreTablesOf table opening t) (sound : IsSound s) (fits : Fits s change) (key : IsKeyChange change) (had : HaveReplaced names s change t taken) where
  abbrev view : WriterView
  view = written_by t.writer

  abbrev later : ServerState
  later = changed_state s change

  same_published : view.published ≡ had.view.published
  same_published = published_retired (former_of s change) had.pools t.pools had.view view had.former

  some : 0 < length had.view.published
  some = subst (λ (ps : List Published). 0 < length ps) same_published (some_published table opening t.writer own.token)

  high : (block serial : ℕ) → former_of s change ≡ Some serial → use_of had.pools block ≡ Some (Live serial) → 64 ≤ block
  high = former_high names s change had.rest had.pools had.view taken sound key had.stands had.placed had.owned.sound

  ready : IsReady names s change had.view view had.rest had.pools t.pools taken
  ready = record {
    sound = sound;
    fits = fits;
    key = key;
    stands = had.stands;
    placed = had.placed;
    whole = had.whole;
    retires = retires (former_of s change) had.pools t.pools had.view view had.owned.sound high had.former;
    words = retires_words (former_of s change) had.pools t.pools had.view view had.owned.sound.sizes had.owned.all some had.former;
    some = some;
    owned = own.pools;
  }

  comes : ComesNext names later t.pools view
  comes = key_comes_next names s change had.view view had.rest had.pools t.pools taken ready

  abbrev p : Published
  p = restaged view (generation_of names later) (areas_in t.pools)

  up : IsUpcoming names later t.pools p
  up = record { state = refl; areas = refl }

  alike : TracesAlike later view
  alike = key_alike names s change had.view view had.rest had.pools t.pools taken ready

  -- the breakpoint index says what it traces
  traces : TracesStand view p
  traces = traces_next names later t.pools view p comes up alike (rest_of t.patch view had.patch own.patch) refl

  leads_p : index_laws.KeptByExports → LeadTo view.words (active_index view) p
  leads_p by_exports = leads_key names s change had.view view had.rest had.pools t.pools taken ready p up by_exports own.index.active

  may : index_laws.KeptByExports → MayPublishTerms (IsServed names) t.terms view p
  may by_exports = record {
    terms = had.keyed p refl refl;
    counted = had.counted ∙ sym (length-map later.keys key_term);
    served = served_next names later t.pools view p comes up;
    old_stays = old_stays_next names later t.pools view p comes up;
    retired_stays = retired_stays_next names later t.pools view p comes up;
    areas_go_on = go_on names later t.pools view p comes up;
    placed = instances_next names later t.pools view p comes up;
    code = leads_p by_exports;
    breakpoints = traces.stands;
    used = used_kept names later t.pools view p comes up;
    areas = areas_next names later t.pools view p comes up traces.entries;
    fresh = record {
      fit = fresh_fits names later t.pools view p comes up;
      images = fresh_images names later t.pools view p comes up;
      areas = λ g q counts here k at. fresh_all names s change had.view view had.rest had.pools t.pools taken ready p up k at g q here;
      apart = apart_next names later t.pools view p comes up;
    };
  }

  -- the store of the root is allowed
  pub may_publish : index_laws.KeptByExports → (exports : List Mfa) → exports ≡ names → MayPublishTerms (IsServed names) t.terms view (restaged view (generation_of exports later) (areas_in t.pools))
  may_publish by_exports exports same = subst (λ (ns : List Mfa). MayPublishTerms (IsServed names) t.terms view (restaged view (generation_of ns later) (areas_in t.pools))) (sym same) (may by_exports)

  -- ---- it is stored

  -- the tables are the writer's still, and the words stand for the new state
  pub record ArePublished (new : Tables) (generation : ℕ) : Type 0 where
    pub tables : AreTablesOf table opening new
    pub published : HasPublished names later t new generation

  pub are_published : (new : Tables) (generation : ℕ) (exports : List Mfa) → exports ≡ names → index_laws.KeptByExports → index_laws.KeptByRoots → index_laws.KeptByCounters → IsWriterOf table opening new.writer → IsTableOf new.terms (written_by new.writer) → t.index ≡ indices.Nothing → new.index ≡ t.index → new.pools ≡ t.pools → new.patch ≡ t.patch
      → published.HasPublished t.terms new.terms (restaged view (generation_of exports later) (areas_in t.pools)) view (written_by new.writer) generation → ArePublished new generation
  are_published new generation exports names_are by_exports by_roots by_counters token terms nothing index pools patch done = record {
    tables = record {
      token = token;
      index = subst (λ x. IsIndexOf x (written_by new.writer)) (sym (index ∙ nothing)) ((by_counters indices.Nothing (with_next p view) (written_by new.writer) loaded).owned index_next);
      terms = terms;
      pools = subst (λ (x : Areas). AreOf x (written_by new.writer)) (sym pools) (subst (AreOf t.pools) (sym loaded.view) (kept_counted t.pools (with_next p view) done.counter done.rising (owned_next t.pools view own.pools p (is_listed names later t.pools view p comes up))));
      patch = rests new.patch (written_by new.writer) (patch ∙ had.patch) (subst BreakpointsRest (sym loaded.view) (rest_counted (with_next p view) done.counter done.rising traces.settled));
    };
    published = record {
      next = p;
      shows = refl;
      published = ap (λ (v : WriterView). v.published) loaded.view;
      number = done.number;
      rest = record {
        stands = subst (λ (x : Areas). StandFor names later x (written_by new.writer)) (sym pools) (subst (StandFor names later t.pools) (sym loaded.view) (stands_counted _ done.counter (with_next p view) names later t.pools (stands_next names later t.pools view p comes up comes.bp)));
        staged = record { index = index ∙ nothing; terms = ap (λ (x : Terms). x.staged) done.tables; patch = patch ∙ had.patch };
      };
    };
  }
    where
      loaded : HasLoadedCounter (with_next p view) (written_by new.writer)
      loaded = record { counter = done.counter; range = done.range; rising = done.rising; view = done.view ∙ ap (λ (ns : List Mfa). counter_kept done.counter (with_next (restaged view (generation_of ns later) (areas_in t.pools)) view)) names_are }

      index_next : IsIndexOf indices.Nothing (with_next p view)
      index_next = by_roots view p refl (leads_p by_exports) (λ k at. (fresh_fits names later t.pools view p comes up k at).first) (subst (λ x. IsIndexOf x view) nothing own.index)

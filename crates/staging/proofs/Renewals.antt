-- A change that leaves code and keys is published over the blocks of the newest generation: the store of the root is allowed, and what it leaves.
use Rattle.std.proofs.Common.{◌≡◌, ℕ, ◌≤◌, List, length, None, refl, sym, ap, subst, ◌∙◌}
use Rattle.atomic_table.specs.Seated.{TableId}
use Rattle.term_core.specs.declared.area.AreaRef.{AreaRef}
use Rattle.term_core.specs.declared.atom.Mfa.{Mfa}
use Rattle.term_core.specs.declared.generation.Generation.{Generation}
use Rattle.area_core.specs.declared.table.KeptArea.{KeptArea}
use Rattle.area_core.specs.declared.table.Published.{Published}
use Rattle.area_core.specs.Blocks.{Among, RootFits}
use Rattle.area_core.specs.Roots.{fresh_areas}
use Rattle.area_core.specs.Step.{to_publish}
use Rattle.marks.specs.declared.kept.LookKind.TheVariants.{Frame}
use Rattle.shared_words.specs.declared.opening.Opening.{Opening}
use Rattle.shared_words.specs.declared.view.WriterView.{WriterView}
use Rattle.shared_words.specs.Drops.{drop_of, with_drop}
use Rattle.shared_words.specs.Publishing.{MayPublish, with_next}
use Rattle.progress_words.specs.declared.roots.RootParts.{RootParts}
use Rattle.progress_words.specs.Roots.{IsNewestRoot, newest_of}
use Rattle.progress_words.specs.Tokens.{IsWriterOf, written_by}
use Rattle.server_core.specs.Generations.{generation_of}
use Rattle.server_core.specs.ServerState.{ServerState, dispatch_of}
use Rattle.breakpoints.specs.Indices.{BreakpointsRest}
use Rattle.breakpoints.specs.Laws.{TracesStand}
use Rattle.code_law.specs.Served.{IsServed}
use Rattle.change_laws.specs.Uses.{IsUsed}
use Rattle.code_index.specs.declared.index.Staging.TheVariants as indices
use Rattle.code_index.specs.Exports.{LeadTo}
use Rattle.code_index.specs.Laws as index_laws
use Rattle.code_index.specs.Staging.{IsIndexOf, active_index}
use Rattle.literal_areas.specs.declared.areas.Areas.{Areas}
use Rattle.literal_areas.specs.declared.blocks.BlockUse.TheVariants.{Live}
use Rattle.literal_areas.specs.Blocks.{Stands}
use Rattle.literal_areas.specs.Owned.{AreOf}
use Rattle.literal_areas.proofs.Listed.{owned_next}
use Rattle.literal_areas.proofs.Serials.{serial_here}
use Rattle.term_table.specs.Laws as table_laws
use Rattle.term_table.specs.Laws.{KeepsKeys}
use Rattle.term_table.specs.Tables.{IsTableOf, Terms, active_table, words_in}
use Rattle.area_core.specs.Terms.{TermsStand}
use Rattle.staging.specs.declared.tables.Tables.{Tables}
use Rattle.staging.specs.Renewed.{renewed}
use Rattle.staging.specs.Stages.{HasPublished, NothingStaged}
use Rattle.staging.specs.Standing.{AreKeysOnce, IsShownBy, StandFor}
use Rattle.staging.specs.Upcoming.{IsUpcoming, areas_in}
use Rattle.staging.specs.Whose.{AreTablesOf}
use Rattle.staging.proofs.Coming.{ComesNext, IsFresh, TracesAlike}
use Rattle.staging.proofs.KeptExports.{leads}
use Rattle.staging.proofs.Looked.{index_looked, pools_looked, stands_looked, table_looked}
use Rattle.staging.proofs.NextAreas.{apart_next, fresh_comes, go_on, next_listed, used_kept}
use Rattle.staging.proofs.NextStands.{is_listed, stands_next}
use Rattle.staging.proofs.NextStays.{old_stays_next, retired_stays_next, served_next}
use Rattle.staging.proofs.NextTraces.{traces_next}
use Rattle.staging.proofs.NextWords.{areas_next, fresh_fits, fresh_images, instances_next}
use Rattle.staging.proofs.Patched.{rest_looked, rest_of, rests}
use Rattle.staging.proofs.SameKeys.{keys_stay, terms_stay}

-- ---- the root as it was loaded

module _ (Served : Published → Type 0) (w : WriterView) (state : Generation) (areas : List AreaRef) (now : WriterView) (same : now ≡ w) (parts : RootParts) (root : IsNewestRoot w parts) where
  over_is : to_publish parts.code parts.bp parts.term state areas ≡ renewed w state areas
  over_is i = to_publish (root.code i) (root.bp i) (root.term i) state areas

  pub may_over : MayPublish Served w (renewed w state areas) → MayPublish Served now (to_publish parts.code parts.bp parts.term state areas)
  may_over may = subst (λ (z : WriterView × Published). MayPublish Served z.0 z.1) (λ i. (sym same i, sym over_is i)) may

  pub stored_over : (later : WriterView) → later ≡ with_next (to_publish parts.code parts.bp parts.term state areas) now → later ≡ with_next (renewed w state areas) w
  stored_over later is = is ∙ (λ i. with_next (over_is i) (same i))

  -- and the drop of an instance is kept besides
  pub dropped_over : (serial : ℕ) (later : WriterView) → later ≡ with_drop (drop_of now Frame serial) (with_next (to_publish parts.code parts.bp parts.term state areas) now) → later ≡ with_drop (drop_of w Frame serial) (with_next (renewed w state areas) w)
  dropped_over serial later is = is ∙ (λ i. with_drop (drop_of (same i) Frame serial) (with_next (over_is i) (same i)))

-- ---- what holds before the store

-- the state may be published after this one: calls reach what they reached, keys hold what they held, and nothing comes in
pub record IsRenewed (names : List Mfa) (s after : ServerState) (pools : Areas) (w : WriterView) : Type 0 where
  pub comes : ComesNext names after pools w
  pub alike : TracesAlike after w
  pub shown : IsShownBy names s (newest_of w)
  pub once : AreKeysOnce s.keys
  pub calls : (to : Mfa) → dispatch_of after to ≡ dispatch_of s to
  pub keys : after.keys ≡ s.keys
  pub listed : (a : AreaRef) → Among (newest_of w).areas a → IsUsed s a.serial → Stands pools a
  pub stood : (a : AreaRef) → Stands pools a → (words : List ℕ) × Among w.kept (record { area = a; words = words })

module _ (names : List Mfa) (s after : ServerState) (table : TableId) (opening : Opening) (t : Tables) (own : AreTablesOf table opening t) (is : IsRenewed names s after t.pools (written_by t.writer)) (none : t.patch ≡ None) where
  abbrev view : WriterView
  view = written_by t.writer

  abbrev p : Published
  p = renewed view (generation_of names after) (areas_in t.pools)

  up : IsUpcoming names after t.pools p
  up = record { state = refl; areas = refl }

  listed : (a : AreaRef) → Among (newest_of view).areas a → IsUsed s a.serial → Among p.areas a
  listed a among used = next_listed names after t.pools view p is.comes up a (is.listed a among used)

  leads_p : index_laws.KeptByExports → LeadTo view.words (active_index view) p
  leads_p alike = leads names s after view p is.shown refl is.calls listed alike own.index.active

  terms_p : TermsStand (words_in view.words (active_table view)) p
  terms_p = terms_stay names s after view p is.shown is.once refl is.keys listed (words_in view.words (active_table view)) own.terms.active

  keeps_keys : KeepsKeys view p
  keeps_keys = record { table = refl; stands = terms_p; counted = own.terms.counted ∙ ap length (sym (keys_stay names s after view p is.shown is.once refl is.keys listed)) }

  -- the breakpoint index says what it traces
  traces : TracesStand view p
  traces = traces_next names after t.pools view p is.comes up is.alike (rest_of t.patch view none own.patch) refl

  fits : RootFits p.root
  fits = record { code = own.index.fits; bp = is.comes.bp; term = own.terms.fits }

  -- nothing comes in
  none_fresh : (k : KeptArea) → Among (fresh_areas view.kept p) k → ⊥
  none_fresh k at =
      let fresh : IsFresh after t.pools view k.area k.words = (fresh_comes names after t.pools view p is.comes up k at).0 in
      let kept = is.stood k.area (serial_here t.pools k.area.block (Live k.area.serial) fresh.live) in
      fresh.unpublished.kept (record { area = k.area; words = kept.0 }) kept.1 refl

  -- the store of the root is allowed
  may : index_laws.KeptByExports → MayPublish (IsServed names) view p
  may alike = record {
    served = served_next names after t.pools view p is.comes up;
    old_stays = old_stays_next names after t.pools view p is.comes up;
    retired_stays = retired_stays_next names after t.pools view p is.comes up;
    areas_go_on = go_on names after t.pools view p is.comes up;
    stands = record {
      root = fits;
      placed = instances_next names after t.pools view p is.comes up;
      code = leads_p alike;
      breakpoints = traces.stands;
      terms = terms_p;
      used = used_kept names after t.pools view p is.comes up;
      areas = areas_next names after t.pools view p is.comes up traces.entries;
    };
    fresh = record {
      fit = fresh_fits names after t.pools view p is.comes up;
      images = fresh_images names after t.pools view p is.comes up;
      areas = λ g q counts here k at. absurd (none_fresh k at);
      apart = apart_next names after t.pools view p is.comes up;
    };
  }

  pub may_renew : index_laws.KeptByExports → (exports : List Mfa) → exports ≡ names → MayPublish (IsServed names) view (renewed view (generation_of exports after) (areas_in t.pools))
  may_renew alike exports same = subst (λ (ns : List Mfa). MayPublish (IsServed names) view (renewed view (generation_of ns after) (areas_in t.pools))) (sym same) (may alike)

  -- ---- it is stored

  -- the tables are the writer's still, and the words stand for the new state
  pub record AreRenewed (new : Tables) (generation : ℕ) : Type 0 where
    pub tables : AreTablesOf table opening new
    pub published : HasPublished names after t new generation

  -- what is as it was in the tables, by what laws, and what the call says
  pub record HasRenewed (exports : List Mfa) (new : Tables) (generation : ℕ) : Type 0 where
    pub named : exports ≡ names
    pub alike : index_laws.KeptByExports
    pub by_roots : index_laws.KeptByRoots
    pub tables_by_roots : table_laws.KeptByRoots
    pub nothing : NothingStaged t
    pub index : new.index ≡ t.index
    pub terms : new.terms ≡ t.terms
    pub pools : new.pools ≡ t.pools
    pub patch : new.patch ≡ t.patch
    pub token : IsWriterOf table opening new.writer
    -- what is kept of looks may be more
    pub stored : written_by new.writer ≡ record (with_next (renewed view (generation_of exports after) (areas_in t.pools)) view) { looks = (written_by new.writer).looks }
    pub number : generation ≡ length view.published

  pub are_renewed : (exports : List Mfa) (new : Tables) (generation : ℕ) → HasRenewed exports new generation → AreRenewed new generation
  are_renewed exports new generation said = record {
    tables = record {
      token = said.token;
      index = subst (λ x. IsIndexOf x (written_by new.writer)) (sym (said.index ∙ said.nothing.index)) (subst (IsIndexOf indices.Nothing) (sym stored) (index_looked (with_next p view) (written_by new.writer).looks indices.Nothing index_next));
      terms = subst (λ x. IsTableOf x (written_by new.writer)) (sym said.terms) (subst (IsTableOf t.terms) (sym stored) (table_looked (with_next p view) (written_by new.writer).looks t.terms ((said.tables_by_roots t.terms view p keeps_keys first).owned own.terms)));
      pools = subst (λ (x : Areas). AreOf x (written_by new.writer)) (sym said.pools) (subst (AreOf t.pools) (sym stored) (pools_looked (with_next p view) (written_by new.writer).looks t.pools (owned_next t.pools view own.pools p (is_listed names after t.pools view p is.comes up))));
      patch = rests new.patch (written_by new.writer) (said.patch ∙ none) (subst BreakpointsRest (sym stored) (rest_looked (with_next p view) (written_by new.writer).looks traces.settled));
    };
    published = record {
      next = p;
      shows = refl;
      published = ap (λ (v : WriterView). v.published) stored;
      number = said.number;
      rest = record {
        stands = subst (λ (x : Areas). StandFor names after x (written_by new.writer)) (sym said.pools)
            (subst (StandFor names after t.pools) (sym stored) (stands_looked (with_next p view) (written_by new.writer).looks names after t.pools (stands_next names after t.pools view p is.comes up is.comes.bp)));
        staged = record { index = said.index ∙ said.nothing.index; terms = ap (λ (x : Terms). x.staged) said.terms ∙ said.nothing.terms; patch = said.patch ∙ none };
      };
    };
  }
    where
      first : (k : KeptArea) → Among (fresh_areas view.kept p) k → 9 ≤ k.area.block
      first k at = (fresh_fits names after t.pools view p is.comes up k at).first

      stored : written_by new.writer ≡ record (with_next p view) { looks = (written_by new.writer).looks }
      stored = said.stored ∙ ap (λ (ns : List Mfa). record (with_next (renewed view (generation_of ns after) (areas_in t.pools)) view) { looks = (written_by new.writer).looks }) said.named

      index_next : IsIndexOf indices.Nothing (with_next p view)
      index_next = said.by_roots view p refl (leads_p said.alike) first (subst (λ x. IsIndexOf x view) said.nothing.index own.index)

-- Exports are staged name by name, from what the newest generation exports to what the change leaves.
use Rattle.std.proofs.Common.{◌≡◌, ℕ, zero, ◌+◌, inl, inr, List, length, Option, Some, None, refl, sym, ap, subst, ◌∙◌}
use Rattle.std.specs.Prelude.{slice_get}
use Rattle.std.specs.Option.{option_and_then, option_map}
use Rattle.std.proofs.lemmas.Option.{slice_get-map}
use Rattle.prgr_core.proofs.Parts.{and_then_some, some_same}
use Rattle.atomic_table.specs.Seated.{TableId}
use Rattle.term_core.specs.declared.area.AreaRef.{AreaRef}
use Rattle.term_core.specs.declared.area.CodeRef.{CodeRef}
use Rattle.term_core.specs.declared.atom.Mfa.{Mfa}
use Rattle.term_core.specs.declared.generation.FunctionRef.{FunctionRef}
use Rattle.mod_core.specs.declared.code.Module.{Module}
use Rattle.area_core.specs.declared.table.Published.{Published}
use Rattle.area_core.specs.Blocks.{Among}
use Rattle.shared_words.specs.declared.opening.Opening.{Opening}
use Rattle.shared_words.specs.declared.view.WriterView.{WriterView}
use Rattle.progress_words.specs.Roots.{newest_of}
use Rattle.progress_words.specs.Tokens.{written_by}
use Rattle.server_core.specs.declared.change.Change.{Change}
use Rattle.server_core.specs.Decided.{Fits, change_made}
use Rattle.server_core.specs.Generations.{function_ref}
use Rattle.server_core.specs.ServerState.{Entry, IsSound, ServerState, code_of, current_of, dispatch_of, empty_state, export_of}
use Rattle.code_index.specs.Exports.{ExportsWith, export_at}
use Rattle.code_index.specs.Laws as indices
use Rattle.code_index.specs.Staging.{IsStaged, Stages}
use Rattle.staging.specs.declared.tables.Tables.{Tables}
use Rattle.staging.specs.Exported.{AreExported, reached_after}
use Rattle.change_laws.specs.Changes.{incoming}
use Rattle.change_laws.specs.Uses.{IsUsed}
use Rattle.staging.specs.Placed.{with_areas}
use Rattle.staging.specs.Stages.{HavePlaced}
use Rattle.staging.specs.Standing.{IsShownBy}
use Rattle.staging.specs.Upcoming.{areas_in}
use Rattle.staging.specs.Whose.{AreTablesOf, KeepsKnown, StoresExports}
use Rattle.staging.proofs.IndexStores.{placed_still}
use Rattle.staging.proofs.AreasIn.{stands_listed}
use Rattle.staging.proofs.Known.{known_on, known_words}
use Rattle.staging.proofs.Mixed.{all_changed, all_kept, between, next_changed, none_changed, reached_in_state}
use Rattle.staging.proofs.Reaching.{CallLaws, changed_reaches, other_reaches}
use Rattle.staging.proofs.Taken.{stands_taken}

abbrev entry_of : Option (Option FunctionRef) → Option FunctionRef
entry_of o = option_and_then (λ e. e) o

-- ---- what a name reaches is current code

abbrev entry_in : ℕ → Mfa → Module → Option Entry
entry_in serial to m = option_map (λ i. record { serial = serial; function = i }) (export_of m to)

abbrev entry_from : ServerState → Mfa → ℕ → Option Entry
entry_from s to serial = option_and_then (entry_in serial to) (code_of s serial)

serial_in : (serial : ℕ) (o : Option ℕ) (e : Entry) → option_map {U = Entry} (λ i. record { serial = serial; function = i }) o ≡ Some e → serial ≡ e.serial
serial_in serial None e is = absurd (cc)
serial_in serial (Some i) e is = ap (λ (x : Entry). x.serial) (some_same (record { serial = serial; function = i }) e is)

pub serial_current : (s : ServerState) (to : Mfa) (e : Entry) → dispatch_of s to ≡ Some e → current_of s to.«module».0 ≡ Some e.serial
serial_current s to e is =
    let current = and_then_some (entry_from s to) (current_of s to.«module».0) e is in
    let code = and_then_some (entry_in current.0 to) (code_of s current.0) e current.2 in
    current.1 ∙ ap Some (serial_in current.0 (export_of code.0 to) e code.2)

-- ---- what the newest generation exports

module _ (names : List Mfa) (s : ServerState) where
  -- what a number reaches
  abbrev reached_at : ℕ → Option FunctionRef
  reached_at k = entry_of (option_map (reached_in_state s) (slice_get names k))

  -- by the state that it was made of, from which areas alone were released since
  by_stood : (stood : ServerState) (o : Option Mfa) → ((to : Mfa) → dispatch_of s to ≡ dispatch_of stood to) → entry_of (option_map (reached_in_state stood) o) ≡ entry_of (option_map (reached_in_state s) o)
  by_stood stood None same = refl
  by_stood stood (Some to) same = ap (option_map function_ref) (sym (same to))

  by_empty : (stood : ServerState) (o : Option Mfa) → stood ≡ empty_state → ((to : Mfa) → dispatch_of s to ≡ dispatch_of stood to) → None ≡ entry_of (option_map (reached_in_state s) o)
  by_empty stood None is same = refl
  by_empty stood (Some to) is same = ap (option_map function_ref) (sym (same to ∙ ap (λ (x : ServerState). dispatch_of x to) is))

  pub newest_exports : (p : Published) → IsShownBy names s p → (k : ℕ) → export_at p k ≡ reached_at k
  newest_exports p shown k =
      elim shown.shows as (λ _. export_at p k ≡ reached_at k) [
        | inl is ↦ ap (λ g. entry_of (slice_get g.exports k)) is ∙ ap entry_of (slice_get-map (reached_in_state shown.stood) names k) ∙ by_stood shown.stood (slice_get names k) same
        | inr empty ↦ ap (λ (x : Published). export_at x k) empty.0 ∙ by_empty shown.stood (slice_get names k) empty.1 same
      ]
    where
      same : (to : Mfa) → dispatch_of s to ≡ dispatch_of shown.stood to
      same to = ap (λ (x : ServerState). dispatch_of x to) shown.since.same

  pub reached_used : (k : ℕ) (to : FunctionRef) (n : ℕ) → reached_at k ≡ Some to → n ≡ to.serial → IsUsed s n
  reached_used k to n e is = by_name (slice_get names k) e
    where
      by_entry : (name : Mfa) (o : Option Entry) → dispatch_of s name ≡ o → option_map function_ref o ≡ Some to → IsUsed s n
      by_entry name None found e = absurd (cc)
      by_entry name (Some entry) found e = inl (name.«module».0, serial_current s name entry found ∙ ap Some (ap (λ (x : FunctionRef). x.serial) (some_same (function_ref entry) to e) ∙ sym is))

      by_name : (o : Option Mfa) → entry_of (option_map (reached_in_state s) o) ≡ Some to → IsUsed s n
      by_name None e = absurd (cc)
      by_name (Some name) e = by_entry name (dispatch_of s name) refl e

-- ---- so many names are staged

pub record StagesOn (table : TableId) (opening : Opening) (names : List Mfa) (s : ServerState) (change : Change) (first now : Tables) (taken : List AreaRef) (n : ℕ) : Type 0 where
  pub tables : AreTablesOf table opening now
  pub exports : now.exports ≡ names
  pub placed : HavePlaced names s change now taken
  pub staged : IsStaged now.index
  pub published : (written_by now.writer).published ≡ (written_by first.writer).published
  pub known : KeepsKnown (written_by first.writer) (written_by now.writer)
  pub leads : (p : Published) → p.areas ≡ areas_in now.pools → Stages now.index (between names s (change_made s change).state n p) (written_by now.writer)

module _ (table : TableId) (opening : Opening) (names : List Mfa) (s : ServerState) (change : Change) (first old new : Tables) (taken : List AreaRef) (tables : AreTablesOf table opening new) (exports : new.exports ≡ old.exports) (terms : new.terms ≡ old.terms) (pools : new.pools ≡ old.pools) (patch : new.patch ≡ old.patch) (staged : IsStaged new.index)
    (stores : StoresExports (written_by old.writer) (written_by new.writer)) (alike : indices.KeptByExports) where
  abbrev after : ServerState
  after = (change_made s change).state

  published : (written_by new.writer).published ≡ (written_by old.writer).published
  published = ap (λ (w : WriterView). w.published) stores.same

  known : KeepsKnown (written_by old.writer) (written_by new.writer)
  known = known_words (written_by old.writer) (written_by new.writer) stores.same

  -- none yet
  pub stages_begun : HavePlaced names s change old taken → old.exports ≡ names → first ≡ old → Stages new.index (newest_of (written_by old.writer)) (written_by new.writer) → StagesOn table opening names s change first new taken zero
  stages_begun had exports_were is_first leads = record {
    tables = tables;
    exports = exports ∙ exports_were;
    placed = placed_still names s change old new taken pools terms patch stores had;
    staged = staged;
    published = published ∙ ap (λ (t : Tables). (written_by t.writer).published) (sym is_first);
    known = subst (λ (t : Tables). KeepsKnown (written_by t.writer) (written_by new.writer)) (sym is_first) known;
    leads = λ p areas. alike new.index (written_by new.writer) (newest_of (written_by old.writer)) (between names s after zero p) (none_changed names s after (newest_of (written_by old.writer)) p shows (listed p areas)) leads;
  }
    where
      shows : (k : ℕ) → export_at (newest_of (written_by old.writer)) k ≡ reached_at names s k
      shows = newest_exports names s (newest_of (written_by old.writer)) had.stands.newest_is

      listed : (p : Published) → p.areas ≡ areas_in new.pools → (k : ℕ) (to : FunctionRef) (a : AreaRef) → export_at (newest_of (written_by old.writer)) k ≡ Some to → Among (newest_of (written_by old.writer)).areas a → a.serial ≡ to.serial → Among p.areas a
      listed p areas k to a exported among serial =
          let stands = had.stands.listed a among (reached_used names s k to a.serial (sym (shows k) ∙ exported) serial) in
          subst (λ (xs : List AreaRef). Among xs a) (ap areas_in (sym had.placed.pools_are ∙ sym pools) ∙ sym areas) (stands_listed (with_areas taken had.rest) a (stands_taken taken had.rest a had.placed.taken_are stands))

  -- one more
  module _ (laws : CallLaws) (sound : IsSound s) (fits : Fits s change) (whole : length taken ≡ length (incoming change)) (n : ℕ) (h : StagesOn table opening names s change first old taken n) (index : new.index ≡ old.index)
      (changed : (to : Mfa) (reached : Option CodeRef) → slice_get old.exports n ≡ Some to → reached_after change taken to ≡ Some reached → (p q : Published) → Stages old.index p (written_by old.writer) → ExportsWith n reached p q → Stages new.index q (written_by new.writer))
      (other : ((to : Mfa) → slice_get old.exports n ≡ Some to → reached_after change taken to ≡ None) → written_by new.writer ≡ written_by old.writer) where
    -- the change is not about the next name
    stays : ((to : Mfa) → slice_get old.exports n ≡ Some to → reached_after change taken to ≡ None) → (p : Published) → p.areas ≡ areas_in old.pools → Stages new.index (between names s after (n + 1) p) (written_by new.writer)
    stays none p areas =
        subst (λ x. Stages x (between names s after (n + 1) p) (written_by new.writer)) (sym index)
        (subst (Stages old.index (between names s after (n + 1) p)) (sym (other none))
        (alike old.index (written_by old.writer) (between names s after n p) (between names s after (n + 1) p)
        (all_kept names s after n p
        (λ to is. other_reaches laws s sound taken h.placed.rest h.placed.stands.blocks.next h.placed.placed.taken_are to change whole (none to (ap (λ (ns : List Mfa). slice_get ns n) h.exports ∙ is))))
        (h.leads p areas)))

    next_leads : (p : Published) → p.areas ≡ areas_in old.pools → Stages new.index (between names s after (n + 1) p) (written_by new.writer)
    next_leads p areas = by_name (slice_get old.exports n) refl
      where
        by_reached : (to : Mfa) → slice_get old.exports n ≡ Some to → (o : Option (Option CodeRef)) → reached_after change taken to ≡ o → Stages new.index (between names s after (n + 1) p) (written_by new.writer)
        by_reached to is None none = stays (λ name also. ap (reached_after change taken) (some_same name to (sym also ∙ is)) ∙ none) p areas
        by_reached to is (Some r) reached =
            let reaches = changed_reaches laws s sound taken h.placed.rest h.placed.stands.blocks.next h.placed.placed.taken_are to change fits r reached in
            changed to r is reached (between names s after n p) (between names s after (n + 1) p) (h.leads p areas)
            (next_changed names s after n p to r (ap (λ (ns : List Mfa). slice_get ns n) (sym h.exports) ∙ is) reaches.same
            (λ at here. subst (λ (xs : List AreaRef). Among xs at.area) (ap areas_in (sym h.placed.placed.pools_are) ∙ sym areas) (reaches.placed at here)))

        by_name : (o : Option Mfa) → slice_get old.exports n ≡ o → Stages new.index (between names s after (n + 1) p) (written_by new.writer)
        by_name None is = stays (λ to there. absurd (nothing to (sym is ∙ there))) p areas
          where
            nothing : (to : Mfa) → None ≡ Some to → ⊥
            nothing to e = (cc)
        by_name (Some to) is = by_reached to is (reached_after change taken to) refl

    pub stages_more : StagesOn table opening names s change first new taken (n + 1)
    stages_more = record {
      tables = tables;
      exports = exports ∙ h.exports;
      placed = placed_still names s change old new taken pools terms patch stores h.placed;
      staged = staged;
      published = published ∙ h.published;
      known = known_on (written_by first.writer) (written_by old.writer) (written_by new.writer) h.known known;
      leads = λ p areas. next_leads p (areas ∙ ap areas_in pools);
    }

-- all of them
pub stages_whole : (table : TableId) (opening : Opening) (names : List Mfa) (s : ServerState) (change : Change) (first now : Tables) (taken : List AreaRef) → StagesOn table opening names s change first now taken 1024 → AreExported names s change now
stages_whole table opening names s change first now taken h p is = all_changed names s (change_made s change).state now.index (written_by now.writer) p is.state (h.leads p is.areas)

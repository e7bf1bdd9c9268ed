-- A step of the patch of a change of what is traced, up to the store of the root: what each answer leaves.
use Rattle.std.proofs.Common.{◌≡◌, ℕ, ◌<◌, ◌≤◌, inl, inr, true, List, [], ◌∷◌, ◌++◌, length, Option, Some, Result, Ok, Err, IfOk, IfErr, refl, sym, ap, subst, ◌∙◌, arith}
use Rattle.prgr_core.proofs.Parts.{some_same}
use Rattle.atomic_table.specs.Seated.{TableId}
use Rattle.term_core.specs.declared.area.AreaRef.{AreaRef}
use Rattle.term_core.specs.declared.atom.Mfa.{Mfa}
use Rattle.area_core.specs.declared.table.KeptArea.{KeptArea}
use Rattle.area_core.specs.declared.table.Published.{Published}
use Rattle.area_core.specs.Blocks.{Among, IsForInstances, UsedAreKept}
use Rattle.area_core.specs.Generations as generations
use Rattle.area_core.specs.Roots.{fresh_areas}
use Rattle.area_core.specs.Terms.{TermsStand}
use Rattle.shared_words.specs.declared.opening.Opening.{Opening}
use Rattle.shared_words.specs.declared.view.WriterView.{WriterView}
use Rattle.shared_words.specs.Publishing.{with_next}
use Rattle.progress_words.specs.declared.answers.NotYet.{NotYet}
use Rattle.progress_words.specs.Roots.{newest_of}
use Rattle.progress_words.specs.Tokens.{IsWriterOf, written_by}
use Rattle.server_core.specs.declared.change.Change.{Change}
use Rattle.server_core.specs.Decided.{Fits}
use Rattle.server_core.specs.Generations.{AreNumbered, generation_of}
use Rattle.server_core.specs.ServerState.{IsSound, ServerState}
use Rattle.code_law.specs.Served.{IsServed}
use Rattle.breakpoints.specs.declared.patch.Patch.{Patch}
use Rattle.breakpoints.specs.declared.patch.PatchStep.{PatchStep}
use Rattle.breakpoints.specs.declared.patch.PatchStep.TheVariants as patch_steps
use Rattle.breakpoints.specs.Patches.{IsPatchOf, IsUnpublished}
use Rattle.breakpoints.specs.Switched.{MaySwitch, PatchAnswers, PatchMoves, PatchSwitches, PatchWaits, switched_over}
use Rattle.breakpoints.proofs.Spots.{behind_fits}
use Rattle.change_laws.specs.Breakpoints.{TracesInCode}
use Rattle.change_laws.specs.Changes.{changed_state}
use Rattle.change_laws.specs.Uses.{IsUsed}
use Rattle.code_index.specs.Exports.{LeadTo}
use Rattle.code_index.specs.Laws as index_laws
use Rattle.code_index.specs.Staging.{IsIndexOf, active_index}
use Rattle.literal_areas.specs.declared.areas.Areas.{Areas}
use Rattle.literal_areas.specs.declared.blocks.BlockUse.TheVariants.{Live}
use Rattle.literal_areas.proofs.Listed.{owned_next}
use Rattle.literal_areas.proofs.Serials.{serial_here}
use Rattle.term_table.specs.Laws as table_laws
use Rattle.term_table.specs.Tables.{active_table, words_in}
use Rattle.staging.specs.declared.tables.Tables.{Tables}
use Rattle.staging.specs.declared.stage.Stage.TheVariants.{Patching}
use Rattle.staging.specs.Stages.{IsPatchFor, IsPatched, Waits}
use Rattle.staging.specs.Standing.{StandFor}
use Rattle.staging.specs.Traced.{AdvanceAnswers, IsPatchLate, NeedGoesOn, phases_left}
use Rattle.staging.specs.Upcoming.{IsUpcoming, areas_in}
use Rattle.staging.specs.Whose.{AreTablesOf, KeepsKnown, PatchStands}
use Rattle.staging.proofs.Coming.{ComesNext, IsFresh}
use Rattle.staging.proofs.Counted.{comes_counted, with_waits}
use Rattle.staging.proofs.Follows.{lives_in}
use Rattle.staging.proofs.KeptExports.{leads}
use Rattle.staging.proofs.Known.{known_next, known_on}
use Rattle.staging.proofs.NextAreas.{fresh_comes, go_on, listed_next, next_listed, used_kept}
use Rattle.staging.proofs.NextStands.{is_listed, stands_next}
use Rattle.staging.proofs.NextStays.{old_stays_next, retired_stays_next, served_next}
use Rattle.staging.proofs.NextTraces.{instance_next}
use Rattle.staging.proofs.NextWords.{instances_next, told_next}
use Rattle.staging.proofs.PatchNeeds.{need_kept, need_passed, need_reached, patch_late}
use Rattle.staging.proofs.PatchPhases.{HasStepped, append_none, calls_stay, keys_same, moves_before, none_is, not_last, patch_for_too, phase_for, settling_switched, stepped, tables_idle, unpublished_unfinished}
use Rattle.staging.proofs.PatchStores.{AreIdle, IsLater, idle_later, known_later, stands_later}
use Rattle.staging.proofs.SameKeys.{keys_stay, terms_stay}
use Rattle.staging.proofs.Traced.{function_of, trace_comes, trace_current, traces_with}

-- ---- before the store of the root

module _ (names : List Mfa) (s : ServerState) (change : Change) (table : TableId) (opening : Opening) (t : Tables) (own : AreTablesOf table opening t) (sound : IsSound s) (fits : Fits s change) (code : TracesInCode s change) (numbered : AreNumbered names (changed_state s change)) (had : IsPatched names s change t) (z : Patch) (is : t.patch ≡ Some z) where
  abbrev w : WriterView
  w = written_by t.writer

  abbrev after : ServerState
  after = changed_state s change

  abbrev p : Published
  p = switched_over w (generation_of names after) (areas_in t.pools)

  up : IsUpcoming names after t.pools p
  up = record { state = refl; areas = refl }

  same_patch : had.patch ≡ z
  same_patch = some_same had.patch z (sym had.is ∙ is)

  of : IsPatchFor change z
  of = subst (IsPatchFor change) same_patch had.of

  pub before : IsUnpublished z.phase
  before = subst (λ (x : Patch). IsUnpublished x.phase) same_patch had.before

  pub at_phase : IsPatchOf z w
  at_phase = subst (λ (o : Option Patch). PatchStands o w) is own.patch

  for : IsForInstances z.at.area.block × (z.at.function < 16)
  for = phase_for z.at z.on z.phase w (unpublished_unfinished z.phase before) at_phase

  idle : AreIdle t.terms t.pools w
  idle = record { index = subst (λ i. IsIndexOf i w) had.index own.index; terms = own.terms; unstaged = had.terms; pools = own.pools }

  comes : ComesNext names after t.pools w
  comes = trace_comes names s change t.pools w z of sound fits code numbered had.stands own.pools

  listed : (a : AreaRef) → Among (newest_of w).areas a → IsUsed s a.serial → Among p.areas a
  listed a among used = next_listed names after t.pools w p comes up a (had.stands.listed a among used)

  leads_p : index_laws.KeptByExports → LeadTo w.words (active_index w) p
  leads_p alike = leads names s after w p had.stands.newest_is refl (calls_stay s change z of) listed alike own.index.active

  terms_p : TermsStand (words_in w.words (active_table w)) p
  terms_p = terms_stay names s after w p had.stands.newest_is had.stands.keys_once refl (keys_same s change z of) listed (words_in w.words (active_table w)) own.terms.active

  -- nothing comes in
  fresh_none : (k : KeptArea) → Among (fresh_areas w.kept p) k → ⊥
  fresh_none k at =
      let fresh : IsFresh after t.pools w k.area k.words = (fresh_comes names after t.pools w p comes up k at).0 in
      let kept = had.stands.images.areas k.area (serial_here t.pools k.area.block (Live k.area.serial) fresh.live) in
      fresh.unpublished.kept (record { area = k.area; words = kept.0 }) kept.1 refl

  none_fresh : fresh_areas w.kept p ≡ []
  none_fresh = none_is (fresh_areas w.kept p) fresh_none

  instances : (a : AreaRef) → Among p.areas a → generations.is_instance p a.serial ≡ true → Among (newest_of w).areas a × (generations.is_instance (newest_of w) a.serial ≡ true)
  instances a among instance =
      elim (instance_next names after t.pools w p comes up a among instance) as (λ _. Among (newest_of w).areas a × (generations.is_instance (newest_of w) a.serial ≡ true)) [
        | inl was ↦ was
        | inr unkept ↦ absurd (
            let kept = had.stands.images.areas a (listed_next names after t.pools w p comes up a among) in
            unkept (record { area = a; words = kept.0 }) kept.1 refl)
      ]

  may : index_laws.KeptByExports → MaySwitch (IsServed names) z w p
  may alike = record {
    served = served_next names after t.pools w p comes up;
    old_stays = old_stays_next names after t.pools w p comes up;
    retired_stays = retired_stays_next names after t.pools w p comes up;
    areas_go_on = go_on names after t.pools w p comes up;
    placed = instances_next names after t.pools w p comes up;
    code = leads_p alike;
    terms = terms_p;
    used = subst (λ (kept : List KeptArea). UsedAreKept kept p) (ap (λ (ks : List KeptArea). w.kept ++ ks) none_fresh ∙ append_none w.kept) (used_kept names after t.pools w p comes up);
    none_fresh = none_fresh;
    apart = comes.apart;
    told = λ k at. told_next names after t.pools w p comes up k (own.pools.kept k at);
    traces = traces_with names s change z (newest_of w) p of had.stands.newest_is refl;
    patched = lives_in names after comes.sound z.at.area.serial (inl (trace_current s change z z.at.area.serial of (function_of s change z of code).current));
    instances = instances;
  }

  -- the store of the root is allowed
  pub may_switch : index_laws.KeptByExports → (exports : List Mfa) → exports ≡ names → MaySwitch (IsServed names) z w (switched_over w (generation_of exports after) (areas_in t.pools))
  may_switch alike exports same = subst (λ (ns : List Mfa). MaySwitch (IsServed names) z w (switched_over w (generation_of ns after) (areas_in t.pools))) (sym same) (may alike)

  -- ---- the answers

  -- what is as it was in the tables, by what laws, and what the call says
  pub record Advanced (exports : List Mfa) (new : Tables) (y : Patch) (r : Result PatchStep NotYet) : Type 0 where
    pub named : exports ≡ names
    pub alike : index_laws.KeptByExports
    pub by_index : index_laws.KeptByWrites
    pub by_terms : table_laws.KeptByWrites
    pub by_roots : index_laws.KeptByRoots
    pub tables_by_roots : table_laws.KeptByRoots
    pub index : new.index ≡ t.index
    pub terms : new.terms ≡ t.terms
    pub pools : new.pools ≡ t.pools
    pub patch : new.patch ≡ Some y
    pub token : IsWriterOf table opening new.writer
    pub at : y.at ≡ z.at
    pub on : y.on ≡ z.on
    pub stands : IsPatchOf y (written_by new.writer)
    pub answers : IfOk r (PatchAnswers z y (switched_over w (generation_of exports after) (areas_in t.pools)) w (written_by new.writer))
    pub waits : IfErr r (λ answer. PatchWaits z y w (written_by new.writer) answer)

  -- what the words stand for where nothing is published
  patched_still : (new : Tables) (y : Patch) → new.index ≡ t.index → new.terms ≡ t.terms → new.pools ≡ t.pools → new.patch ≡ Some y → y.at ≡ z.at → y.on ≡ z.on → IsUnpublished y.phase → HasStepped names s t (written_by new.writer) → IsPatched names s change new
  patched_still new y index terms pools patch at on first step = record {
    stands = subst (λ (x : Areas). StandFor names s x (written_by new.writer)) (sym pools) step.stands;
    index = index ∙ had.index;
    terms = ap (λ x. x.staged) terms ∙ had.terms;
    patch = y;
    is = patch;
    of = patch_for_too change z y at on of;
    before = first;
  }

  -- all that a store of the root leaves
  pub record HasStored (v : WriterView) : Type 0 where
    pub idle : AreIdle t.terms t.pools v
    pub stands : StandFor names after t.pools v
    pub published : v.published ≡ w.published ++ p ∷ []
    pub known : KeepsKnown w v

  module _ (alike : index_laws.KeptByExports) (by_index : index_laws.KeptByWrites) (by_terms : table_laws.KeptByWrites) (by_roots : index_laws.KeptByRoots) (tables_by_roots : table_laws.KeptByRoots) (y : Patch) (v : WriterView) (generation : ℕ) (done : PatchSwitches z y p w v generation) where
    abbrev u : WriterView
    u = with_waits done.waited.pairs done.waited.counter w

    waited_is : done.waited ≡ u
    waited_is = done.counted.view ∙ ap (λ (words : List ℕ). record w { words = words; pairs = done.waited.pairs; counter = done.waited.counter }) done.words

    step : HasStepped names s t done.waited
    step = stepped names s t z.at done.waited by_index by_terms for.0 for.1 idle had.stands done.counted

    idle_u : AreIdle t.terms t.pools u
    idle_u = subst (AreIdle t.terms t.pools) waited_is step.idle

    comes_u : ComesNext names after t.pools u
    comes_u = comes_counted done.waited.pairs done.waited.counter w names after t.pools idle_u.pools comes

    first : (k : KeptArea) → Among (fresh_areas w.kept p) k → 9 ≤ k.area.block
    first k at = absurd (fresh_none k at)

    idle_next : AreIdle t.terms t.pools (with_next p u)
    idle_next = record {
      index = by_roots u p refl (leads_p alike) first idle_u.index;
      terms = (tables_by_roots t.terms u p (record { table = refl; stands = terms_p; counted = own.terms.counted ∙ ap length (sym (keys_stay names s after w p had.stands.newest_is had.stands.keys_once refl (keys_same s change z of) listed)) }) first).owned idle_u.terms;
      unstaged = had.terms;
      pools = owned_next t.pools u idle_u.pools p (is_listed names after t.pools u p comes_u up);
    }

    later : IsLater (with_next p u) v
    later = record {
      view = done.view ∙ ap (λ (x : WriterView). record (with_next p x) { pairs = v.pairs; counter = v.counter }) waited_is;
      more = done.more;
      longer = done.longer;
      rising = done.rising;
    }

    stored : HasStored v
    stored = record {
      idle = idle_later t.terms t.pools (with_next p u) v later idle_next;
      stands = stands_later names after t.pools (with_next p u) v later (stands_next names after t.pools u p comes_u up (behind_fits (newest_of w).root.bp));
      published = ap (λ (x : WriterView). x.published) later.view;
      known = known_on w done.waited v step.known
          (known_on done.waited (with_next p done.waited) v (known_next done.waited p) (known_later (with_next p done.waited) v (record { view = done.view; more = done.more; longer = done.longer; rising = done.rising })));
    }

  -- what each answer leaves
  pub record IsAdvanced (new : Tables) (r : Result PatchStep NotYet) : Type 0 where
    pub tables : AreTablesOf table opening new
    pub answers : IfOk r (AdvanceAnswers names s change t new)
    pub waits : IfErr r (λ answer. Waits names s change t new Patching (IsPatchLate t new answer))
    pub need : NeedGoesOn t new
    pub known : KeepsKnown w (written_by new.writer)

  stands_patch : (exports : List Mfa) (new : Tables) (y : Patch) (r : Result PatchStep NotYet) → Advanced exports new y r → PatchStands new.patch (written_by new.writer)
  stands_patch exports new y r said = subst (λ (o : Option Patch). PatchStands o (written_by new.writer)) (sym said.patch) said.stands

  pub advanced : (exports : List Mfa) (new : Tables) (y : Patch) (r : Result PatchStep NotYet) → Advanced exports new y r → IsAdvanced new r
  advanced exports new y (Ok patch_steps.Moved) said =
      let moves : PatchMoves z y w (written_by new.writer) = said.answers in
      let step = stepped names s t z.at (written_by new.writer) said.by_index said.by_terms for.0 for.1 idle had.stands moves.patched in
      let next = moves_before z.on z.phase y.phase before moves.next in
      record {
        tables = tables_idle table opening t new had.index said.index said.terms said.pools said.token step.idle (stands_patch exports new y (Ok patch_steps.Moved) said);
        answers = record {
          published = step.published;
          patched = patched_still new y said.index said.terms said.pools said.patch said.at said.on next.0 step;
          fewer = subst (λ (o : Option Patch × Option Patch). phases_left o.0 < phases_left o.1) (λ i. (sym said.patch i, sym is i)) next.1;
        };
        waits = tt;
        need = need_passed t new z is moves.patched moves.reached;
        known = step.known;
      }
  advanced exports new y (Ok (patch_steps.Published generation)) said =
      let done : PatchSwitches z y p w (written_by new.writer) generation = subst (λ (ns : List Mfa). PatchSwitches z y (switched_over w (generation_of ns after) (areas_in t.pools)) w (written_by new.writer) generation) said.named said.answers in
      let all = stored said.alike said.by_index said.by_terms said.by_roots said.tables_by_roots y (written_by new.writer) generation done in
      record {
        tables = tables_idle table opening t new had.index said.index said.terms said.pools said.token all.idle (stands_patch exports new y (Ok (patch_steps.Published generation)) said);
        answers = record {
          next = p;
          shows = refl;
          published = all.published;
          number = done.number;
          settling = record {
            stands = subst (λ (x : Areas). StandFor names after x (written_by new.writer)) (sym said.pools) all.stands;
            index = said.index ∙ had.index;
            terms = ap (λ x. x.staged) said.terms ∙ had.terms;
            patch = y;
            is = said.patch;
            behind = settling_switched y.phase done.need done.phase;
          };
        };
        waits = tt;
        need = need_reached t new z done.waited is (let first = done.counted.rising in let second = done.rising in omega (arith, first, second)) all.known.longer done.rising done.reached;
        known = all.known;
      }
  advanced exports new y (Ok patch_steps.Finished) said = absurd (not_last z.on z.phase before said.answers.last)
  advanced exports new y (Err answer) said =
      let waits : PatchWaits z y w (written_by new.writer) answer = said.waits in
      let step = stepped names s t z.at (written_by new.writer) said.by_index said.by_terms for.0 for.1 idle had.stands waits.patched in
      record {
        tables = tables_idle table opening t new had.index said.index said.terms said.pools said.token step.idle (stands_patch exports new y (Err answer) said);
        answers = tt;
        waits = record {
          published = step.published;
          stands = patched_still new y said.index said.terms said.pools said.patch said.at said.on (subst (λ (x : Patch). IsUnpublished x.phase) (sym waits.same) before) step;
          why = patch_late t new y z answer is said.patch said.stands waits;
        };
        need = need_kept t new y z is said.patch waits.same waits.patched.rising waits.patched.longer;
        known = step.known;
      }

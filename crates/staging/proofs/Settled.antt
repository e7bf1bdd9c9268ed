-- A step of a patch behind the store of the root: what each answer leaves, whatever state the words stand for.
use Rattle.std.proofs.Common.{◌≡◌, ◌<◌, Bool, true, false, List, Option, Some, None, Result, Ok, Err, IfOk, IfErr, refl, sym, ap, subst, ◌∙◌}
use Rattle.prgr_core.proofs.Parts.{some_same}
use Rattle.atomic_table.specs.Seated.{TableId}
use Rattle.term_core.specs.declared.atom.Mfa.{Mfa}
use Rattle.area_core.specs.declared.table.Published.{Published}
use Rattle.area_core.specs.Blocks.{IsForInstances}
use Rattle.shared_words.specs.declared.opening.Opening.{Opening}
use Rattle.shared_words.specs.declared.view.WriterView.{WriterView}
use Rattle.progress_words.specs.declared.answers.NotYet.{NotYet}
use Rattle.progress_words.specs.Tokens.{IsWriterOf, written_by}
use Rattle.server_core.specs.ServerState.{ServerState}
use Rattle.breakpoints.specs.declared.patch.Patch.{Patch}
use Rattle.breakpoints.specs.declared.patch.PatchStep.{PatchStep}
use Rattle.breakpoints.specs.declared.patch.PatchStep.TheVariants as patch_steps
use Rattle.breakpoints.specs.declared.patch.Phase.{Phase}
use Rattle.breakpoints.specs.declared.patch.Phase.TheVariants.{Begun, Staged, Entered, Published as IsSwitched, Restored, Finished}
use Rattle.breakpoints.specs.Indices.{BreakpointsRest}
use Rattle.breakpoints.specs.Patches.{HasPatched, IsLastPhase, IsPatchOf, IsSettling, MovesTo, PhaseStands, Switches}
use Rattle.breakpoints.specs.Switched.{PatchAnswers, PatchEnds, PatchMoves, PatchWaits}
use Rattle.code_index.specs.Laws as index_laws
use Rattle.code_index.specs.Staging.{IsIndexOf}
use Rattle.literal_areas.specs.declared.areas.Areas.{Areas}
use Rattle.term_table.specs.Laws as table_laws
use Rattle.staging.specs.declared.tables.Tables.{Tables}
use Rattle.staging.specs.Stages.{AreAtRest, AreSettling}
use Rattle.staging.specs.Standing.{StandFor}
use Rattle.staging.specs.Traced.{IsAtLast, NeedGoesOn, SettleAnswers, Settles, patch_left}
use Rattle.staging.specs.Whose.{AreTablesOf, KeepsKnown, PatchStands}
use Rattle.staging.proofs.PatchNeeds.{late_from, need_kept, need_passed, patch_late}
use Rattle.staging.proofs.PatchPhases.{HasStepped, phase_for, stepped, tables_idle}
use Rattle.staging.proofs.PatchStores.{AreIdle}

-- ---- phases

settling_unfinished : (phase : Phase) → IsSettling phase → phase ≡ Finished → ⊥
settling_unfinished phase is same = subst IsSettling same is

-- no root is stored behind it
no_switch : (on : Bool) (phase : Phase) → IsSettling phase → Switches on phase → ⊥
no_switch true (Entered need) is due = is
no_switch false (Staged need) is due = is
no_switch on phase is due = due

moves_behind : (on : Bool) (before after : Phase) → IsSettling before → MovesTo on before after → IsSettling after × IsLastPhase on after × (IsLastPhase on before → ⊥)
moves_behind false (IsSwitched n) (Restored need) is moves = (tt, tt, λ last. last)
moves_behind true Begun (Staged need) is moves = absurd is
moves_behind false Begun (Staged need) is moves = absurd is
moves_behind true (Staged n) (Entered need) is moves = absurd is
moves_behind on before after is moves = absurd moves

-- a patch that is finished leaves the indices at rest
at_end : (y : Patch) (w : WriterView) → y.phase ≡ Finished → IsPatchOf y w → BreakpointsRest w
at_end y w is stands = subst (λ (f : Phase). PhaseStands y.at y.on f w) is stands

module _ (names : List Mfa) (table : TableId) (opening : Opening) (t : Tables) (own : AreTablesOf table opening t) (settling : (s : ServerState) × AreSettling names s t) (z : Patch) (is : t.patch ≡ Some z) where
  abbrev w : WriterView
  w = written_by t.writer

  had : AreSettling names settling.0 t
  had = settling.1

  behind : IsSettling z.phase
  behind = subst (λ (x : Patch). IsSettling x.phase) (some_same had.patch z (sym had.is ∙ is)) had.behind

  pub at_phase : IsPatchOf z w
  at_phase = subst (λ (o : Option Patch). PatchStands o w) is own.patch

  pub unfinished : z.phase ≡ Finished → ⊥
  unfinished = settling_unfinished z.phase behind

  pub no_root : {X : Type 0} → Switches z.on z.phase → X
  no_root due = absurd (no_switch z.on z.phase behind due)

  for : IsForInstances z.at.area.block × (z.at.function < 16)
  for = phase_for z.at z.on z.phase w unfinished at_phase

  idle : AreIdle t.terms t.pools w
  idle = record { index = subst (λ i. IsIndexOf i w) had.index own.index; terms = own.terms; unstaged = had.terms; pools = own.pools }

  -- what is as it was in the tables, by what laws, and what the call says
  pub record Goes (new : Tables) (p : Published) (y : Patch) (r : Result PatchStep NotYet) : Type 0 where
    pub by_index : index_laws.KeptByWrites
    pub by_terms : table_laws.KeptByWrites
    pub index : new.index ≡ t.index
    pub terms : new.terms ≡ t.terms
    pub pools : new.pools ≡ t.pools
    pub patch : new.patch ≡ patch_left r y
    pub token : IsWriterOf table opening new.writer
    pub on : y.on ≡ z.on
    pub stands : IsPatchOf y (written_by new.writer)
    pub answers : IfOk r (PatchAnswers z y p w (written_by new.writer))
    pub waits : IfErr r (λ answer. PatchWaits z y w (written_by new.writer) answer)

  module _ (new : Tables) (index : new.index ≡ t.index) (terms : new.terms ≡ t.terms) (pools : new.pools ≡ t.pools) (by_index : index_laws.KeptByWrites) (by_terms : table_laws.KeptByWrites) (patched : HasPatched z.at w (written_by new.writer)) where
    step : (s : ServerState) → StandFor names s t.pools w → HasStepped names s t (written_by new.writer)
    step s stands = stepped names s t z.at (written_by new.writer) by_index by_terms for.0 for.1 idle stands patched

    pub stands_new : (s : ServerState) → AreSettling names s t → StandFor names s new.pools (written_by new.writer)
    stands_new s was = subst (λ (x : Areas). StandFor names s x (written_by new.writer)) (sym pools) (step s was.stands).stands

    pub settles_on : (y : Patch) → new.patch ≡ Some y → IsSettling y.phase → (s : ServerState) → AreSettling names s t → AreSettling names s new
    settles_on y patch on s was = record {
      stands = stands_new s was;
      index = index ∙ was.index;
      terms = ap (λ x. x.staged) terms ∙ was.terms;
      patch = y;
      is = patch;
      behind = on;
    }

    pub rests_now : new.patch ≡ None → (s : ServerState) → AreSettling names s t → AreAtRest names s new
    rests_now patch s was = record { stands = stands_new s was; staged = record { index = index ∙ was.index; terms = ap (λ x. x.staged) terms ∙ was.terms; patch = patch } }

    pub one : HasStepped names settling.0 t (written_by new.writer)
    one = step settling.0 had.stands

    pub tables_new : IsWriterOf table opening new.writer → PatchStands new.patch (written_by new.writer) → AreTablesOf table opening new
    tables_new token patch = tables_idle table opening t new had.index index terms pools token one.idle patch

  -- what each answer leaves
  pub record HasGone (new : Tables) (r : Result PatchStep NotYet) : Type 0 where
    pub tables : AreTablesOf table opening new
    pub answers : IfOk r (SettleAnswers names t new)
    pub waits : IfErr r (λ answer. (s : ServerState) → AreSettling names s t → Settles names s t new answer)
    pub need : NeedGoesOn t new
    pub published : (written_by new.writer).published ≡ w.published
    pub known : KeepsKnown w (written_by new.writer)

  some_patch : (new : Tables) (y : Patch) → new.patch ≡ Some y → IsPatchOf y (written_by new.writer) → PatchStands new.patch (written_by new.writer)
  some_patch new y patch stands = subst (λ (o : Option Patch). PatchStands o (written_by new.writer)) (sym patch) stands

  pub gone_on : (new : Tables) (p : Published) (y : Patch) (r : Result PatchStep NotYet) → Goes new p y r → HasGone new r
  gone_on new p y (Ok patch_steps.Moved) said =
      let moves : PatchMoves z y w (written_by new.writer) = said.answers in
      let next = moves_behind z.on z.phase y.phase behind moves.next in
      let step_one = one new said.index said.terms said.pools said.by_index said.by_terms moves.patched in
      record {
        tables = tables_new new said.index said.terms said.pools said.by_index said.by_terms moves.patched said.token (some_patch new y said.patch said.stands);
        answers = (
          settles_on new said.index said.terms said.pools said.by_index said.by_terms moves.patched y said.patch next.0,
          record { patch = y; is = said.patch; last = subst (λ (on : Bool). IsLastPhase on y.phase) (sym said.on) next.1 },
          λ last. next.2 (subst (λ (x : Patch). IsLastPhase x.on x.phase) (some_same last.patch z (sym last.is ∙ is)) last.last),
        );
        waits = tt;
        need = need_passed t new z is moves.patched moves.reached;
        published = step_one.published;
        known = step_one.known;
      }
  gone_on new p y (Ok (patch_steps.Published generation)) said = no_root said.answers.due
  gone_on new p y (Ok patch_steps.Finished) said =
      let ends : PatchEnds z y w (written_by new.writer) = said.answers in
      let step_one = one new said.index said.terms said.pools said.by_index said.by_terms ends.patched in
      record {
        tables = tables_new new said.index said.terms said.pools said.by_index said.by_terms ends.patched said.token
            (subst (λ (o : Option Patch). PatchStands o (written_by new.writer)) (sym said.patch) (at_end y (written_by new.writer) ends.phase said.stands));
        answers = rests_now new said.index said.terms said.pools said.by_index said.by_terms ends.patched said.patch;
        waits = tt;
        need = need_passed t new z is ends.patched ends.reached;
        published = step_one.published;
        known = step_one.known;
      }
  gone_on new p y (Err answer) said =
      let waits : PatchWaits z y w (written_by new.writer) answer = said.waits in
      let step_one = one new said.index said.terms said.pools said.by_index said.by_terms waits.patched in
      record {
        tables = tables_new new said.index said.terms said.pools said.by_index said.by_terms waits.patched said.token (some_patch new y said.patch said.stands);
        answers = tt;
        waits = λ s was. record {
          settling = settles_on new said.index said.terms said.pools said.by_index said.by_terms waits.patched y said.patch (subst (λ (x : Patch). IsSettling x.phase) (sym waits.same) behind) s was;
          why = patch_late t new y z answer is said.patch said.stands waits;
        };
        need = need_kept t new y z is said.patch waits.same waits.patched.rising waits.patched.longer;
        published = step_one.published;
        known = step_one.known;
      }

-- ---- steps one after another

-- the second of two steps leaves of a state what it leaves of it after the first
module _ (names : List Mfa) (old mid new : Tables) where
  pub rest_from : (r : Result (Unit {0}) NotYet) → ((s : ServerState) → AreSettling names s old → AreSettling names s mid) → IfOk r (λ _. (s : ServerState) → AreSettling names s mid → AreAtRest names s new) → IfOk r (λ _. (s : ServerState) → AreSettling names s old → AreAtRest names s new)
  rest_from (Ok done) goes rest = λ s had. rest s (goes s had)
  rest_from (Err answer) goes rest = rest

  waits_still : (answer : NotYet) → NeedGoesOn old mid → NeedGoesOn old new → (s : ServerState) → Settles names s mid new answer → Settles names s old new answer
  waits_still answer first need s waits = record { settling = waits.settling; why = late_from old mid new answer first need waits.why }

  pub waiting_from : (r : Result (Unit {0}) NotYet) → ((s : ServerState) → AreSettling names s old → AreSettling names s mid) → NeedGoesOn old mid → NeedGoesOn old new → IfErr r (λ answer. (s : ServerState) → AreSettling names s mid → Settles names s mid new answer)
      → IfErr r (λ answer. (s : ServerState) → AreSettling names s old → Settles names s old new answer)
  waiting_from (Ok done) goes first need waits = waits
  waiting_from (Err answer) goes first need waits = λ s had. waits_still answer first need s (waits s (goes s had))

-- at the last phase the step is the last one
pub at_last : (names : List Mfa) (old new : Tables) (step : PatchStep) → IsAtLast old → SettleAnswers names old new step → (step ≡ patch_steps.Finished → ⊥) → ⊥
at_last names old new patch_steps.Moved last said other = said.2 last
at_last names old new (patch_steps.Published generation) last said other = said
at_last names old new patch_steps.Finished last said other = other refl

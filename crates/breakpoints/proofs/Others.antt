-- What steps leave that store no decision on a function that is called: the indices, and a patch at its phase.
use Rattle.std.proofs.Common.{◌≡◌, ℕ, ◌+◌, ◌%◌, ◌<◌, ◌≤◌, inl, inr, Bool, true, List, length, length-append, refl, sym, ap, subst, ◌∙◌, arith}
use Rattle.std.specs.Prelude.{◌==◌, Option, Some, None, slice_get}
use Rattle.std.specs.List.{list_any}
use Rattle.std.proofs.lemmas.Bool.{cases_Bool, eq-eqb, eqb-true, true≢false}
use Rattle.term_core.specs.declared.area.AreaRef.{AreaRef}
use Rattle.term_core.specs.declared.area.CodeRef.{CodeRef}
use Rattle.area_core.specs.declared.table.KeptArea.{KeptArea}
use Rattle.area_core.specs.declared.table.Published.{Published}
use Rattle.area_core.specs.Map.{block_place, breakpoint_place, image_entry_at, word_at}
use Rattle.area_core.specs.Blocks.{Among, BreakpointsStand, EntriesStand, InstancesPlaced, IsForInstances}
use Rattle.area_core.specs.Generations.{is_instance, is_traced_function, traced_word}
use Rattle.area_core.specs.Stores.{entry_word}
use Rattle.area_core.proofs.Tests.{passed_by, some_passes}
use Rattle.shared_words.specs.declared.view.WriterView.{WriterView}
use Rattle.shared_words.specs.Views.{newest_number, published_at}
use Rattle.shared_words.specs.Kinds.{counter_kept}
use Rattle.shared_words.proofs.ShownMembers.{still_at}
use Rattle.progress_words.specs.Needs.{HasLoadedCounter, HasTaken}
use Rattle.progress_words.specs.Roots.{newest_of}
use Rattle.breakpoints.specs.declared.patch.Patch.{Patch}
use Rattle.breakpoints.specs.declared.patch.Phase.{Phase}
use Rattle.breakpoints.specs.declared.patch.Phase.TheVariants.{Begun, Staged, Entered, Published as IsSwitched, Restored, Finished}
use Rattle.breakpoints.specs.Indices.{AreIndices, BreakpointsRest, IsOther, IsStagingUnread, IsUnkept, active_breakpoints, decision_place, staging_breakpoints}
use Rattle.breakpoints.specs.Patches.{HasPatched, LoadsCounter, IsDecisionStaged, IsPatchOf, IsPatchable, IsPatching, PhaseStands, entry_place}
use Rattle.breakpoints.specs.Laws.{LeavesDecisions}
use Rattle.breakpoints.proofs.Standing.{patch_for}
use Rattle.breakpoints.proofs.Spots.{behind_fits}

-- an index agrees with another one on each function but the one that is patched
abbrev pub Agree : Option CodeRef → List ℕ → ℕ → Type 0
Agree patched words bp =
    (block function : ℕ) → IsForInstances block → function < 16 → IsOther patched block function → word_at words (breakpoint_place ((bp + 1) % 2) block function) ≡ word_at words (breakpoint_place bp block function)

module _ (old new : WriterView) (leaves : LeavesDecisions old new) where
  newest_same : newest_of new ≡ newest_of old
  newest_same = ap (λ (ps : List Published). published_at ps (newest_number ps)) leaves.published

  staging_same : staging_breakpoints new ≡ staging_breakpoints old
  staging_same = ap (λ (p : Published). (p.root.bp + 1) % 2) newest_same

  module _ (patched : Option CodeRef) (own : AreIndices patched old) where
    stands_still : BreakpointsStand (word_at new.words) (newest_of old)
    stands_still a among instance function few =
        elim (leaves.decisions a.block function (own.placed a among instance) few) as (λ _. word_at new.words (breakpoint_place (active_breakpoints old) a.block function) ≡ traced_word (newest_of old) a.serial function) [
          | inl same ↦ same (active_breakpoints old) own.fits ∙ own.stands a among instance function few
          | inr gone ↦ absurd (true≢false (sym instance ∙ gone.0 a among refl))
        ]

    entries_still : (k : KeptArea) → Among new.kept k → EntriesStand (word_at new.words) k (newest_of old)
    entries_still k among function has none = own.entries k (leaves.kept k among) function has (sym (leaves.entries k function among has) ∙ none)

    agree_still : Agree patched new.words (active_breakpoints old)
    agree_still block function for few other =
        elim (leaves.decisions block function for few) as (λ _. word_at new.words (breakpoint_place (staging_breakpoints old) block function) ≡ word_at new.words (breakpoint_place (active_breakpoints old) block function)) [
          | inl same ↦ same (staging_breakpoints old) (behind_fits (active_breakpoints old)) ∙ own.agree block function for few other ∙ sym (same (active_breakpoints old) own.fits)
          | inr gone ↦ gone.1 (staging_breakpoints old) (behind_fits (active_breakpoints old)) ∙ sym (gone.1 (active_breakpoints old) own.fits)
        ]

    clear_before : (bp block function : ℕ) → bp < 2 → IsForInstances block → function < 16 → IsUnkept old block → word_at new.words (breakpoint_place bp block function) ≡ 0
    clear_before bp block function fits for few unkept =
        elim (leaves.decisions block function for few) as (λ _. word_at new.words (breakpoint_place bp block function) ≡ 0) [
          | inl same ↦ same bp fits ∙ own.clear bp block function fits for few unkept
          | inr gone ↦ gone.1 bp fits
        ]

    clear_dropped : (bp block function : ℕ) → bp < 2 → IsForInstances block → function < 16 → IsUnkept new block → (k : KeptArea) → Among old.kept k → k.area.block ≡ block → word_at new.words (breakpoint_place bp block function) ≡ 0
    clear_dropped bp block function fits for few unkept k among is =
        elim (leaves.dropped k among) as (λ _. word_at new.words (breakpoint_place bp block function) ≡ 0) [
          | inl still ↦ absurd (unkept k still is)
          | inr gone ↦ ap (λ (n : ℕ). word_at new.words (breakpoint_place bp n function)) (sym is) ∙ gone.0 (subst IsForInstances (sym is) for) bp function fits few
        ]

    clear_still : (bp block function : ℕ) → bp < 2 → IsForInstances block → function < 16 → IsUnkept new block → word_at new.words (breakpoint_place bp block function) ≡ 0
    clear_still bp block function fits for few unkept =
        elim (cases_Bool (list_any (λ (k : KeptArea). k.area.block == block) old.kept)) as (λ _. word_at new.words (breakpoint_place bp block function) ≡ 0) [
          | inl found ↦
              let one = passed_by (λ (k : KeptArea). k.area.block == block) old.kept found in
              clear_dropped bp block function fits for few unkept one.0 (one.1, one.2) (eqb-true one.0.area.block block one.3)
          | inr lacks ↦ clear_before bp block function fits for few (λ k among same. true≢false (sym (some_passes (λ (k : KeptArea). k.area.block == block) old.kept among.0 k among.1 (eq-eqb k.area.block block same)) ∙ lacks))
        ]

    -- the indices are the writer's still
    pub indices_still : AreIndices patched new
    indices_still = record {
      all = leaves.long ∙ own.all;
      areas = λ k among. own.areas k (leaves.kept k among);
      alone = λ a b is_a is_b same. own.alone a b (leaves.kept a is_a) (leaves.kept b is_b) same;
      placed = subst InstancesPlaced (sym newest_same) own.placed;
      fits = subst (λ (p : Published). p.root.bp < 2) (sym newest_same) own.fits;
      stands = subst (BreakpointsStand (word_at new.words)) (sym newest_same) stands_still;
      entries = subst (λ (p : Published). (k : KeptArea) → Among new.kept k → EntriesStand (word_at new.words) k p) (sym newest_same) entries_still;
      agree = subst (λ (p : Published). Agree patched new.words p.root.bp) (sym newest_same) agree_still;
      clear = clear_still;
    }

    -- the decision on a function that can be patched is as before
    decision_still : (at : CodeRef) → IsPatchable old at → (bp : ℕ) → bp < 2 → word_at new.words (decision_place bp at) ≡ word_at old.words (decision_place bp at)
    decision_still at can bp fits =
        let for = patch_for patched old at own can in
        elim (leaves.decisions at.area.block at.function for.0 for.1) as (λ _. word_at new.words (decision_place bp at) ≡ word_at old.words (decision_place bp at)) [
          | inl same ↦ same bp fits
          | inr gone ↦ absurd (true≢false (sym can.instance ∙ gone.0 at.area can.listed refl))
        ]

    -- and so is the one that is staged
    pub staged_word_still : (at : CodeRef) (value : ℕ) → IsPatchable old at → word_at old.words (decision_place (staging_breakpoints old) at) ≡ value → word_at new.words (decision_place (staging_breakpoints new) at) ≡ value
    staged_word_still at value can is =
        ap (λ (n : ℕ). word_at new.words (decision_place n at)) staging_same ∙ decision_still at can (staging_breakpoints old) (behind_fits (active_breakpoints old)) ∙ is

  pub unread_still : IsStagingUnread old → IsStagingUnread new
  unread_still unread g p may at same =
      let rises = leaves.rising in
      unread g p (λ pair among enough. may pair (leaves.more pair among) (omega (arith, enough, rises))) (ap (λ (ps : List Published). slice_get ps g) (sym leaves.published) ∙ at) (same ∙ staging_same)

  kept_still : (at : CodeRef) (can : IsPatchable old at) → Among new.kept can.area
  kept_still at can =
      elim (leaves.dropped can.area can.kept) as (λ _. Among new.kept can.area) [
        | inl still ↦ still
        | inr gone ↦ absurd (true≢false (sym can.instance ∙ ap (λ (a : AreaRef). is_instance (newest_of old) a.serial) (sym can.is) ∙ gone.1))
      ]

  pub patchable_still : (at : CodeRef) → IsPatchable old at → IsPatchable new at
  patchable_still at can = record {
    area = can.area;
    kept = kept_still at can;
    is = can.is;
    has = can.has;
    listed = subst (λ (p : Published). Among p.areas at.area) (sym newest_same) can.listed;
    instance = subst (λ (p : Published). is_instance p at.area.serial ≡ true) (sym newest_same) can.instance;
  }

  -- its entry word is as before
  pub entry_still : (at : CodeRef) → IsPatchable old at → word_at new.words (entry_place at) ≡ word_at old.words (entry_place at)
  entry_still at can =
      subst (λ (a : AreaRef). word_at new.words (block_place a.block (image_entry_at at.function)) ≡ word_at old.words (block_place a.block (image_entry_at at.function))) can.is (leaves.entries can.area at.function (kept_still at can) can.has)

  taken_still : (need : ℕ) → HasTaken old (newest_number old.published) need → HasTaken new (newest_number new.published) need
  taken_still need taken = subst (λ (ps : List Published). HasTaken new (newest_number ps) need) (sym leaves.published) (leaves.more _ taken)

  pub patching_still : (at : CodeRef) (need : ℕ) → IsPatching at old need → IsPatching at new need
  patching_still at need h = record {
    patchable = patchable_still at h.patchable;
    indices = indices_still (Some at) h.indices;
    taken = taken_still need h.taken;
  }

  rest_still : BreakpointsRest old → BreakpointsRest new
  rest_still h = record { indices = indices_still None h.indices; unread = unread_still h.unread }

  pub staged_still : (at : CodeRef) (on : Bool) → AreIndices (Some at) old → IsPatchable old at → IsDecisionStaged at on old → IsDecisionStaged at on new
  staged_still at on own can h = record { unread = unread_still h.unread; staged = staged_word_still (Some at) own at (entry_word on) can h.staged }

  pub traced_still : (at : CodeRef) (on : Bool) → is_traced_function (newest_of old) at.area.serial at.function ≡ on → is_traced_function (newest_of new) at.area.serial at.function ≡ on
  traced_still at on is = ap (λ (p : Published). is_traced_function p at.area.serial at.function) newest_same ∙ is

  -- the patch is at its phase still
  pub phase_still : (at : CodeRef) (on : Bool) (phase : Phase) → PhaseStands at on phase old → PhaseStands at on phase new
  phase_still at on Begun h = (rest_still h.0, patchable_still at h.1)
  phase_still at on (Staged need) h = (patching_still at need h.0, staged_still at on h.0.indices h.0.patchable h.1)
  phase_still at on (Entered need) h = (patching_still at need h.0, staged_still at on h.0.indices h.0.patchable h.1, h.2, λ none. h.3 (sym (entry_still at h.0.patchable) ∙ none))
  phase_still at on (IsSwitched need) h = (patching_still at need h.0, traced_still at on h.1)
  phase_still at on (Restored need) h = (patching_still at need h.0, traced_still at on h.1, h.2, unread_still h.3)
  phase_still at on Finished h = rest_still h

pub others_keep : (old new : WriterView) → LeavesDecisions old new → (BreakpointsRest old → BreakpointsRest new) × ((x : Patch) → IsPatchOf x old → IsPatchOf x new)
others_keep old new leaves = (rest_still old new leaves, λ x. phase_still old new leaves x.at x.on x.phase)

-- ---- a load of the counter

pub counted_here : (old : WriterView) (counter : ℕ) → old.counter ≤ counter → LeavesDecisions old (counter_kept counter old)
counted_here old counter rises = record {
  long = refl;
  published = refl;
  decisions = λ block function for few. inl (λ bp fits. refl);
  entries = λ k function among has. refl;
  kept = λ k among. among;
  dropped = λ k among. inl among;
  more = λ pair among. (among.0, still_at old.pairs _ among.0 pair among.1);
  rising = rises;
}

pub counted_leaves : (old new : WriterView) → HasLoadedCounter old new → LeavesDecisions old new
counted_leaves old new loaded = subst (LeavesDecisions old) (sym loaded.view) (counted_here old loaded.counter loaded.rising)

-- it keeps one pair more
pub kept_longer : (counter : ℕ) (w : WriterView) → length (counter_kept counter w).pairs ≡ length w.pairs + 1
kept_longer counter w = length-append w.pairs _

pub counted_longer : (old new : WriterView) → HasLoadedCounter old new → length new.pairs ≡ length old.pairs + 1
counted_longer old new loaded = ap (λ (w : WriterView). length w.pairs) loaded.view ∙ kept_longer loaded.counter old

pub counted_loads : (old new : WriterView) → HasLoadedCounter old new → LoadsCounter old new
counted_loads old new loaded = (let one = counted_longer old new loaded in omega (arith, one))

pub counted_patched : (at : CodeRef) (old new : WriterView) → HasLoadedCounter old new → HasPatched at old new
counted_patched at old new loaded =
    let here : HasPatched at old (counter_kept loaded.counter old) = record {
      view = refl;
      long = refl;
      others = λ place decision entry. refl;
      more = λ pair among. (among.0, still_at old.pairs _ among.0 pair among.1);
      longer = (let one = kept_longer loaded.counter old in omega (arith, one));
      rising = loaded.rising;
    } in
    subst (HasPatched at old) (sym loaded.view) here

-- Each step of a patch comes to its next phase, and stores no words but the decisions on the function and its entry word.
use Rattle.std.proofs.Common.{◌≡◌, ℕ, ◌<◌, ◌≤◌, Bool, true, false, List, length, refl, sym, ap, subst, ◌∙◌, arith}
use Rattle.std.specs.Prelude.{Some, slice_set}
use Rattle.std.proofs.lemmas.Bool.{true≢false}
use Rattle.prgr_core.proofs.Parts.{some_same}
use Rattle.term_core.specs.declared.area.CodeRef.{CodeRef}
use Rattle.area_core.specs.declared.table.Published.{Published}
use Rattle.area_core.specs.Map.{word_at}
use Rattle.area_core.specs.Generations.{is_traced_function}
use Rattle.area_core.specs.Stores.{entry_word}
use Rattle.shared_words.specs.declared.view.WriterView.{WriterView}
use Rattle.shared_words.specs.Views.{newest_number}
use Rattle.shared_words.specs.Publishing.{MayStoreEntry, with_word}
use Rattle.progress_words.specs.Needs.{HasLoadedCounter, HasTaken}
use Rattle.progress_words.specs.Roots.{newest_of}
use Rattle.breakpoints.specs.declared.patch.Phase.{Phase}
use Rattle.breakpoints.specs.declared.patch.Phase.TheVariants.{Begun, Staged, Entered, Published as IsSwitched, Restored}
use Rattle.breakpoints.specs.Indices.{AreIndices, BreakpointsRest, IsStagingUnread, active_breakpoints, decision_place, staging_breakpoints}
use Rattle.breakpoints.specs.Patches.{HasPatched, IsDecisionStaged, IsLastPhase, IsPatchable, IsPatching, PhaseStands, entry_place, phase_need}
use Rattle.breakpoints.proofs.Spots.{behind_fits, decision_kind, decision_within, entry_kind, entry_within}
use Rattle.breakpoints.proofs.Standing.{IsSetAt, patch_for, patchable_with, patched_then, set_at, stored_view, traced_is, weakened}
use Rattle.breakpoints.proofs.Others.{counted_leaves, counted_patched, patchable_still, patching_still, indices_still, staged_still, traced_still, unread_still, entry_still}
use Rattle.breakpoints.proofs.Publishing.{newest_alone, unread_behind}
use Rattle.breakpoints.proofs.Decided.{decided, decided_patched, made_equal}
use Rattle.breakpoints.proofs.Entered.{entered, entered_patched, staged_same}

-- ---- a decision is stored

module _ (at : CodeRef) (on : Bool) (w v : WriterView) (can : IsPatchable w at) (own : AreIndices (Some at) w) (unread : IsStagingUnread w) (stored : v ≡ with_word (decision_place (staging_breakpoints w) at) (entry_word on) w) where
  abbrev place : ℕ
  place = decision_place (staging_breakpoints w) at

  abbrev after : List ℕ
  after = slice_set w.words place (entry_word on)

  set : IsSetAt place (entry_word on) w.words after
  set =
      let for = patch_for (Some at) w at own can in
      set_at w.words place (entry_word on) own.all (decision_within (staging_breakpoints w) at.area.block at.function (behind_fits (active_breakpoints w)) for.0 for.1)

  view_is : v ≡ record w { words = after }
  view_is =
      let for = patch_for (Some at) w at own can in
      stored ∙ stored_view w place (entry_word on) _ _ (decision_kind (staging_breakpoints w) at.area.block at.function (behind_fits (active_breakpoints w)) for.0 for.1)

  pub decide_indices : AreIndices (Some at) v
  decide_indices = subst (AreIndices (Some at)) (sym view_is) (decided at w (entry_word on) after can own set)

  pub decide_patchable : IsPatchable v at
  decide_patchable = subst (λ (u : WriterView). IsPatchable u at) (sym view_is) (patchable_with w at after can)

  pub decide_staged : IsDecisionStaged at on v
  decide_staged =
      let here : IsDecisionStaged at on (record w { words = after }) = record { unread = unread; staged = set.here } in
      subst (IsDecisionStaged at on) (sym view_is) here

  pub decide_patched : HasPatched at w v
  decide_patched = subst (HasPatched at w) (sym view_is) (decided_patched at w (entry_word on) after can own set)

  -- where the newest generation says the same, the indices are at rest
  pub decide_rest : is_traced_function (newest_of w) at.area.serial at.function ≡ on → BreakpointsRest v
  decide_rest traced =
      let for = patch_for (Some at) w at own can in
      let active : entry_word on ≡ word_at w.words (decision_place (active_breakpoints w) at) = sym (own.stands at.area can.listed can.instance at.function for.1 ∙ traced_is (newest_of w) at.area.serial at.function on traced) in
      let here : BreakpointsRest (record w { words = after }) = record { indices = made_equal at w (entry_word on) after can own set active; unread = unread } in
      subst BreakpointsRest (sym view_is) here

-- ---- an entry word is stored

module _ (at : CodeRef) (on : Bool) (w v : WriterView) (can : IsPatchable w at) (own : AreIndices (Some at) w) (safe : on ≡ false → is_traced_function (newest_of w) at.area.serial at.function ≡ false) (stored : v ≡ with_word (entry_place at) (entry_word on) w) where
  abbrev entries : List ℕ
  entries = slice_set w.words (entry_place at) (entry_word on)

  entry_set : IsSetAt (entry_place at) (entry_word on) w.words entries
  entry_set =
      let for = patch_for (Some at) w at own can in
      set_at w.words (entry_place at) (entry_word on) own.all (entry_within at.area.block at.function for.0.last for.1)

  entry_view : v ≡ record w { words = entries }
  entry_view =
      let for = patch_for (Some at) w at own can in
      stored ∙ stored_view w (entry_place at) (entry_word on) _ _ (entry_kind at.area.block at.function for.0.last for.1)

  entry_off_is : (b : Bool) → entry_word b ≡ 0 → b ≡ false
  entry_off_is true none = absurd (omega (arith, none))
  entry_off_is false none = refl

  safe_word : entry_word on ≡ 0 → is_traced_function (newest_of w) at.area.serial at.function ≡ false
  safe_word none = safe (entry_off_is on none)

  pub entry_indices : AreIndices (Some at) v
  entry_indices = subst (AreIndices (Some at)) (sym entry_view) (entered at w (entry_word on) entries can own entry_set safe_word)

  pub entry_patchable : IsPatchable v at
  entry_patchable = subst (λ (u : WriterView). IsPatchable u at) (sym entry_view) (patchable_with w at entries can)

  pub entry_staged : (decision : Bool) → IsDecisionStaged at decision w → IsDecisionStaged at decision v
  entry_staged decision staged =
      let here : IsDecisionStaged at decision (record w { words = entries }) = record { unread = staged.unread; staged = staged_same at w (entry_word on) entries can own entry_set safe_word ∙ staged.staged } in
      subst (IsDecisionStaged at decision) (sym entry_view) here

  pub entry_patched : HasPatched at w v
  entry_patched = subst (HasPatched at w) (sym entry_view) (entered_patched at w (entry_word on) entries can own entry_set safe_word)

  pub entry_is : word_at v.words (entry_place at) ≡ entry_word on
  entry_is = ap (λ (u : WriterView). word_at u.words (entry_place at)) entry_view ∙ entry_set.here

  pub entry_unread : IsStagingUnread w → IsStagingUnread v
  entry_unread unread = subst IsStagingUnread (sym entry_view) unread

  pub entry_traced : (b : Bool) → is_traced_function (newest_of w) at.area.serial at.function ≡ b → is_traced_function (newest_of v) at.area.serial at.function ≡ b
  entry_traced b is = ap (λ (u : WriterView). is_traced_function (newest_of u) at.area.serial at.function) entry_view ∙ is

-- ---- the steps

-- the decision is staged
pub stage_stands : (at : CodeRef) (on : Bool) (old mid new : WriterView) (need : ℕ) → PhaseStands at on Begun old → mid ≡ with_word (decision_place (staging_breakpoints old) at) (entry_word on) old → HasLoadedCounter mid new → HasTaken new (newest_number mid.published) need → PhaseStands at on (Staged need) new × HasPatched at old new
stage_stands at on old mid new need h stored loaded taken =
    let own = weakened at old h.0.indices in
    let leaves = counted_leaves mid new loaded in
    let can = decide_patchable at on old mid h.1 own h.0.unread stored in
    let indices = decide_indices at on old mid h.1 own h.0.unread stored in (
      (
        record {
          patchable = patchable_still mid new leaves at can;
          indices = indices_still mid new leaves (Some at) indices;
          taken = subst (λ (ps : List Published). HasTaken new (newest_number ps) need) (sym leaves.published) taken;
        },
        staged_still mid new leaves at on indices can (decide_staged at on old mid h.1 own h.0.unread stored),
      ),
      patched_then at old mid new (decide_patched at on old mid h.1 own h.0.unread stored) (counted_patched at mid new loaded),
    )

-- the entry word of a breakpoint that is set
module _ (at : CodeRef) (on : Bool) (old w mid new : WriterView) (need next : ℕ) (h : PhaseStands at on (Staged need) old) (is : on ≡ true) (first : HasLoadedCounter old w) where
  can_w : IsPatchable w at
  can_w = patchable_still old w (counted_leaves old w first) at h.0.patchable

  own_w : AreIndices (Some at) w
  own_w = indices_still old w (counted_leaves old w first) (Some at) h.0.indices

  -- it may be stored
  pub may_enter : MayStoreEntry w at true
  may_enter = record { area = can_w.area; kept = can_w.kept; of = can_w.is; has = can_w.has; few = (patch_for (Some at) w at own_w can_w).1; untraced = λ off. absurd (true≢false off) }

  safe_on : true ≡ false → is_traced_function (newest_of w) at.area.serial at.function ≡ false
  safe_on off = absurd (true≢false off)

  module _ (stored : mid ≡ with_word (entry_place at) (entry_word true) w) (last : HasLoadedCounter mid new) (taken : HasTaken new (newest_number mid.published) next) where
    can_m : IsPatchable mid at
    can_m = entry_patchable at true w mid can_w own_w safe_on stored

    own_m : AreIndices (Some at) mid
    own_m = entry_indices at true w mid can_w own_w safe_on stored

    staged_m : IsDecisionStaged at on mid
    staged_m = entry_staged at true w mid can_w own_w safe_on stored on (staged_still old w (counted_leaves old w first) at on h.0.indices h.0.patchable h.1)

    full : word_at new.words (entry_place at) ≡ 0 → ⊥
    full none =
        let one : word_at new.words (entry_place at) ≡ 1 = entry_still mid new (counted_leaves mid new last) at can_m ∙ entry_is at true w mid can_w own_w safe_on stored in
        omega (arith, one, none)

    pub enter_stands : PhaseStands at on (Entered next) new
    enter_stands = (
      record {
        patchable = patchable_still mid new (counted_leaves mid new last) at can_m;
        indices = indices_still mid new (counted_leaves mid new last) (Some at) own_m;
        taken = subst (λ (ps : List Published). HasTaken new (newest_number ps) next) (sym (counted_leaves mid new last).published) taken;
      },
      staged_still mid new (counted_leaves mid new last) at on own_m can_m staged_m,
      is,
      full,
    )

    pub enter_patched : HasPatched at old new
    enter_patched = patched_then at old w new (counted_patched at old w first) (patched_then at w mid new (entry_patched at true w mid can_w own_w safe_on stored) (counted_patched at mid new last))

    pub enter_rising : w.counter ≤ new.counter
    enter_rising = (patched_then at w mid new (entry_patched at true w mid can_w own_w safe_on stored) (counted_patched at mid new last)).rising

-- the entry word of one that is cleared
module _ (at : CodeRef) (on : Bool) (old w mid new : WriterView) (need next : ℕ) (h : PhaseStands at on (IsSwitched need) old) (is : on ≡ false) (first : HasLoadedCounter old w) (enough : need ≤ w.counter) (some : 0 < length w.published) where
  patching_w : IsPatching at w need
  patching_w = patching_still old w (counted_leaves old w first) at need h.0

  untraced_w : is_traced_function (newest_of w) at.area.serial at.function ≡ false
  untraced_w = traced_still old w (counted_leaves old w first) at on h.1 ∙ is

  -- it may be stored, as no generation that may be read traces the function
  pub may_restore : MayStoreEntry w at false
  may_restore = record {
    area = patching_w.patchable.area;
    kept = patching_w.patchable.kept;
    of = patching_w.patchable.is;
    has = patching_w.patchable.has;
    few = (patch_for (Some at) w at patching_w.indices patching_w.patchable).1;
    untraced = λ _ g q may there. ap (λ (p : Published). is_traced_function p at.area.serial at.function) (newest_alone w need some patching_w.taken enough g q may there) ∙ untraced_w;
  }

  module _ (stored : mid ≡ with_word (entry_place at) (entry_word false) w) (last : HasLoadedCounter mid new) (taken : HasTaken new (newest_number mid.published) next) where
    can_r : IsPatchable mid at
    can_r = entry_patchable at false w mid patching_w.patchable patching_w.indices (λ _. untraced_w) stored

    own_r : AreIndices (Some at) mid
    own_r = entry_indices at false w mid patching_w.patchable patching_w.indices (λ _. untraced_w) stored

    unread_r : IsStagingUnread mid
    unread_r = entry_unread at false w mid patching_w.patchable patching_w.indices (λ _. untraced_w) stored (unread_behind w need some patching_w.taken enough)

    traced_r : is_traced_function (newest_of mid) at.area.serial at.function ≡ on
    traced_r = entry_traced at false w mid patching_w.patchable patching_w.indices (λ _. untraced_w) stored on (untraced_w ∙ sym is)

    pub restore_stands : PhaseStands at on (Restored next) new
    restore_stands = (
      record {
        patchable = patchable_still mid new (counted_leaves mid new last) at can_r;
        indices = indices_still mid new (counted_leaves mid new last) (Some at) own_r;
        taken = subst (λ (ps : List Published). HasTaken new (newest_number ps) next) (sym (counted_leaves mid new last).published) taken;
      },
      traced_still mid new (counted_leaves mid new last) at on traced_r,
      is,
      unread_still mid new (counted_leaves mid new last) unread_r,
    )

    restored : HasPatched at w new
    restored = patched_then at w mid new (entry_patched at false w mid patching_w.patchable patching_w.indices (λ _. untraced_w) stored) (counted_patched at mid new last)

    pub restore_patched : HasPatched at old new
    restore_patched = patched_then at old w new (counted_patched at old w first) restored

    pub restore_rising : w.counter ≤ new.counter
    restore_rising = restored.rising

-- ---- the last step

-- what is so at the last phase
abbrev AtLast : CodeRef → Bool → Phase → WriterView → Type 0
AtLast at on phase w = (need : ℕ) × (phase_need phase ≡ Some need) × IsPatching at w need × (is_traced_function (newest_of w) at.area.serial at.function ≡ on)

last_is : (at : CodeRef) (on : Bool) (phase : Phase) (w : WriterView) → PhaseStands at on phase w → IsLastPhase on phase → AtLast at on phase w
last_is at true (IsSwitched need) w h last = (need, refl, h.0, h.1)
last_is at false (Restored need) w h last = (need, refl, h.0, h.1)
last_is at on phase w h last = absurd last

module _ (at : CodeRef) (on : Bool) (phase : Phase) (old w : WriterView) (need : ℕ) (h : PhaseStands at on phase old) (last : IsLastPhase on phase) (due : phase_need phase ≡ Some need) (first : HasLoadedCounter old w) (enough : need ≤ w.counter) (some : 0 < length w.published) where
  at_last : AtLast at on phase old
  at_last = last_is at on phase old h last

  same_need : at_last.0 ≡ need
  same_need = some_same at_last.0 need (sym at_last.1 ∙ due)

  pub last_patching : IsPatching at w need
  last_patching = patching_still old w (counted_leaves old w first) at need (subst (IsPatching at old) same_need at_last.2)

  pub last_unread : IsStagingUnread w
  last_unread = unread_behind w need some last_patching.taken enough

  pub last_traced : is_traced_function (newest_of w) at.area.serial at.function ≡ on
  last_traced = traced_still old w (counted_leaves old w first) at on at_last.3

  module _ (new : WriterView) (stored : new ≡ with_word (decision_place (staging_breakpoints w) at) (entry_word on) w) where
    pub finish_rest : BreakpointsRest new
    finish_rest = decide_rest at on w new last_patching.patchable last_patching.indices last_unread stored last_traced

    finished : HasPatched at w new
    finished = decide_patched at on w new last_patching.patchable last_patching.indices last_unread stored

    pub finish_patched : HasPatched at old new
    finish_patched = patched_then at old w new (counted_patched at old w first) finished

    pub finish_rising : w.counter ≤ new.counter
    finish_rising = finished.rising

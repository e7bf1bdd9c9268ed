-- The step of a patch that stores the root.
use Rattle.std.proofs.Common.{◌≡◌, ℕ, ◌+◌, ◌%◌, ◌≤◌, Bool, true, false, List, length, refl, sym, ap, subst, ◌∙◌, arith}
use Rattle.std.specs.Prelude.{Some}
use Rattle.std.proofs.lemmas.Bool.{true≢false}
use Rattle.term_core.specs.declared.area.AreaRef.{AreaRef}
use Rattle.term_core.specs.declared.area.CodeRef.{CodeRef}
use Rattle.term_core.specs.declared.generation.Generation.{Generation}
use Rattle.area_core.specs.declared.table.Published.{Published}
use Rattle.area_core.specs.Map.{word_at}
use Rattle.area_core.specs.Blocks.{Among}
use Rattle.area_core.specs.Generations.{is_traced_function}
use Rattle.area_core.specs.Step.{to_publish}
use Rattle.shared_words.specs.declared.view.WriterView.{WriterView}
use Rattle.shared_words.specs.Views.{newest_number}
use Rattle.shared_words.specs.Kinds.{counter_kept}
use Rattle.shared_words.specs.Publishing.{MayPublish, with_next}
use Rattle.progress_words.specs.declared.roots.RootParts.{RootParts}
use Rattle.progress_words.specs.Needs.{HasLoadedCounter, HasTaken}
use Rattle.progress_words.specs.Roots.{IsNewestRoot, newest_of}
use Rattle.breakpoints.specs.declared.patch.Patch.{Patch}
use Rattle.breakpoints.specs.declared.patch.Phase.{Phase}
use Rattle.breakpoints.specs.declared.patch.Phase.TheVariants.{Staged, Entered, Published as IsSwitched}
use Rattle.breakpoints.specs.Indices.{AreIndices}
use Rattle.breakpoints.specs.Patches.{IsDecisionStaged, IsPatchOf, IsPatchable, IsPatching, PhaseStands, Switches, entry_place, phase_need}
use Rattle.breakpoints.specs.Switched.{MaySwitch, NeedIsReached, PatchSwitches, switched_over}
use Rattle.breakpoints.proofs.Others.{counted_leaves, counted_longer, counted_patched, entry_still, indices_still, patchable_still, staged_still, traced_still}
use Rattle.breakpoints.proofs.Switching.{may_publish, switched_indices, switched_patchable, switched_traced}

-- what is so where the root is stored next
abbrev AtSwitch : CodeRef → Bool → Phase → WriterView → Type 0
AtSwitch at on phase w = (need : ℕ) × (phase_need phase ≡ Some need) × IsPatching at w need × IsDecisionStaged at on w × (on ≡ true → word_at w.words (entry_place at) ≡ 0 → ⊥)

due_is : (at : CodeRef) (on : Bool) (phase : Phase) (w : WriterView) → PhaseStands at on phase w → Switches on phase → AtSwitch at on phase w
due_is at true (Entered need) w h due = (need, refl, h.0, h.1, λ _. h.3)
due_is at false (Staged need) w h due = (need, refl, h.0, h.1, λ on. absurd (true≢false (sym on)))
due_is at on phase w h due = absurd due

-- what may be published may be so once the counter was loaded
counted_may : (Served : Published → Type 0) (x : Patch) (old : WriterView) (counter : ℕ) (p : Published) → MaySwitch Served x old p → MaySwitch Served x (counter_kept counter old) p
counted_may Served x old counter p may = record {
  served = may.served;
  old_stays = may.old_stays;
  retired_stays = may.retired_stays;
  areas_go_on = record { apart = may.areas_go_on.apart; kept = may.areas_go_on.kept; new = may.areas_go_on.new };
  placed = may.placed;
  code = may.code;
  terms = may.terms;
  used = may.used;
  none_fresh = may.none_fresh;
  apart = may.apart;
  told = may.told;
  traces = may.traces;
  patched = may.patched;
  instances = may.instances;
}

counted_view : (old new : WriterView) → HasLoadedCounter old new → new ≡ record old { pairs = new.pairs; counter = new.counter }
counted_view old new loaded = subst (λ (v : WriterView). v ≡ record old { pairs = v.pairs; counter = v.counter }) (sym loaded.view) refl

module _ (Served : Published → Type 0) (x : Patch) (old w : WriterView) (need : ℕ) (state : Generation) (areas : List AreaRef) (h : IsPatchOf x old) (due : Switches x.on x.phase) (waits : phase_need x.phase ≡ Some need) (may : MaySwitch Served x old (switched_over old state areas)) (first : HasLoadedCounter old w) (now : WriterView) (same : now ≡ w) (parts : RootParts) (root : IsNewestRoot w parts) where
  at_switch : AtSwitch x.at x.on x.phase old
  at_switch = due_is x.at x.on x.phase old h due

  may_w : MaySwitch Served x w (switched_over w state areas)
  may_w = subst (λ (v : WriterView). MaySwitch Served x v (switched_over v state areas)) (sym first.view) (counted_may Served x old first.counter (switched_over old state areas) may)

  can_w : IsPatchable w x.at
  can_w = patchable_still old w (counted_leaves old w first) x.at at_switch.2.patchable

  own_w : AreIndices (Some x.at) w
  own_w = indices_still old w (counted_leaves old w first) (Some x.at) at_switch.2.indices

  staged_w : IsDecisionStaged x.at x.on w
  staged_w = staged_still old w (counted_leaves old w first) x.at x.on at_switch.2.indices at_switch.2.patchable at_switch.3

  ready_w : x.on ≡ true → word_at w.words (entry_place x.at) ≡ 0 → ⊥
  ready_w on none = at_switch.4 on (sym (entry_still old w (counted_leaves old w first) x.at at_switch.2.patchable) ∙ none)

  -- the generation of the call is the one that was asked about
  pub next_is : to_publish parts.code ((parts.bp + 1) % 2) parts.term state areas ≡ switched_over w state areas
  next_is i = to_publish (root.code i) ((root.bp i + 1) % 2) (root.term i) state areas

  asked_is : switched_over w state areas ≡ switched_over old state areas
  asked_is = ap (λ (v : WriterView). switched_over v state areas) first.view

  -- it may be published
  pub may_switch_now : MayPublish Served now (to_publish parts.code ((parts.bp + 1) % 2) parts.term state areas)
  may_switch_now =
      let here : MayPublish Served w (switched_over w state areas) = may_publish Served x w state areas may_w can_w own_w staged_w ready_w root.fits w.pairs w.counter in
      subst (λ (z : WriterView × Published). MayPublish Served z.0 z.1) (λ i. (sym same i, sym next_is i)) here

  module _ (mid new : WriterView) (next : ℕ) (published : mid ≡ with_next (to_publish parts.code ((parts.bp + 1) % 2) parts.term state areas) now) (last : HasLoadedCounter mid new) (taken : HasTaken new (newest_number mid.published) next) where
    mid_is : mid ≡ with_next (switched_over w state areas) w
    mid_is = published ∙ (λ i. with_next (next_is i) (same i))

    own_m : AreIndices (Some x.at) mid
    own_m = subst (AreIndices (Some x.at)) (sym mid_is) (switched_indices Served x w state areas may_w can_w own_w staged_w ready_w root.fits)

    can_m : IsPatchable mid x.at
    can_m = subst (λ (v : WriterView). IsPatchable v x.at) (sym mid_is) (switched_patchable Served x w state areas may_w can_w own_w staged_w ready_w root.fits)

    traced_m : is_traced_function (newest_of mid) x.at.area.serial x.at.function ≡ x.on
    traced_m = ap (λ (v : WriterView). is_traced_function (newest_of v) x.at.area.serial x.at.function) mid_is ∙ switched_traced Served x w state areas may_w can_w own_w staged_w ready_w root.fits

    pub switch_stands : PhaseStands x.at x.on (IsSwitched next) new
    switch_stands = (
      record {
        patchable = patchable_still mid new (counted_leaves mid new last) x.at can_m;
        indices = indices_still mid new (counted_leaves mid new last) (Some x.at) own_m;
        taken = subst (λ (ps : List Published). HasTaken new (newest_number ps) next) (sym (counted_leaves mid new last).published) taken;
      },
      traced_still mid new (counted_leaves mid new last) x.at x.on traced_m,
    )

    view_is : new ≡ record (with_next (switched_over old state areas) w) { pairs = new.pairs; counter = new.counter }
    view_is = counted_view mid new last ∙ (λ i. record (mid_is i) { pairs = new.pairs; counter = new.counter }) ∙ (λ i. record (with_next (asked_is i) w) { pairs = new.pairs; counter = new.counter })

    pub switches : (y : Patch) (generation : ℕ) → y.phase ≡ IsSwitched next → generation ≡ parts.generation + 1 → need ≤ w.counter → PatchSwitches x y (switched_over old state areas) old new generation
    switches y generation phase number enough = record {
      due = due;
      waited = w;
      counted = counted_patched x.at old w first;
      words = ap (λ (v : WriterView). v.words) first.view;
      reached = subst (λ o. NeedIsReached o w) (sym waits) enough;
      need = next;
      phase = phase;
      view = view_is;
      more = λ pair among. (counted_leaves mid new last).more pair (subst (λ (v : WriterView). Among v.pairs pair) (sym mid_is) among);
      longer = (let one = counted_longer mid new last in let same = ap (λ (v : WriterView). length v.pairs) mid_is in omega (arith, one, same));
      rising = (let rises = (counted_leaves mid new last).rising in let same = ap (λ (v : WriterView). v.counter) mid_is in omega (arith, rises, same));
      number = number ∙ sym root.number ∙ ap (λ (v : WriterView). length v.published) first.view;
    }

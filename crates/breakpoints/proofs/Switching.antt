-- The store of the root with the staging index: that it may be published, and that the indices are the writer's then.
use Rattle.std.proofs.Common.{◌≡◌, ℕ, ◌<◌, inl, inr, true, false, List, [], ◌++◌, append-nil, length, refl, sym, ap, subst, ◌∙◌}
use Rattle.std.specs.Prelude.{◌==◌, ◌&&◌, Some}
use Rattle.std.proofs.lemmas.Bool.{and_parts, cases_Bool, cases_eq, eqb-true, or_left}
use Rattle.prgr_core.specs.declared.member.Retirement.{Retirement}
use Rattle.term_core.specs.declared.area.AreaRef.{AreaRef}
use Rattle.term_core.specs.declared.generation.Generation.{Generation}
use Rattle.area_core.specs.declared.table.KeptArea.{KeptArea}
use Rattle.area_core.specs.declared.table.Published.{Published}
use Rattle.area_core.specs.Map.{breakpoint_place, word_at}
use Rattle.area_core.specs.Blocks.{Among, AreaStands, BreakpointsStand, EntriesStand, KeptApart, RootFits, UsedAreKept}
use Rattle.area_core.specs.Generations.{has_area, has_image, is_instance, is_kept_as, is_key_area, is_traced_function, traced_word}
use Rattle.area_core.specs.Roots.{fresh_areas}
use Rattle.area_core.proofs.Tests.{passed_by, three_hold}
use Rattle.shared_words.specs.declared.view.WriterView.{WriterView}
use Rattle.shared_words.specs.Publishing.{MayPublish, kept_next, with_next}
use Rattle.progress_words.specs.Roots.{newest_of}
use Rattle.breakpoints.specs.declared.patch.Patch.{Patch}
use Rattle.breakpoints.specs.Indices.{AreIndices, active_breakpoints, staging_breakpoints}
use Rattle.breakpoints.specs.Patches.{IsDecisionStaged, IsPatchable, entry_place}
use Rattle.breakpoints.specs.Switched.{MaySwitch, switched_over}
use Rattle.breakpoints.proofs.Others.{Agree}
use Rattle.breakpoints.proofs.Publishing.{kept_before, newest_is, next_indices}
use Rattle.breakpoints.proofs.Spots.{behind_back, behind_fits}
use Rattle.breakpoints.proofs.Standing.{chosen, passed, same_serial, traced_alike, traced_is}

among_none : {X : Type 0} (x : X) → Among [] x → ⊥
among_none x among = absurd (cc)

module _ (Served : Published → Type 0) (x : Patch) (w : WriterView) (state : Generation) (areas : List AreaRef) (may : MaySwitch Served x w (switched_over w state areas)) (can : IsPatchable w x.at) (own : AreIndices (Some x.at) w) (staged : IsDecisionStaged x.at x.on w) (ready : x.on ≡ true → word_at w.words (entry_place x.at) ≡ 0 → ⊥) (fits : RootFits (newest_of w).root) where
  abbrev p : Published
  p = switched_over w state areas

  -- ---- the function

  -- the area of the function is one of the next generation
  listed : Among p.areas x.at.area
  listed = subst (Among p.areas) can.is (may.areas_go_on.kept can.area (kept_before w p can.area can.kept)).listed

  traced_here : is_traced_function p x.at.area.serial x.at.function ≡ x.on
  traced_here = may.traces x.at.area.serial x.at.function ∙ chosen x.at.area.serial x.at.area.serial x.at.function x.at.function x.on (is_traced_function (newest_of w) x.at.area.serial x.at.function) refl refl

  traced_else : (serial function : ℕ) → (serial ≡ x.at.area.serial → function ≡ x.at.function → ⊥) → is_traced_function p serial function ≡ is_traced_function (newest_of w) serial function
  traced_else serial function differ = may.traces serial function ∙ passed serial x.at.area.serial function x.at.function x.on (is_traced_function (newest_of w) serial function) differ

  -- ---- the areas

  in_area : (a b : AreaRef) → Among p.areas a → Among p.areas b → (block : ℕ) → b.serial ≡ a.serial → b.block ≡ block → a.block ≡ block
  in_area a b is_a is_b block serial same = ap (λ (c : AreaRef). c.block) (may.areas_go_on.apart a b is_a is_b (sym serial)) ∙ same

  -- an instance of the next generation is kept in its block
  kept_there : (a : AreaRef) → Among p.areas a → is_instance p a.serial ≡ true → (k : KeptArea) × Among w.kept k × (k.area.serial ≡ a.serial) × (a.block ≡ k.area.block)
  kept_there a among instance =
      let found = passed_by (is_kept_as p a.serial) w.kept (may.used a.serial (or_left (is_instance p a.serial) (is_key_area p a.serial) instance)) in
      let parts = three_hold (found.0.area.serial == a.serial) (has_area p.areas a.serial found.0.area.block) (has_image p.state.areas a.serial found.0.words) found.3 in
      let there = passed_by (λ (b : AreaRef). (b.serial == a.serial) && (b.block == found.0.area.block)) p.areas parts.1 in
      let both = and_parts (there.0.serial == a.serial) (there.0.block == found.0.area.block) there.3 in (
        found.0,
        (found.1, found.2),
        eqb-true found.0.area.serial a.serial parts.0,
        in_area a there.0 among (there.1, there.2) found.0.area.block (eqb-true there.0.serial a.serial both.0) (eqb-true there.0.block found.0.area.block both.1),
      )

  -- in the block of the function is its instance alone
  serial_of_block : (a : AreaRef) → Among p.areas a → is_instance p a.serial ≡ true → a.block ≡ x.at.area.block → a.serial ≡ x.at.area.serial
  serial_of_block a among instance same =
      let kept = kept_there a among instance in
      let is : kept.0 ≡ can.area = own.alone kept.0 can.area kept.1 can.kept (sym kept.3 ∙ same ∙ sym (ap (λ (b : AreaRef). b.block) can.is)) in
      sym kept.2 ∙ ap (λ (k : KeptArea). k.area.serial) is ∙ ap (λ (b : AreaRef). b.serial) can.is

  -- ---- the words

  stands_else : (a : AreaRef) (function : ℕ) → Among p.areas a → is_instance p a.serial ≡ true → function < 16 → (a.serial ≡ x.at.area.serial → function ≡ x.at.function → ⊥) → word_at w.words (breakpoint_place (staging_breakpoints w) a.block function) ≡ traced_word p a.serial function
  stands_else a function among instance few differ =
      let was = may.instances a among instance in
      own.agree a.block function (may.placed a among instance) few (λ block same. differ (serial_of_block a among instance block) same)
      ∙ own.stands a was.0 was.1 function few ∙ sym (traced_alike p (newest_of w) a.serial function (traced_else a.serial function differ))

  stands_here : (a : AreaRef) (function : ℕ) → a ≡ x.at.area → function ≡ x.at.function → word_at w.words (breakpoint_place (staging_breakpoints w) a.block function) ≡ traced_word p a.serial function
  stands_here a function same also =
      (λ i. word_at w.words (breakpoint_place (staging_breakpoints w) (same i).block (also i))) ∙ staged.staged ∙ sym (traced_is p x.at.area.serial x.at.function x.on traced_here) ∙ (λ i. traced_word p (sym same i).serial (sym also i))

  stands_next : BreakpointsStand (word_at w.words) p
  stands_next a among instance function few =
      elim (cases_eq a.serial x.at.area.serial) as (λ _. word_at w.words (breakpoint_place (staging_breakpoints w) a.block function) ≡ traced_word p a.serial function) [
        | inl same ↦ elim (cases_eq function x.at.function) as (λ _. word_at w.words (breakpoint_place (staging_breakpoints w) a.block function) ≡ traced_word p a.serial function) [
          | inl also ↦ stands_here a function (may.areas_go_on.apart a x.at.area among listed same) also
          | inr differ ↦ stands_else a function among instance few (λ _ also. differ also)
        ]
        | inr differ ↦ stands_else a function among instance few (λ same _. differ same)
      ]

  untraced_here : (k : KeptArea) (function : ℕ) → Among w.kept k → k.area.serial ≡ x.at.area.serial → function ≡ x.at.function → word_at w.words (entry_place x.at) ≡ 0 → is_traced_function p k.area.serial function ≡ false
  untraced_here k function among same also none =
      elim (cases_Bool x.on) as (λ _. is_traced_function p k.area.serial function ≡ false) [
        | inl on ↦ absurd (ready on none)
        | inr off ↦ (λ i. is_traced_function p (same i) (also i)) ∙ traced_here ∙ off
      ]

  entries_kept : (k : KeptArea) → Among w.kept k → EntriesStand (word_at w.words) k p
  entries_kept k among function has none =
      elim (cases_eq k.area.serial x.at.area.serial) as (λ _. is_traced_function p k.area.serial function ≡ false) [
        | inl same ↦ elim (cases_eq function x.at.function) as (λ _. is_traced_function p k.area.serial function ≡ false) [
          | inl also ↦
              let is : k ≡ can.area = same_serial w.kept may.apart k can.area among can.kept (same ∙ sym (ap (λ (a : AreaRef). a.serial) can.is)) in
              let area : k.area ≡ x.at.area = ap (λ (y : KeptArea). y.area) is ∙ can.is in
              untraced_here k function among same also ((λ i. word_at w.words (entry_place (record { area = sym area i; function = sym also i }))) ∙ none)
          | inr differ ↦ traced_else k.area.serial function (λ _ also. differ also) ∙ own.entries k among function has none
        ]
        | inr differ ↦ traced_else k.area.serial function (λ same _. differ same) ∙ own.entries k among function has none
      ]

  -- ---- what is kept

  kept_is : kept_next w p ≡ w.kept
  kept_is = ap (λ (fresh : List KeptArea). w.kept ++ fresh) may.none_fresh ∙ append-nil w.kept

  unfresh : (k : KeptArea) → Among (fresh_areas w.kept p) k → ⊥
  unfresh k among = among_none k (subst (λ (fresh : List KeptArea). Among fresh k) may.none_fresh among)

  was_kept : (k : KeptArea) → Among (kept_next w p) k → Among w.kept k
  was_kept k among = subst (λ (kept : List KeptArea). Among kept k) kept_is among

  area_stands : (k : KeptArea) → Among (kept_next w p) k → AreaStands (word_at w.words) k (length w.published) p
  area_stands k among =
      let told = may.told k (was_kept k among) in record { entries = entries_kept k (was_kept k among); retired = told.0; doomed = told.1 }

  apart_next : KeptApart (kept_next w p)
  apart_next = subst KeptApart (sym kept_is) may.apart

  -- the next generation may be published, also once the counter was loaded
  pub may_publish : (pairs : List Retirement) (counter : ℕ) → MayPublish Served (record w { pairs = pairs; counter = counter }) p
  may_publish pairs counter = record {
    served = may.served;
    old_stays = may.old_stays;
    retired_stays = may.retired_stays;
    areas_go_on = record { apart = may.areas_go_on.apart; kept = may.areas_go_on.kept; new = may.areas_go_on.new };
    stands = record {
      root = record { code = fits.code; bp = behind_fits (active_breakpoints w); term = fits.term };
      placed = may.placed;
      code = may.code;
      breakpoints = stands_next;
      terms = may.terms;
      used = subst (λ (kept : List KeptArea). UsedAreKept kept p) (sym kept_is) may.used;
      areas = area_stands;
    };
    fresh = record {
      fit = λ k among. absurd (unfresh k among);
      images = λ k among. absurd (unfresh k among);
      areas = λ g q reads at k among. absurd (unfresh k among);
      apart = apart_next;
    };
  }

  agree_next : Agree (Some x.at) w.words (staging_breakpoints w)
  agree_next block function placed few other =
      ap (λ (n : ℕ). word_at w.words (breakpoint_place n block function)) (behind_back (active_breakpoints w) own.fits) ∙ sym (own.agree block function placed few other)

  -- and then the indices are the writer's
  pub switched_indices : AreIndices (Some x.at) (with_next p w)
  switched_indices = next_indices (Some x.at) w p (record {
    all = own.all;
    areas = λ k among. own.areas k (was_kept k among);
    apart = apart_next;
    placed = may.placed;
    fits = behind_fits (active_breakpoints w);
    stands = stands_next;
    entries = λ k among. entries_kept k (was_kept k among);
    agree = agree_next;
    clear = own.clear;
  })

  pub switched_patchable : IsPatchable (with_next p w) x.at
  switched_patchable = record {
    area = can.area;
    kept = kept_before w p can.area can.kept;
    is = can.is;
    has = can.has;
    listed = subst (λ (q : Published). Among q.areas x.at.area) (sym (newest_is w p)) listed;
    instance = subst (λ (q : Published). is_instance q x.at.area.serial ≡ true) (sym (newest_is w p)) may.patched;
  }

  pub switched_traced : is_traced_function (newest_of (with_next p w)) x.at.area.serial x.at.function ≡ x.on
  switched_traced = ap (λ (q : Published). is_traced_function q x.at.area.serial x.at.function) (newest_is w p) ∙ traced_here

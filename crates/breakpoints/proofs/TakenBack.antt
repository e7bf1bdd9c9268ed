-- A patch that has published nothing is taken back: what the writer loads of the active index, and what the store of it leaves.
use Rattle.std.proofs.Common.{◌≡◌, ℕ, ◌+◌, ◌/◌, ◌<◌, ◌≤◌, Bool, true, false, length, refl, sym, ap, ◌∙◌, arith}
use Rattle.std.specs.Prelude.{◌==◌, ◌&&◌, nat_lt, if◌then◌else◌, Some}
use Rattle.std.proofs.lemmas.Bool.{and_from, eq-eqb}
use Rattle.std.proofs.lemmas.Bool.Decides.{nat_tests}
use Rattle.term_core.specs.declared.area.AreaRef.{AreaRef}
use Rattle.term_core.specs.declared.area.CodeRef.{CodeRef}
use Rattle.area_core.specs.declared.map.WordKind.TheVariants.{InBlock}
use Rattle.area_core.specs.declared.table.Published.{Published}
use Rattle.area_core.specs.Generations.{is_instance, is_traced_function}
use Rattle.area_core.specs.Map.{breakpoint_at, breakpoint_place, word_at}
use Rattle.area_core.specs.Blocks.{IsForInstances}
use Rattle.area_core.specs.Readers.{has_instance_in, is_read_under, reaches_block, reads_in_block}
use Rattle.area_core.specs.Step.{opening_published}
use Rattle.area_core.specs.Stores.{entry_word}
use Rattle.area_core.proofs.Tests.{some_passes}
use Rattle.shared_words.specs.declared.view.View.TheVariants.{Writer}
use Rattle.shared_words.specs.declared.view.WriterView.{WriterView}
use Rattle.shared_words.specs.Views.{newest_number}
use Rattle.shared_words.specs.Publishing.{MayLoadWord, with_word}
use Rattle.shared_words.proofs.ShownMembers.{there_is}
use Rattle.progress_words.specs.Roots.{newest_of}
use Rattle.breakpoints.specs.declared.patch.Phase.{Phase}
use Rattle.breakpoints.specs.declared.patch.Phase.TheVariants.{Begun, Staged, Entered, Published as IsSwitched, Restored, Finished}
use Rattle.breakpoints.specs.Indices.{AreIndices, active_breakpoints, decision_place, staging_breakpoints}
use Rattle.breakpoints.specs.Patches.{HasPatched, IsPatchable, IsUnpublished}
use Rattle.breakpoints.proofs.Spots.{behind_fits, decision_kind}
use Rattle.breakpoints.proofs.Standing.{patch_for, stored_view, traced_is}

module _ (w : WriterView) (at : CodeRef) (can : IsPatchable w at) (own : AreIndices (Some at) w) where
  pub for : IsForInstances at.area.block × (at.function < 16)
  for = patch_for (Some at) w at own can

  instance_here : has_instance_in (newest_of w) at.area.block ≡ true
  instance_here =
      let p : Published = newest_of w in
      some_passes (λ (a : AreaRef). (a.block == at.area.block) && is_instance p a.serial) p.areas can.listed.0 at.area can.listed.1
      (and_from (at.area.block == at.area.block) (is_instance p at.area.serial) (eq-eqb at.area.block at.area.block refl) can.instance)

  reads_active : (p : Published) (n at : ℕ) → n < 2 → n ≡ p.root.bp → has_instance_in p (9 + at / 16) ≡ true → reads_in_block p (3 + n) at ≡ true
  reads_active p n at low is here =
      index n p.root.bp (3 + n == p.root.code) (has_instance_in p (9 + at / 16)) (3 + n == 5 + p.root.term) (reaches_block p (3 + n)) low is here
    where
      index : (n m : ℕ) (x y z w : Bool) → n < 2 → n ≡ m → y ≡ true → (if nat_lt (3 + n) 3 then x else if nat_lt (3 + n) 5 then (3 + n == 3 + m) && y else if nat_lt (3 + n) 9 then z else w) ≡ true
      index n m x y z w low is here = grind (arith, nat_tests)

  back : (b f : ℕ) → 9 ≤ b → f < 16 → 9 + breakpoint_at b f / 16 ≡ b
  back b f low few = omega (arith, low, few)

  -- the writer may load the decision of the active index
  pub may_load : 0 < length w.published → MayLoadWord (breakpoint_place (active_breakpoints w) at.area.block at.function) (Writer w)
  may_load some =
      let place = breakpoint_at at.area.block at.function in
      let bp = active_breakpoints w in
      let read : is_read_under (InBlock (3 + bp) place) (Some (newest_of w)) ≡ true =
      reads_active (newest_of w) bp place own.fits refl (ap (has_instance_in (newest_of w)) (back at.area.block at.function for.0.first for.1) ∙ instance_here) in
      (λ i. is_read_under (decision_kind bp at.area.block at.function own.fits for.0 for.1 i) (there_is w.published (newest_number w.published) opening_published (omega (arith, some)) i)) ∙ read

  one_is : (b : Bool) → (entry_word b == 1) ≡ b
  one_is true = refl
  one_is false = refl

  -- and it says whether the newest generation traces the function
  pub says_traced : (found : ℕ) → found ≡ word_at w.words (breakpoint_place (active_breakpoints w) at.area.block at.function) → (found == 1) ≡ is_traced_function (newest_of w) at.area.serial at.function
  says_traced found is =
      ap (λ (n : ℕ). n == 1) (is ∙ own.stands at.area can.listed can.instance at.function for.1 ∙ traced_is (newest_of w) at.area.serial at.function (is_traced_function (newest_of w) at.area.serial at.function) refl)
      ∙ one_is (is_traced_function (newest_of w) at.area.serial at.function)

  -- the store of a decision changes words alone
  pub decided_words : (on : Bool) (new : WriterView) → new ≡ with_word (decision_place (staging_breakpoints w) at) (entry_word on) w → new ≡ record w { words = new.words }
  decided_words on new stored =
      let is = stored ∙ stored_view w (decision_place (staging_breakpoints w) at) (entry_word on) _ _ (decision_kind (staging_breakpoints w) at.area.block at.function (behind_fits (active_breakpoints w)) for.0 for.1) in
      is ∙ ap (λ (v : WriterView). record w { words = v.words }) (sym is)

-- where nothing is stored, nothing is changed
pub nothing_patched : (at : CodeRef) (w : WriterView) → HasPatched at w w
nothing_patched at w = record { view = refl; long = refl; others = λ place decision entry. refl; more = λ pair among. among; longer = omega (arith); rising = omega (arith) }

-- a patch that has published nothing is at one of three phases
pub none_later : (phase : Phase) → IsUnpublished phase → (phase ≡ Begun → ⊥) → ((need : ℕ) → phase ≡ Staged need → ⊥) → ((need : ℕ) → phase ≡ Entered need → ⊥) → ⊥
none_later Begun is begun staged entered = begun refl
none_later (Staged need) is begun staged entered = staged need refl
none_later (Entered need) is begun staged entered = entered need refl
none_later (IsSwitched need) is begun staged entered = is
none_later (Restored need) is begun staged entered = is
none_later Finished is begun staged entered = is

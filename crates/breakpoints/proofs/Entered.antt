-- The store of the entry word of a function that is patched.
use Rattle.std.proofs.Common.{◌≡◌, ℕ, ◌<◌, inl, inr, true, false, List, refl, sym, ap, ◌∙◌, arith}
use Rattle.std.specs.Prelude.{Some}
use Rattle.std.proofs.lemmas.Bool.{cases_eq}
use Rattle.term_core.specs.declared.area.AreaRef.{AreaRef}
use Rattle.term_core.specs.declared.area.CodeRef.{CodeRef}
use Rattle.area_core.specs.declared.table.KeptArea.{KeptArea}
use Rattle.area_core.specs.Map.{block_place, breakpoint_place, image_entry_at, word_at}
use Rattle.area_core.specs.Blocks.{Among, EntriesStand, IsForInstances}
use Rattle.area_core.specs.Generations.{has_function, is_traced_function}
use Rattle.shared_words.specs.declared.view.WriterView.{WriterView}
use Rattle.progress_words.specs.Roots.{newest_of}
use Rattle.breakpoints.specs.Indices.{AreIndices, active_breakpoints, decision_place, staging_breakpoints}
use Rattle.breakpoints.specs.Patches.{HasPatched, IsPatchable, entry_place}
use Rattle.breakpoints.proofs.Spots.{area_for, behind_fits, entries_apart, entry_off}
use Rattle.breakpoints.proofs.Standing.{IsSetAt, patch_for}

module _ (at : CodeRef) (w : WriterView) (value : ℕ) (after : List ℕ) (can : IsPatchable w at) (own : AreIndices (Some at) w) (set : IsSetAt (entry_place at) value w.words after) (safe : value ≡ 0 → is_traced_function (newest_of w) at.area.serial at.function ≡ false) where
  for : IsForInstances at.area.block × (at.function < 16)
  for = patch_for (Some at) w at own can

  -- each decision is as before
  pub decision_same : (bp block function : ℕ) → bp < 2 → IsForInstances block → function < 16 → word_at after (breakpoint_place bp block function) ≡ word_at w.words (breakpoint_place bp block function)
  decision_same bp block function fits placed few =
      set.there (breakpoint_place bp block function) (λ same. entry_off at.area.block at.function bp block function for.0.first for.0.last for.1 fits placed few (sym same))

  entry_here : (k : KeptArea) (function : ℕ) → Among w.kept k → has_function k function ≡ true → block_place k.area.block (image_entry_at function) ≡ entry_place at → word_at after (block_place k.area.block (image_entry_at function)) ≡ 0 → is_traced_function (newest_of w) k.area.serial function ≡ false
  entry_here k function among has same none =
      let both = area_for k function (own.areas k among) has in
      let apart = entries_apart k.area.block function at.area.block at.function both.0.last both.1 for.0.last for.1 same in
      let is : k ≡ can.area = own.alone k can.area among can.kept (apart.0 ∙ sym (ap (λ (a : AreaRef). a.block) can.is)) in
      let serial : k.area.serial ≡ at.area.serial = ap (λ (x : KeptArea). x.area.serial) is ∙ ap (λ (a : AreaRef). a.serial) can.is in
      (λ i. is_traced_function (newest_of w) (serial i) (apart.1 i)) ∙ safe (sym set.here ∙ ap (word_at after) (sym same) ∙ none)

  entries_stand : (k : KeptArea) → Among w.kept k → EntriesStand (word_at after) k (newest_of w)
  entries_stand k among function has none =
      elim (cases_eq (block_place k.area.block (image_entry_at function)) (entry_place at)) as (λ _. is_traced_function (newest_of w) k.area.serial function ≡ false) [
        | inl same ↦ entry_here k function among has same none
        | inr differ ↦ own.entries k among function has (sym (set.there (block_place k.area.block (image_entry_at function)) differ) ∙ none)
      ]

  -- the indices are those of the writer
  pub entered : AreIndices (Some at) (record w { words = after })
  entered = record {
    all = set.long ∙ own.all;
    areas = own.areas;
    alone = own.alone;
    placed = own.placed;
    fits = own.fits;
    stands = λ a among instance function few. decision_same (active_breakpoints w) a.block function own.fits (own.placed a among instance) few ∙ own.stands a among instance function few;
    entries = entries_stand;
    agree = λ block function placed few other.
        decision_same (staging_breakpoints w) block function (behind_fits (active_breakpoints w)) placed few ∙ own.agree block function placed few other ∙ sym (decision_same (active_breakpoints w) block function own.fits placed few);
    clear = λ bp block function fits placed few unkept. decision_same bp block function fits placed few ∙ own.clear bp block function fits placed few unkept;
  }

  -- the decision that is staged is so still
  pub staged_same : word_at after (decision_place (staging_breakpoints w) at) ≡ word_at w.words (decision_place (staging_breakpoints w) at)
  staged_same = decision_same (staging_breakpoints w) at.area.block at.function (behind_fits (active_breakpoints w)) for.0 for.1

  pub entered_patched : HasPatched at w (record w { words = after })
  entered_patched = record {
    view = refl;
    long = set.long;
    others = λ place decision entry. set.there place entry;
    more = λ pair among. among;
    longer = omega (arith);
    rising = omega (arith);
  }

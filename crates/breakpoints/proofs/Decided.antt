-- The store of a decision in the staging index.
use Rattle.std.proofs.Common.{◌≡◌, ℕ, ◌+◌, ◌<◌, ◌≤◌, inl, inr, true, false, List, refl, sym, ap, subst, ◌∙◌, arith}
use Rattle.std.specs.Prelude.{None, Some}
use Rattle.std.proofs.lemmas.Bool.{cases_eq, le-ltb, lt-ltb, ne_eqb}
use Rattle.term_core.specs.declared.area.AreaRef.{AreaRef}
use Rattle.term_core.specs.declared.area.CodeRef.{CodeRef}
use Rattle.area_core.specs.declared.table.KeptArea.{KeptArea}
use Rattle.area_core.specs.declared.table.Published.{Published}
use Rattle.area_core.specs.Map.{block_place, breakpoint_at, breakpoint_place, image_entry_at, word_at}
use Rattle.area_core.specs.Blocks.{Among, IsForInstances}
use Rattle.area_core.specs.Generations.{has_function}
use Rattle.area_core.specs.Readers.{reads_in_block}
use Rattle.shared_words.specs.declared.view.WriterView.{WriterView}
use Rattle.shared_words.specs.Publishing.{FitsInBlock, FitsWord, MayStoreWord}
use Rattle.breakpoints.specs.Indices.{AreIndices, IsStagingUnread, active_breakpoints, decision_place, staging_breakpoints}
use Rattle.breakpoints.specs.Patches.{HasPatched, IsPatchable}
use Rattle.breakpoints.proofs.Spots.{area_for, behind_differs, behind_fits, decision_kind, decisions_apart, entry_off}
use Rattle.breakpoints.proofs.Standing.{IsSetAt, patch_for}

-- no generation reads the words of an index that is not its own
reads_none : (p : Published) (block at : ℕ) → 3 ≤ block → block < 5 → (block ≡ 3 + p.root.bp → ⊥) → reads_in_block p block at ≡ false
reads_none p block at high low differ = rw (le-ltb block 3 high, lt-ltb block 5 low, ne_eqb block (3 + p.root.bp) differ) refl

-- a decision may be stored in the staging index
pub may_decide : (w : WriterView) (at : CodeRef) (value : ℕ) → IsPatchable w at → AreIndices (Some at) w → IsStagingUnread w → MayStoreWord w (decision_place (staging_breakpoints w) at) value
may_decide w at value can own unread = subst (FitsWord w value) (sym (decision_kind (staging_breakpoints w) at.area.block at.function low for.0 for.1)) fits
  where
    low : staging_breakpoints w < 2
    low = behind_fits (active_breakpoints w)

    for : IsForInstances at.area.block × (at.function < 16)
    for = patch_for (Some at) w at own can

    fits : FitsInBlock w (3 + staging_breakpoints w) (breakpoint_at at.area.block at.function) value
    fits = record {
      unread = λ g p may there. reads_none p (3 + staging_breakpoints w) (breakpoint_at at.area.block at.function) (omega (arith)) (omega (arith, low)) (λ same. unread g p may there (omega (arith, same)));
      unkept = λ k among same. absurd (let high = (own.areas k among).first in let under = low in omega (arith, high, same, under));
      entries = λ k function among same has here none. absurd (let high = (own.areas k among).first in let under = low in omega (arith, high, same, under));
    }

module _ (at : CodeRef) (w : WriterView) (value : ℕ) (after : List ℕ) (can : IsPatchable w at) (own : AreIndices (Some at) w) (set : IsSetAt (decision_place (staging_breakpoints w) at) value w.words after) where
  for : IsForInstances at.area.block × (at.function < 16)
  for = patch_for (Some at) w at own can

  -- each other decision is as before
  decision_off : (bp block function : ℕ) → bp < 2 → IsForInstances block → function < 16 → (bp ≡ staging_breakpoints w → block ≡ at.area.block → function ≡ at.function → ⊥) → word_at after (breakpoint_place bp block function) ≡ word_at w.words (breakpoint_place bp block function)
  decision_off bp block function fits placed few differ =
      set.there (breakpoint_place bp block function) (λ same. let d = decisions_apart bp block function (staging_breakpoints w) at.area.block at.function fits placed few (behind_fits (active_breakpoints w)) for.0 for.1 same in differ d.0 d.1 d.2)

  active_off : (block function : ℕ) → IsForInstances block → function < 16 → word_at after (breakpoint_place (active_breakpoints w) block function) ≡ word_at w.words (breakpoint_place (active_breakpoints w) block function)
  active_off block function placed few = decision_off (active_breakpoints w) block function own.fits placed few (λ same _ _. behind_differs (active_breakpoints w) same)

  -- and so is each entry word
  entry_same : (k : KeptArea) (function : ℕ) → Among w.kept k → has_function k function ≡ true → word_at after (block_place k.area.block (image_entry_at function)) ≡ word_at w.words (block_place k.area.block (image_entry_at function))
  entry_same k function among has =
      let both = area_for k function (own.areas k among) has in
      set.there (block_place k.area.block (image_entry_at function)) (entry_off k.area.block function (staging_breakpoints w) at.area.block at.function both.0.first both.0.last both.1 (behind_fits (active_breakpoints w)) for.0 for.1)

  agree_other : (block function : ℕ) → IsForInstances block → function < 16 → (block ≡ at.area.block → function ≡ at.function → ⊥) → word_at after (breakpoint_place (staging_breakpoints w) block function) ≡ word_at after (breakpoint_place (active_breakpoints w) block function)
  agree_other block function placed few other =
      decision_off (staging_breakpoints w) block function (behind_fits (active_breakpoints w)) placed few (λ _ same also. other same also)
      ∙ own.agree block function placed few other ∙ sym (active_off block function placed few)

  -- the indices are those of the writer
  pub decided : AreIndices (Some at) (record w { words = after })
  decided = record {
    all = set.long ∙ own.all;
    areas = own.areas;
    alone = own.alone;
    placed = own.placed;
    fits = own.fits;
    stands = λ a among instance function few. active_off a.block function (own.placed a among instance) few ∙ own.stands a among instance function few;
    entries = λ k among function has none. own.entries k among function has (sym (entry_same k function among has) ∙ none);
    agree = agree_other;
    clear = λ bp block function fits placed few unkept. decision_off bp block function fits placed few (λ _ same _. unkept can.area can.kept (ap (λ (a : AreaRef). a.block) can.is ∙ sym same)) ∙ own.clear bp block function fits placed few unkept;
  }

  agree_all : value ≡ word_at w.words (decision_place (active_breakpoints w) at) → (block function : ℕ) → IsForInstances block → function < 16 → word_at after (breakpoint_place (staging_breakpoints w) block function) ≡ word_at after (breakpoint_place (active_breakpoints w) block function)
  agree_all is block function placed few =
      elim (cases_eq block at.area.block) as (λ _. word_at after (breakpoint_place (staging_breakpoints w) block function) ≡ word_at after (breakpoint_place (active_breakpoints w) block function)) [
        | inl same ↦ elim (cases_eq function at.function) as (λ _. word_at after (breakpoint_place (staging_breakpoints w) block function) ≡ word_at after (breakpoint_place (active_breakpoints w) block function)) [
          | inl also ↦
              (λ i. word_at after (breakpoint_place (staging_breakpoints w) (same i) (also i))) ∙ set.here ∙ is ∙ sym (active_off at.area.block at.function for.0 for.1)
              ∙ (λ i. word_at after (breakpoint_place (active_breakpoints w) (sym same i) (sym also i)))
          | inr differ ↦ agree_other block function placed few (λ _ also. differ also)
        ]
        | inr differ ↦ agree_other block function placed few (λ same _. differ same)
      ]

  -- where it is the decision of the active index, the indices agree
  pub made_equal : value ≡ word_at w.words (decision_place (active_breakpoints w) at) → AreIndices None (record w { words = after })
  made_equal is = record {
    all = decided.all;
    areas = own.areas;
    alone = own.alone;
    placed = own.placed;
    fits = own.fits;
    stands = decided.stands;
    entries = decided.entries;
    agree = λ block function placed few _. agree_all is block function placed few;
    clear = decided.clear;
  }

  pub decided_patched : HasPatched at w (record w { words = after })
  decided_patched = record {
    view = refl;
    long = set.long;
    others = λ place decision entry. set.there place (decision (staging_breakpoints w) (behind_fits (active_breakpoints w)));
    more = λ pair among. among;
    longer = omega (arith);
    rising = omega (arith);
  }

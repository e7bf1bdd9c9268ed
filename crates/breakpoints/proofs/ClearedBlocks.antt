-- Where the decisions on a block's functions are cleared, those on functions that are called are left.
use Rattle.std.proofs.Common.{◌≡◌, ℕ, ◌<◌, inl, inr, true, List, length, refl, sym, ap, subst, ◌∙◌, arith}
use Rattle.std.proofs.lemmas.Bool.{cases_eq}
use Rattle.area_core.specs.declared.table.KeptArea.{KeptArea}
use Rattle.area_core.specs.Map.{block_place, breakpoint_place, image_entry_at, word_at}
use Rattle.area_core.specs.Blocks.{Among, FitsBlock, IsForInstances}
use Rattle.area_core.specs.Generations.{has_function}
use Rattle.shared_words.specs.declared.view.WriterView.{WriterView}
use Rattle.breakpoints.specs.Laws.{HasCleared, IsUncalled, KeepsDecision, LeavesDecisions}
use Rattle.breakpoints.proofs.Spots.{area_for, decisions_apart, entry_off}

module _ (block : ℕ) (old : WriterView) (words : List ℕ) (placed : IsForInstances block) (fit : (k : KeptArea) → Among old.kept k → FitsBlock k) (uncalled : IsUncalled old block) (long : length words ≡ length old.words) (cleared : (bp function : ℕ) → bp < 2 → function < 16 → word_at words (breakpoint_place bp block function) ≡ 0) (others : (place : ℕ) → ((bp function : ℕ) → bp < 2 → function < 16 → place ≡ breakpoint_place bp block function → ⊥) → word_at words place ≡ word_at old.words place) where
  decision_else : (other function : ℕ) → IsForInstances other → function < 16 → (other ≡ block → ⊥) → (bp : ℕ) → bp < 2 → word_at words (breakpoint_place bp other function) ≡ word_at old.words (breakpoint_place bp other function)
  decision_else other function for few differ bp low =
      others (breakpoint_place bp other function) (λ also more within fewer same. differ (decisions_apart bp other function also block more low for few within placed fewer same).1)

  decisions : (other function : ℕ) → IsForInstances other → function < 16 → KeepsDecision old (record old { words = words }) other function
  decisions other function for few =
      elim (cases_eq other block) as (λ _. KeepsDecision old (record old { words = words }) other function) [
        | inl same ↦ inr (subst (IsUncalled old) (sym same) uncalled, λ bp low. ap (λ (n : ℕ). word_at words (breakpoint_place bp n function)) same ∙ cleared bp function low few)
        | inr differ ↦ inl (decision_else other function for few differ)
      ]

  entry_else : (k : KeptArea) (function : ℕ) → Among old.kept k → has_function k function ≡ true → word_at words (block_place k.area.block (image_entry_at function)) ≡ word_at old.words (block_place k.area.block (image_entry_at function))
  entry_else k function among has =
      let both = area_for k function (fit k among) has in
      others (block_place k.area.block (image_entry_at function)) (λ bp more low few. entry_off k.area.block function bp block more both.0.first both.0.last both.1 low placed few)

  leaves_here : LeavesDecisions old (record old { words = words })
  leaves_here = record {
    long = long;
    published = refl;
    decisions = decisions;
    entries = entry_else;
    kept = λ k among. among;
    dropped = λ k among. inl among;
    more = λ pair among. among;
    rising = omega (arith);
  }

pub cleared_leaves : (block : ℕ) (old new : WriterView) → IsForInstances block → ((k : KeptArea) → Among old.kept k → FitsBlock k) → IsUncalled old block → HasCleared block old new → LeavesDecisions old new
cleared_leaves block old new placed fit uncalled h = subst (LeavesDecisions old) (sym h.view) (leaves_here block old new.words placed fit uncalled h.long h.cleared h.others)

-- The store of the root of a generation that is traced by the same index leaves the indices at rest.
use Rattle.std.proofs.Common.{◌≡◌, ℕ, ◌+◌, ◌%◌, inl, inr, false, sym, ap, subst, ◌∙◌, arith}
use Rattle.std.specs.Prelude.{None}
use Rattle.std.proofs.lemmas.Bool.{true≢false}
use Rattle.area_core.specs.declared.table.KeptArea.{KeptArea}
use Rattle.area_core.specs.declared.table.Published.{Published}
use Rattle.area_core.specs.Map.{breakpoint_place, word_at}
use Rattle.area_core.specs.Blocks.{Among, BreakpointsStand, EntriesStand}
use Rattle.area_core.specs.Generations.{is_traced_function, traced_word}
use Rattle.area_core.specs.Roots.{fresh_areas}
use Rattle.area_core.proofs.FromFacts.{never}
use Rattle.area_core.proofs.RootTests.{in_either}
use Rattle.shared_words.specs.declared.view.WriterView.{WriterView}
use Rattle.shared_words.specs.Publishing.{kept_next}
use Rattle.progress_words.specs.Roots.{newest_of}
use Rattle.breakpoints.specs.Indices.{BreakpointsRest, active_breakpoints}
use Rattle.breakpoints.specs.Laws.{KeepsTraces, TracesStand}
use Rattle.breakpoints.proofs.Others.{Agree}
use Rattle.breakpoints.proofs.Standing.{traced_alike, traced_is}
use Rattle.breakpoints.proofs.Publishing.{kept_fit, next_indices, next_unread}

module _ (w : WriterView) (p : Published) (keeps : KeepsTraces w p) (rest : BreakpointsRest w) where
  untraced : (serial function : ℕ) → is_traced_function (newest_of w) serial function ≡ false → is_traced_function p serial function ≡ false
  untraced serial function is = never (is_traced_function p serial function) (λ traced. true≢false (sym (keeps.fewer serial function traced) ∙ is))

  stands_next : BreakpointsStand (word_at w.words) p
  stands_next a among instance function few =
      ap (λ (n : ℕ). word_at w.words (breakpoint_place n a.block function)) keeps.bp
      ∙ (elim (keeps.instances a among instance) as (λ _. word_at w.words (breakpoint_place (active_breakpoints w) a.block function) ≡ traced_word p a.serial function) [
        | inl old ↦ rest.indices.stands a old.0 old.1 function few ∙ sym (traced_alike p (newest_of w) a.serial function (keeps.same a.serial function instance))
        | inr unkept ↦ rest.indices.clear (active_breakpoints w) a.block function rest.indices.fits (keeps.placed a among instance) few unkept ∙ sym (traced_is p a.serial function false (keeps.unplaced a function unkept among instance))
      ])

  entries_next : (k : KeptArea) → Among (kept_next w p) k → EntriesStand (word_at w.words) k p
  entries_next k among function has none =
      elim (in_either w.kept (fresh_areas w.kept p) among.0 k among.1) as (λ _. is_traced_function p k.area.serial function ≡ false) [
        | inl was ↦ untraced k.area.serial function (rest.indices.entries k (among.0, was) function has none)
        | inr fresh ↦ keeps.untraced k function (fresh.0, fresh.2)
      ]

  pub roots_keep : TracesStand w p
  roots_keep = record {
    stands = stands_next;
    entries = entries_next;
    settled = record {
      indices = next_indices None w p (record {
        all = rest.indices.all;
        areas = kept_fit w p rest.indices.areas keeps.fresh;
        apart = keeps.apart;
        placed = keeps.placed;
        fits = (let same = keeps.bp in let fits = rest.indices.fits in omega (arith, same, fits));
        stands = stands_next;
        entries = entries_next;
        agree = subst (Agree None w.words) (sym keeps.bp) rest.indices.agree;
        clear = rest.indices.clear;
      });
      unread = next_unread w p (λ g q may at same. rest.unread g q may at (same ∙ ap (λ (n : ℕ). (n + 1) % 2) keeps.bp));
    };
  }

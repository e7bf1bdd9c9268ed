-- A store of an anchor leaves no two anchors of one area.
use Rattle.std.proofs.Common.{◌≡◌, ◌≢◌, ℕ, inl, inr, List, Option, Some, sym, ap, ◌∙◌}
use Rattle.std.specs.Prelude.{slice_get, slice_set, unwrap_or}
use Rattle.prgr_core.proofs.Parts.{slice_get-slice_set}
use Rattle.area_core.specs.declared.table.Published.{Published}
use Rattle.area_core.specs.Generations.{serial_in}
use Rattle.area_core.specs.Map.{word_at}
use Rattle.shared_words.specs.Slots.{FitsAnchor}
use Rattle.anchors.specs.Holds.{AnchorsApart}

module _ (p : Published) (anchors : List ℕ) (place value old : ℕ) (here : slice_get anchors place ≡ Some old) (fits : FitsAnchor p anchors place value) (apart : AnchorsApart anchors) where
  -- the new word is of no area of another anchor
  other_apart : (b w : ℕ) → slice_get anchors b ≡ Some w → (b ≡ place → ⊥) → value ≢ 0 → w ≢ 0 → serial_in w ≡ serial_in value → ⊥
  other_apart b w at differ some_value some_w same =
      let of = fits.apart b w at differ some_value some_w same in
      let is : word_at anchors place ≡ old = ap (λ (o : Option ℕ). unwrap_or o 0) here in
      differ (sym (apart place b old w here at (λ none. of.some (is ∙ none)) some_w (ap serial_in (sym is) ∙ of.of ∙ sym same)))

  pub stored_apart : AnchorsApart (slice_set anchors place value)
  stored_apart a b v w at there some_v some_w same =
      elim (slice_get-slice_set anchors place value a v at) as (λ _. a ≡ b) [
        | inl this ↦
            elim (slice_get-slice_set anchors place value b w there) as (λ _. a ≡ b) [
              | inl that ↦ this.0 ∙ sym that.0
              | inr other ↦ absurd (other_apart b w other.1 other.0 (λ none. some_v (this.1 ∙ none)) some_w (sym same ∙ ap serial_in this.1))
            ]
        | inr first ↦
            elim (slice_get-slice_set anchors place value b w there) as (λ _. a ≡ b) [
              | inl that ↦ absurd (other_apart a v first.1 first.0 (λ none. some_w (that.1 ∙ none)) some_v (same ∙ ap serial_in that.1))
              | inr other ↦ apart a b v w first.1 other.1 some_v some_w same
            ]
      ]

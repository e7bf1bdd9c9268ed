-- At the start nothing is named, marked or kept.
use Rattle.std.proofs.Common.{◌≡◌, ℕ, zero, suc, Bool, false, List, [], Some, length, replicate, inl, refl, sym, ap, ◌∙◌}
use Rattle.std.specs.Prelude.{slice_get}
use Rattle.std.proofs.lemmas.Bool.{both_ways}
use Rattle.std.proofs.lemmas.List.{length-replicate}
use Rattle.area_core.specs.declared.map.TheConstants.{ANCHORS}
use Rattle.area_core.specs.Generations.{names_frame, names_literal}
use Rattle.area_core.specs.Map.{opening_words}
use Rattle.area_core.proofs.Counted.{opened}
use Rattle.marks.specs.declared.kept.LookKind.{LookKind}
use Rattle.marks.specs.declared.kept.LookKind.TheVariants.{Frame, Both}
use Rattle.marks.specs.Names.{names_in, HasAnchor, MarkNames}
use Rattle.marks.specs.Kept.{Under, IsKnown}
use Rattle.marks.specs.Steps.{opening_process, nothing_kept}

-- a word of a fresh slot is 0
zero_at : (count i word : ℕ) → slice_get (replicate count 0) i ≡ Some word → word ≡ 0
zero_at zero i word at = absurd (cc)
zero_at (suc count) zero word at = cc
zero_at (suc count) (suc i) word at = zero_at count i word at

-- so no test that 0 fails is passed
none_passes : (test : ℕ → ℕ → Bool) (count serial : ℕ) → test 0 serial ≡ false → HasAnchor test (opening_words count) serial → ⊥
none_passes test count serial fails h =
    both_ways (test 0 serial) fails (ap (λ (w : ℕ). test w serial) (sym (zero_at count h.place h.word (ap (λ (ws : List ℕ). slice_get ws h.place) (opened count) ∙ h.at))) ∙ h.passes)

nothing : {X : Type 0} (i : ℕ) (x : X) → slice_get {X = X} [] i ≡ Some x → ⊥
nothing i x at = absurd (cc)

none_last : (test : ℕ → ℕ → Bool) (serial : ℕ) → HasAnchor test [] serial → ⊥
none_last test serial h = nothing h.place h.word h.at

unnamed : (kind : LookKind) (serial : ℕ) → MarkNames kind (opening_words ANCHORS) serial → ⊥
unnamed Frame serial = none_passes names_frame ANCHORS serial refl
unnamed Both serial = none_passes (names_in Both) ANCHORS serial refl

pub opens : (u : Under) (process : ℕ) → IsKnown u process opening_process nothing_kept
opens u process = record {
  wide = ap (λ (ws : List ℕ). length ws) (sym (opened ANCHORS)) ∙ length-replicate {A = ℕ} ANCHORS 0;
  rest = inl (record {
    frames = λ serial. (λ h. absurd (none_passes names_frame ANCHORS serial refl h), λ h. absurd (none_last names_frame serial h));
    literals = λ serial. (λ h. absurd (none_passes names_literal ANCHORS serial refl h), λ h. absurd (none_last names_literal serial h));
  });
  current = λ serial h. absurd (none_passes names_frame ANCHORS serial refl h);
  falling = tt;
  counted = inl refl;
  looked = λ l among own. absurd (nothing among.0 l among.1);
  read = λ t among own. absurd (nothing among.0 t among.1);
  dropped = λ d among. absurd (nothing among.0 d among.1);
  lingering = λ l among own. absurd (nothing among.0 l among.1);
  noted = (refl, unnamed);
}

-- At the writer's first step the indices are at rest.
use Rattle.std.proofs.Common.{◌≡◌, ℕ, zero, suc, List, [], ◌∷◌, sym, ap, subst, ◌∙◌, arith}
use Rattle.std.specs.Prelude.{Some, slice_get}
use Rattle.term_core.specs.declared.area.AreaRef.{AreaRef}
use Rattle.area_core.specs.declared.table.KeptArea.{KeptArea}
use Rattle.area_core.specs.declared.table.Published.{Published}
use Rattle.area_core.specs.Blocks.{Among}
use Rattle.area_core.specs.Step.{opening_published}
use Rattle.shared_words.specs.declared.view.WriterView.{WriterView}
use Rattle.shared_words.specs.Views.{newest_number, published_at}
use Rattle.progress_words.specs.Roots.{newest_of}
use Rattle.breakpoints.specs.Indices.{BreakpointsRest}
use Rattle.breakpoints.specs.Laws.{IsUnwritten}

among_none : {X : Type 0} (x : X) → Among [] x → ⊥
among_none x among = absurd (cc)

first_alone : (g : ℕ) (p : Published) → slice_get (opening_published ∷ []) g ≡ Some p → p.root.bp ≡ 0
first_alone zero p at = let same : p ≡ opening_published = cc in ap (λ (q : Published). q.root.bp) same
first_alone (suc g) p at = absurd (cc)

module _ (w : WriterView) (h : IsUnwritten w) where
  newest_is : newest_of w ≡ opening_published
  newest_is = ap (λ (ps : List Published). published_at ps (newest_number ps)) h.published

  unkept : (k : KeptArea) → Among w.kept k → ⊥
  unkept k among = among_none k (subst (λ (ks : List KeptArea). Among ks k) h.kept among)

  without : (a : AreaRef) → Among (newest_of w).areas a → ⊥
  without a among = among_none a (subst (λ (p : Published). Among p.areas a) newest_is among)

  pub rest_at_first : BreakpointsRest w
  rest_at_first = record {
    indices = record {
      all = h.all;
      areas = λ k among. absurd (unkept k among);
      alone = λ a b is_a is_b same. absurd (unkept a is_a);
      placed = λ a among instance. absurd (without a among);
      fits = (let same = ap (λ (p : Published). p.root.bp) newest_is in omega (arith, same));
      stands = λ a among instance function few. absurd (without a among);
      entries = λ k among. absurd (unkept k among);
      agree = λ block function for few other. h.words _ ∙ sym (h.words _);
      clear = λ bp block function fits for few none. h.words _;
    };
    unread = λ g p may at same.
        let first = first_alone g p (ap (λ (ps : List Published). slice_get ps g) (sym h.published) ∙ at) in
        let active = ap (λ (q : Published). q.root.bp) newest_is in
        omega (arith, first, active, same);
  }

-- New tables are those of a writer who has not begun.
use Rattle.std.proofs.Common.{◌≡◌, ℕ, zero, suc, ◌<◌, List, [], ◌∷◌, length, sym, ap, subst, ◌∙◌, arith}
use Rattle.std.specs.Prelude.{Option, Some, None, slice_get}
use Rattle.area_core.specs.declared.map.TheConstants.{BUCKETS}
use Rattle.area_core.specs.declared.table.Published.{Published}
use Rattle.area_core.specs.declared.table.KeptArea.{KeptArea}
use Rattle.area_core.specs.Map.{term_place}
use Rattle.area_core.specs.Step.{opening_published}
use Rattle.area_core.specs.Terms.{found_in, TermsStand}
use Rattle.shared_words.specs.declared.view.WriterView.{WriterView}
use Rattle.shared_words.specs.Views.{newest_number, published_at}
use Rattle.term_table.specs.Built.{held_in}
use Rattle.term_table.proofs.Filled.{empty_built, empty_counted, empty_found}
use Rattle.progress_words.specs.Roots.{newest_of}
use Rattle.term_table.specs.Tables.{Terms, active_table, words_in, GoesWith, IsTableOf, IsAtFirst}

no_element : {X : Type 0} (k : ℕ) {x : X} → slice_get {X = X} [] k ≡ Some x → ⊥
no_element k e = (cc)

no_some : (o : Option ℕ) (word : ℕ) → o ≡ None → o ≡ Some word → ⊥
no_some o word none some = absurd (cc)

only : (x p : Published) (g : ℕ) → slice_get (x ∷ []) g ≡ Some p → p ≡ x
only x p zero at = cc
only x p (suc g) at = absurd (no_element g at)

newest_first : (w : WriterView) → IsAtFirst w → newest_of w ≡ opening_published
newest_first w is = ap (λ (ps : List Published). published_at ps (newest_number ps)) is.published

pub owned_first : (t : Terms) (w : WriterView) → t.staged ≡ None → length t.needs ≡ 4 → IsAtFirst w → IsTableOf t w
owned_first t w nothing long is = record {
  all = is.all;
  long = long;
  areas = λ k among. absurd (no_element among.0 (subst (λ (ks : List KeptArea). slice_get ks among.0 ≡ Some k) is.kept among.1));
  fits = subst (λ (p : Published). p.root.term < 4) (sym (newest_first w is)) (omega (arith));
  table = record { built = empty_built (words_in w.words (active_table w)) (λ at. is.words (term_place (active_table w) at)); few = let none = empty_counted (words_in w.words (active_table w)) (λ at. is.words (term_place (active_table w) at)) 512 in omega (arith, none) };
  active = subst (λ (p : Published). TermsStand (words_in w.words p.root.term) p) (sym (newest_first w is)) (record {
    found = λ i k at. absurd (no_element i at);
    only = λ key word found. absurd (no_some (found_in (words_in w.words 0) key) word (empty_found (words_in w.words 0) (λ at. is.words (term_place 0 at)) key) found);
  });
  counted = subst (λ (p : Published). held_in (words_in w.words p.root.term) BUCKETS ≡ length p.state.keys) (sym (newest_first w is)) (empty_counted (words_in w.words 0) (λ at. is.words (term_place 0 at)) BUCKETS);
  past = λ table g p few differ at has.
      let first : p ≡ opening_published = only opening_published p g (subst (λ (ps : List Published). slice_get ps g ≡ Some p) is.published at) in
      absurd (differ (sym has ∙ ap (λ (q : Published). q.root.term) (first ∙ sym (newest_first w is))));
  staged = subst (λ (o : Option ℕ). GoesWith o w) (sym nothing) tt;
}

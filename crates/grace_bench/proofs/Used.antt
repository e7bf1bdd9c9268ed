-- The generation of one instance without words may be published over words that are all 0.
use Rattle.std.proofs.Common.{◌≡◌, ℕ, zero, suc, inl, inr, ⊎_elim, Bool, true, false, ◌||◌, List, [], ◌∷◌, ◌++◌, length, refl, sym, ap, subst, ◌∙◌, arith}
use Rattle.std.specs.Prelude.{◌==◌, Some, slice_get, IsTrue}
use Rattle.std.specs.List.{list_any}
use Rattle.std.proofs.lemmas.Bool.{cases_Bool, eqb-true}
use Rattle.prgr_core.proofs.Parts.{slice_get-push_at, some_same}
use Rattle.term_core.specs.declared.area.AreaRef.{AreaRef}
use Rattle.area_core.specs.declared.table.Published.{Published}
use Rattle.area_core.specs.declared.table.KeptArea.{KeptArea}
use Rattle.area_core.specs.Generations.{has_serial, is_used, is_retired_area, is_kept_as, tells}
use Rattle.area_core.specs.Map.{word_at, retire_place, doom_place}
use Rattle.area_core.specs.Blocks.{Among, AreaStands, FitsBlock, ImageStands, IsForInstances, KeptApart, InstancesPlaced, BreakpointsStand, UsedAreKept}
use Rattle.area_core.specs.Roots.{fresh_areas}
use Rattle.area_core.specs.Step.{opening_published}
use Rattle.area_core.proofs.Opened.{blocks_opened}
use Rattle.shared_words.specs.declared.view.WriterView.{WriterView}
use Rattle.shared_words.specs.Rule.{HasArea}
use Rattle.shared_words.specs.Publishing.{MayPublish, IsRootOf, kept_next}
use Rattle.new_tables.specs.Running.{IsEmpty}
use Rattle.new_tables.proofs.Emptied.{never, no_element}
use Rattle.grace_bench.specs.Used.{used_area, used_published}

only : {X : Type 0} (x y : X) (k : ℕ) → slice_get (x ∷ []) k ≡ Some y → y ≡ x
only x y zero at = sym (some_same x y at)
only x y (suc k) at = absurd (no_element k at)

-- it uses the one area alone
used_is : (serial : ℕ) → IsTrue (is_used used_published serial) → serial ≡ 1
used_is serial used =
    elim (cases_Bool (1 == serial)) as (λ _. serial ≡ 1) [
      | inl same ↦ sym (eqb-true 1 serial same)
      | inr differ ↦ absurd (never (ap (λ (b : Bool). ((b || false) || false) || false) (sym differ) ∙ used))
    ]

-- what was dropped is not what is used
retired_unused : (serial : ℕ) → IsTrue (is_retired_area used_published serial) → is_used used_published serial ≡ false
retired_unused serial retired =
    elim (cases_Bool (2 == serial)) as (λ _. is_used used_published serial ≡ false) [
      | inl same ↦ subst (λ (n : ℕ). is_used used_published n ≡ false) (eqb-true 2 serial same) refl
      | inr differ ↦ absurd (never (ap (λ (b : Bool). b || false) (sym differ) ∙ retired))
    ]

abbrev the_kept : KeptArea
the_kept = record { area = used_area; words = [] }

fits : FitsBlock the_kept
fits = record { first = omega (arith); last = omega (arith); room = omega (arith); functions = λ big. omega (arith) }

one_apart : (k : KeptArea) → KeptApart (k ∷ [])
one_apart k zero zero a b differ at_a at_b = absurd (differ refl)
one_apart k zero (suc j) a b differ at_a at_b = absurd (no_element j at_b)
one_apart k (suc i) j a b differ at_a at_b = absurd (no_element i at_a)

module _ (w : WriterView) (h : IsEmpty w) where
  abbrev word : ℕ → ℕ
  word = word_at w.words

  placed : InstancesPlaced used_published
  placed a among instance = subst (λ (x : AreaRef). IsForInstances x.block) (sym (only used_area a among.0 among.1)) (record { first = omega (arith); last = omega (arith) })

  breakpoints : BreakpointsStand word used_published
  breakpoints a among instance function few = h.words _

  -- its area stands under each generation that traces and dooms nothing, and did not drop it
  stands : (g : ℕ) (p : Published) → p.state.traced ≡ [] → is_retired_area p 1 ≡ false → p.state.doomed ≡ [] → AreaStands word the_kept g p
  stands g p traced retired doomed = record {
    entries = λ function has zero_word. rw traced refl;
    retired = ap (λ (n : ℕ). tells n g) (h.words (retire_place 9)) ∙ sym retired;
    doomed = λ big kept. ap (λ (n : ℕ). tells n g) (h.words (doom_place 9)) ∙ ap (λ (ns : List ℕ). has_serial ns 1) (sym doomed);
  }

  kept_is : kept_next w used_published ≡ the_kept ∷ []
  kept_is = ap (λ (xs : List KeptArea). xs ++ fresh_areas xs used_published) h.kept

  fresh_is : fresh_areas w.kept used_published ≡ the_kept ∷ []
  fresh_is = ap (λ (xs : List KeptArea). fresh_areas xs used_published) h.kept

  one_kept : (k : KeptArea) → Among (kept_next w used_published) k → k ≡ the_kept
  one_kept k among = only the_kept k among.0 (ap (λ (xs : List KeptArea). slice_get xs among.0) (sym kept_is) ∙ among.1)

  one_fresh : (k : KeptArea) → Among (fresh_areas w.kept used_published) k → k ≡ the_kept
  one_fresh k among = only the_kept k among.0 (ap (λ (xs : List KeptArea). slice_get xs among.0) (sym fresh_is) ∙ among.1)

  -- something holds of each generation once this one is published
  each : (Holds : Published → Type 0) → Holds opening_published → Holds used_published → (g : ℕ) (p : Published) → slice_get (w.published ++ used_published ∷ []) g ≡ Some p → Holds p
  each Holds before now g p at =
      ⊎_elim (λ (t : slice_get w.published g ≡ Some p). subst Holds (sym (h.published p (g, t))) before)
      (λ (t : (g ≡ length w.published) × (p ≡ used_published)). subst Holds (sym t.1) now)
      (slice_get-push_at w.published used_published g p at)

  -- what one of them dropped, none of them uses
  dropped_unused : (serial : ℕ) (p q : Published) (g later : ℕ) → slice_get (w.published ++ used_published ∷ []) g ≡ Some p → slice_get (w.published ++ used_published ∷ []) later ≡ Some q → IsTrue (is_retired_area p serial) → is_used q serial ≡ false
  dropped_unused serial p q g later at_p at_q retired =
      each (λ (x : Published). is_used x serial ≡ false) refl
      (each (λ (x : Published). IsTrue (is_retired_area x serial) → is_used used_published serial ≡ false) (λ none. absurd (never none)) (retired_unused serial) g p at_p retired)
      later q at_q

  -- it may be published
  pub may_publish_used : (Served : Published → Type 0) → Served used_published → MayPublish Served w used_published
  may_publish_used Served served =
      let b = blocks_opened word h.words (λ g. Unit {0}) in
      let empty_terms = b.terms_stand 0 opening_published tt refl in record {
        served = served;
        old_stays = λ g later p q serial le at_p at_q old. absurd (each (λ x. has_serial x.state.old serial ≡ true → ⊥) never never g p at_p old);
        retired_stays = λ g later p q serial le at_p at_q retired. dropped_unused serial p q g later at_p at_q retired;
        areas_go_on = record {
          apart = λ a c at_a at_c serial. only used_area a at_a.0 at_a.1 ∙ sym (only used_area c at_c.0 at_c.1);
          kept = λ k among. subst (HasArea used_published) (sym (one_kept k among)) (record { listed = (0, refl); image = refl });
          new = λ k q a among before listed serial. absurd (no_element listed.0 (ap (λ (x : Published). slice_get x.areas listed.0) (sym (h.published q before)) ∙ listed.1));
        };
        stands = record {
          root = record { code = omega (arith); bp = omega (arith); term = omega (arith) };
          placed = placed;
          code = b.code_stands 0 opening_published tt refl;
          breakpoints = breakpoints;
          terms = record { found = λ i k at. absurd (no_element i at); only = empty_terms.only };
          used = subst (λ (xs : List KeptArea). UsedAreKept xs used_published) (sym kept_is) (λ serial used. subst (λ (n : ℕ). IsTrue (list_any (is_kept_as used_published n) (the_kept ∷ []))) (sym (used_is serial used)) refl);
          areas = λ k among. subst (λ (x : KeptArea). AreaStands word x (length w.published) used_published) (sym (one_kept k among)) (stands (length w.published) used_published refl refl refl);
        };
        fresh = record {
          fit = λ k among. subst FitsBlock (sym (one_fresh k among)) fits;
          images = λ k among. subst (ImageStands word) (sym (one_fresh k among)) (λ at value has plain. absurd (no_element at has));
          areas = λ g q counts at k among.
              let is = h.published q (g, at) in
              subst (λ (x : KeptArea). AreaStands word x g q) (sym (one_fresh k among))
              (stands g q (ap (λ (x : Published). x.state.traced) is) (ap (λ (x : Published). is_retired_area x 1) is) (ap (λ (x : Published). x.state.doomed) is));
          apart = subst KeptApart (sym kept_is) (one_apart the_kept);
        };
      }

pub used_root : IsRootOf used_published.root 0 0 0
used_root = record { code_is = refl; bp_is = refl; term_is = refl }

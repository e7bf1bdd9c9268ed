-- Pools whose blocks are all free are those of a writer who has not begun.
use Rattle.std.proofs.lemmas.List.{length-replicate}
use Rattle.std.proofs.Common.{◌≡◌, ℕ, zero, suc, ◌-◌, inl, inr, List, [], replicate, false, true, refl, sym, subst, ◌∙◌, arith}
use Rattle.std.specs.Prelude.{Some, slice_get, IsTrue}
use Rattle.std.proofs.lemmas.Bool.{cases_lt}
use Rattle.std.proofs.lemmas.Option.{none-some}
use Rattle.prgr_core.proofs.Parts.{and_then_some}
use Rattle.term_core.specs.declared.area.AreaRef.{AreaRef}
use Rattle.area_core.specs.declared.table.Published.{Published}
use Rattle.area_core.specs.declared.table.KeptArea.{KeptArea}
use Rattle.area_core.specs.Generations.{is_retired_area}
use Rattle.area_core.specs.Blocks.{Among}
use Rattle.shared_words.specs.declared.view.WriterView.{WriterView}
use Rattle.literal_areas.specs.declared.blocks.BlockUse.{BlockUse}
use Rattle.literal_areas.specs.declared.blocks.BlockUse.TheVariants.{Free, Live, Retired}
use Rattle.literal_areas.specs.declared.areas.Areas.{Areas}
use Rattle.literal_areas.specs.Blocks.{use_of, serial_of, serial_at, IsSound}
use Rattle.literal_areas.specs.Owned.{AreOf, IsAtFirst}
use Rattle.literal_areas.proofs.Uses.{use_big, use_small, use_none}

false_true : false ≡ true → ⊥
false_true e = (cc)

none_among : {X : Type 0} (x : X) → Among {X = X} [] x → ⊥
none_among x is = absurd (no_element is.0 is.1) where
  no_element : {X : Type 0} (k : ℕ) {x : X} → slice_get {X = X} [] k ≡ Some x → ⊥
  no_element k e = (cc)

-- ---- all blocks are free

free_in : (count k : ℕ) (u : BlockUse) → slice_get (replicate count Free) k ≡ Some u → u ≡ Free
free_in zero k u at = absurd (cc)
free_in (suc count) zero u at = (cc)
free_in (suc count) (suc k) u at = free_in count k u at

abbrev pub free_areas : ℕ → ℕ → Areas
free_areas big small = record { next = 1; big = replicate big Free; small = replicate small Free }

pub each_free : (big small block : ℕ) (u : BlockUse) → use_of (free_areas big small) block ≡ Some u → u ≡ Free
each_free big small block u at =
    elim (cases_lt block 9) as (λ _. u ≡ Free) [
      | inl low ↦ absurd (none-some u (sym (use_none (free_areas big small) block low) ∙ at))
      | inr some ↦ elim (cases_lt block 64) as (λ _. u ≡ Free) [
        | inl low ↦ free_in big (block - 9) u (sym (use_big (free_areas big small) block some low) ∙ at)
        | inr over ↦ free_in small (block - 64) u (sym (use_small (free_areas big small) block over) ∙ at)
      ]
    ]

no_serial : (n : ℕ) (u : BlockUse) → u ≡ Free → serial_of u ≡ Some n → ⊥
no_serial n Free is e = (cc)
no_serial n (Live m) is e = (cc)
no_serial n (Retired m g) is e = (cc)

none_there : (big small block n : ℕ) → serial_at (free_areas big small) block ≡ Some n → ⊥
none_there big small block n at =
    let found = and_then_some serial_of (use_of (free_areas big small) block) n at in
    no_serial n found.0 (each_free big small block found.0 found.1) found.2

free_sound : (big small : ℕ) → big ≡ 55 → small ≡ 256 → IsSound (free_areas big small)
free_sound big small is_big is_small = record {
  sizes = record { big = length-replicate big Free ∙ is_big; small = length-replicate small Free ∙ is_small };
  some = omega (arith);
  first = λ block n at. absurd (none_there big small block n at);
  below = λ block n at. absurd (none_there big small block n at);
  apart = λ a b n at_a at_b. absurd (none_there big small a n at_a);
}

free_retired : (n g : ℕ) → Retired n g ≡ Free → ⊥
free_retired n g e = (cc)

-- ---- nothing was published

module _ (big small : ℕ) (is_big : big ≡ 55) (is_small : small ≡ 256) (w : WriterView) (is : IsAtFirst w) where
  no_area : (p : Published) (a : AreaRef) → Among w.published p → Among p.areas a → ⊥
  no_area p a published among = none_among a (subst (λ (q : Published). Among q.areas a) (is.published p published) among)

  unretired : (p : Published) (n : ℕ) → Among w.published p → IsTrue (is_retired_area p n) → ⊥
  unretired p n published retired = false_true (subst (λ (q : Published). is_retired_area q n ≡ true) (is.published p published) retired)

  pub owned_first : AreOf (free_areas big small) w
  owned_first = record {
    sound = free_sound big small is_big is_small;
    all = is.all;
    kept = λ k among. absurd (none_among k (subst (λ (ks : List KeptArea). Among ks k) is.kept among));
    reached = λ g p counts here a among reaches. absurd (no_area p a (g, here) among);
    taken = λ p a published among. absurd (no_area p a published among);
    past = λ p n published retired. absurd (unretired p n published retired);
    since = λ b n first g p at le here. absurd (free_retired n first (each_free big small b (Retired n first) at));
  }

-- the same of pools that are put together from their lists
pub made_sound : (big small : List BlockUse) → big ≡ replicate 55 Free → small ≡ replicate 256 Free → IsSound (record { next = 1; big = big; small = small })
made_sound big small is_big is_small = subst (λ (z : List BlockUse × List BlockUse). IsSound (record { next = 1; big = z.0; small = z.1 })) (λ i. (sym is_big i, sym is_small i)) (free_sound 55 256 refl refl)

pub made_owned : (big small : List BlockUse) → big ≡ replicate 55 Free → small ≡ replicate 256 Free → (w : WriterView) → IsAtFirst w → AreOf (record { next = 1; big = big; small = small }) w
made_owned big small is_big is_small w begun = subst (λ (z : List BlockUse × List BlockUse). AreOf (record { next = 1; big = z.0; small = z.1 }) w) (λ i. (sym is_big i, sym is_small i)) (owned_first 55 256 refl refl w begun)

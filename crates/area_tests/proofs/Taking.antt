-- The first areas that new pools deal out are live, and none is retired.
use Rattle.std.proofs.Common.{◌≡◌, ℕ, suc, ◌+◌, inl, inr, refl, sym, ap, subst, ◌∙◌, arith}
use mathlib.Core.Logic.{dite}
use native.Mathlib.Decide.{ℕ_discrete}
use Rattle.std.specs.Prelude.{Some}
use Rattle.term_core.specs.declared.area.AreaRef.{AreaRef}
use Rattle.literal_areas.specs.declared.areas.Areas.{Areas}
use Rattle.literal_areas.specs.declared.blocks.Pool.TheVariants.{Big}
use Rattle.literal_areas.specs.declared.blocks.BlockUse.TheVariants.{Free, Live, Retired}
use Rattle.literal_areas.specs.declared.taking.Take.{Take}
use Rattle.literal_areas.specs.declared.taking.Take.TheVariants.{Area}
use Rattle.literal_areas.specs.Blocks.{use_of, opening_areas, HasTaken, HasAnswered}
use Rattle.literal_areas.proofs.Uses.{use_here, use_other}
use Rattle.literal_areas.proofs.Serials.{use_after}
use Rattle.literal_areas.proofs.AtFirst.{each_free}
use Rattle.area_tests.specs.Many.{ref_one}
use Rattle.area_tests.specs.Several.{AreTaken}

free_retired : (serial since : ℕ) → Retired serial since ≡ Free → ⊥
free_retired serial since e = (cc)

live_retired : (serial since n : ℕ) → Retired serial since ≡ Live n → ⊥
live_retired serial since n e = (cc)

pub none_taken : (s : Areas) → s ≡ opening_areas → AreTaken 0 s
none_taken s is = subst (AreTaken 0) (sym is) (record {
  next = refl;
  live = λ i low. absurd (omega (arith, low));
  none = λ block serial since there. free_retired serial since (each_free 55 256 block (Retired serial since) there);
})

-- as an area is written in code
pub ref_is : (n at : ℕ) → n ≡ at → record { serial = n + 1; block = at + 9 } ≡ ref_one at
ref_is n at same = let serial : n + 1 ≡ suc at = omega (arith, same) in let block : at + 9 ≡ 9 + at = omega (arith) in (λ i. record { serial = serial i; block = block i })

module _ (at : ℕ) (old new : Areas) (took : HasTaken Big (ref_one at) old new) (h : AreTaken at old) where
  abbrev base : Areas
  base = record old { next = old.next + 1 }

  free : use_of base (9 + at) ≡ Some Free
  free = took.block.free

  next_taken : AreTaken (at + 1) new
  next_taken = record {
    next = ap (λ (s : Areas). s.next) took.after ∙ ap (λ (n : ℕ). n + 1) h.next;
    live = λ i low. dite (ℕ_discrete i at)
        (λ (same : i ≡ at). subst (λ (j : ℕ). use_of new (9 + j) ≡ Some (Live (suc j))) (sym same) (ap (λ (s : Areas). use_of s (9 + at)) took.after ∙ use_here base (9 + at) Free (Live (suc at)) free))
        (λ (differ : i ≡ at → ⊥). ap (λ (s : Areas). use_of s (9 + i)) took.after ∙ use_other base (9 + at) (9 + i) Free (Live (suc at)) free (λ same. differ (omega (arith, same))) ∙ h.live i (omega (arith, low, differ)));
    none = λ block serial since there.
        elim (use_after base (9 + at) block Free (Live (suc at)) (Retired serial since) free (sym (ap (λ (s : Areas). use_of s block) took.after) ∙ there)) as (λ _. ⊥) [
          | inl here ↦ live_retired serial since (suc at) here.1
          | inr other ↦ h.none block serial since other.1
        ];
  }

pub taken_next : (at : ℕ) (old new : Areas) (answer : Take) (area : AreaRef) → HasAnswered Big old new answer → answer ≡ Area area → area ≡ ref_one at → AreTaken at old → AreTaken (at + 1) new
taken_next at old new answer area told is the_one h =
    let took : HasTaken Big area old new = subst (HasAnswered Big old new) is told in
    next_taken at old new (subst (λ (a : AreaRef). HasTaken Big a old new) the_one took) h

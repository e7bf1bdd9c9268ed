-- Retired areas are looked for and released, one after another.
use Rattle.std.proofs.Common.{◌≡◌, ℕ, suc, ◌+◌, ◌<◌, ◌≤◌, Bool, true, false, cond, length, refl, sym, ap, subst, ◌∙◌, arith}
use mathlib.Core.Logic.{dite}
use native.Mathlib.Decide.{ℕ_discrete}
use Rattle.std.specs.Prelude.{nat_lt}
use Rattle.term_core.specs.declared.area.AreaRef.{AreaRef}
use Rattle.area_core.specs.Map.{doom_place, retire_place}
use Rattle.marks.specs.declared.kept.LookKind.TheVariants.{Both}
use Rattle.marks.proofs.Anchors.{has_element}
use Rattle.shared_words.specs.declared.view.WriterView.{WriterView}
use Rattle.shared_words.specs.Publishing.{with_word}
use Rattle.shared_words.specs.Slots.{LookMayBegin, IsClear}
use Rattle.shared_words.specs.Drops.{drop_of, with_drop}
use Rattle.shared_words.proofs.Dropping.{clear_still}
use Rattle.progress_words.specs.Needs.{HasTaken}
use Rattle.anchors.specs.Scans.{LooksMore}
use Rattle.literal_areas.specs.declared.areas.Areas.{Areas}
use Rattle.literal_areas.specs.declared.blocks.BlockUse.TheVariants.{Free, Retired}
use Rattle.literal_areas.specs.Blocks.{use_of, without_area}
use Rattle.literal_areas.specs.Owned.{AreOf}
use Rattle.literal_areas.specs.Released.{MayRelease, words_cleared, area_released}
use Rattle.literal_areas.proofs.Listed.{owned_looked}
use Rattle.literal_areas.proofs.Uses.{use_other}
use Rattle.area_tests.specs.Gone.{AreGone}
use Rattle.area_tests.specs.Many.{ref_one}
use Rattle.area_tests.specs.Several.{AreClear, AreReleased}
use Rattle.area_tests.proofs.Silent.{clear_kept, clear_looked}

-- ---- before any is released

pub none_clear : (w : WriterView) → AreClear 0 w
none_clear w = record { each = λ i low. absurd (omega (arith, low)) }

pub none_released : (last need : ℕ) (s : Areas) (w : WriterView) → AreGone 0 last s w → HasTaken w 2 need → need ≤ w.counter → AreReleased 0 last need s w
none_released last need s w gone taken enough = record { gone = gone; taken = taken; enough = enough; clear = none_clear w }

-- ---- a look

-- it may begin on one that is not released
pub may_look : (at last need : ℕ) (s : Areas) (w : WriterView) → at < last → AreReleased at last need s w → LookMayBegin w Both (suc at)
may_look at last need s w low h =
    let three = h.gone.published in
    let there = has_element w.published 2 (omega (arith, three)) in record {
      generation = 2;
      ended = record {
        need = need;
        kept = h.taken;
        reached = h.enough;
        published = there.0;
        at = there.1;
        gone = (h.gone.owned.since (9 + at) (suc at) 2 2 there.0 (h.gone.used at (omega (arith)) low) (omega (arith)) there.1).retired;
      };
    }

-- and leaves all as it is
pub released_looked : (count last need : ℕ) (s : Areas) (w v : WriterView) → LooksMore w v → AreReleased count last need s w → AreReleased count last need s v
released_looked count last need s w v more h = record {
  gone = record { owned = owned_looked s w v more.same h.gone.owned; used = h.gone.used; published = ap (λ (x : WriterView). length x.published) more.same ∙ h.gone.published };
  taken = subst (λ (x : WriterView). HasTaken x 2 need) (sym more.same) h.taken;
  enough = subst (λ (x : WriterView). need ≤ x.counter) (sym more.same) h.enough;
  clear = clear_looked count w v more h.clear;
}

-- ---- a release

-- it is allowed once the look was clear
pub may_release : (at last need : ℕ) (s : Areas) (v : WriterView) → at < last → AreReleased at last need s v → IsClear v Both (suc at) → MayRelease s v (ref_one at)
may_release at last need s v low h clear =
    let three = h.gone.published in record {
      since = 2;
      retired = h.gone.used at (omega (arith)) low;
      published = omega (arith, three);
      pair = record { generation = 2; need = need };
      taken = h.taken;
      later = omega (arith);
      reached = h.enough;
      clear = clear;
    }

-- the words are others, and what is kept, and the drop, and nothing else
module _ (area : AreaRef) (v : WriterView) where
  abbrev one : WriterView
  one = with_word (retire_place area.block) 0 v

  abbrev two : WriterView
  two = with_word (doom_place area.block) 0 one

  abbrev after : WriterView → WriterView
  after x = with_drop (drop_of v Both area.serial) x

  either : (b : Bool) → cond b two one ≡ record v { words = (cond b two one).words; kept = (cond b two one).kept }
  either true = refl
  either false = refl

  either_after : (b : Bool) → after (cond b two one) ≡ record v { words = (after (cond b two one)).words; kept = (after (cond b two one)).kept; looks = (after (cond b two one)).looks }
  either_after true = refl
  either_after false = refl

  released_is : (z : WriterView) → z ≡ area_released area v → z ≡ record v { words = z.words; kept = z.kept; looks = z.looks }
  released_is z is = subst (λ (x : WriterView). x ≡ record v { words = x.words; kept = x.kept; looks = x.looks }) (sym is) (either_after (nat_lt area.block 64))

  clear_released : (z : WriterView) → z ≡ area_released area v → (serial : ℕ) → IsClear v Both serial → IsClear z Both serial
  clear_released z is serial clear =
      subst (λ (x : WriterView). IsClear x Both serial) (sym is)
      (clear_still (words_cleared area.block v) (drop_of v Both area.serial) Both serial (clear_kept serial v (words_cleared area.block v) (either (nat_lt area.block 64)) clear))

module _ (at last need : ℕ) (s t : Areas) (v z : WriterView) (h : AreReleased at last need s v) (clear : IsClear v Both (suc at)) (low : at < last) (is : t ≡ without_area (ref_one at) s) (stored : z ≡ area_released (ref_one at) v) (own : AreOf t z) where
  pub one_released : AreReleased (at + 1) last need t z
  one_released = record {
    gone = record {
      owned = own;
      used = λ i first few. ap (λ (x : Areas). use_of x (9 + i)) is ∙ use_other s (9 + at) (9 + i) (Retired (suc at) 2) Free (h.gone.used at (omega (arith)) low) (λ same. omega (arith, same, first)) ∙ h.gone.used i (omega (arith, first)) few;
      published = ap (λ (x : WriterView). length x.published) (released_is (ref_one at) v z stored) ∙ h.gone.published;
    };
    taken = subst (λ (x : WriterView). HasTaken x 2 need) (sym (released_is (ref_one at) v z stored)) h.taken;
    enough = subst (λ (x : WriterView). need ≤ x.counter) (sym (released_is (ref_one at) v z stored)) h.enough;
    clear = record {
      each = λ i few. dite (ℕ_discrete i at)
          (λ (same : i ≡ at). subst (λ (j : ℕ). IsClear z Both (suc j)) (sym same) (clear_released (ref_one at) v z stored (suc at) clear))
          (λ (differ : i ≡ at → ⊥). clear_released (ref_one at) v z stored (suc i) (h.clear.each i (omega (arith, few, differ))));
    };
  }

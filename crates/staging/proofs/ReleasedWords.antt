-- What the words say once an area is released: its retire word is 0, and its doom word where it has one; what stood in the block is kept no more.
use Rattle.std.proofs.Common.{◌≡◌, ℕ, zero, suc, ◌<◌, ◌≤◌, inl, inr, Bool, true, cond, not, ◌&&◌, List, [], ◌∷◌, length, length-set, Some, refl, sym, ap, subst, ◌∙◌, arith}
use Rattle.std.specs.Prelude.{◌==◌, slice_get}
use Rattle.std.specs.List.{filter}
use Rattle.std.proofs.lemmas.Bool.{cases_Bool, cases_lt, eq-eqb, eqb-true, le-ltb, lt-ltb, true≢false}
use Rattle.term_core.specs.declared.area.AreaRef.{AreaRef}
use Rattle.area_core.specs.declared.map.WordKind.TheVariants.{Retire}
use Rattle.area_core.specs.declared.table.KeptArea.{KeptArea}
use Rattle.area_core.specs.Blocks.{Among, KeptApart}
use Rattle.area_core.specs.Map.{doom_place, retire_place, word_at}
use Rattle.area_core.proofs.Places.{kind_doom, kind_retire, word_here, word_there}
use Rattle.area_core.proofs.Tests.{filter_apart, filter_gives}
use Rattle.marks.specs.declared.kept.LookKind.TheVariants.{Both}
use Rattle.marks.specs.Steps.{with_drop_kept}
use Rattle.shared_words.specs.declared.view.WriterView.{WriterView}
use Rattle.shared_words.specs.Drops.{drop_of, with_drop}
use Rattle.shared_words.specs.Publishing.{is_released, kept_left, with_word}
use Rattle.shared_words.proofs.AreaReleases.{not_both, unless}
use Rattle.literal_areas.specs.Released.{area_released, words_cleared}

-- ---- the words

pub record ReleasesWords (block : ℕ) (before after : WriterView) : Type 0 where
  pub same : after ≡ record before { words = after.words; kept = after.kept; looks = after.looks }
  pub retire : word_at after.words (retire_place block) ≡ 0
  pub doom : block < 64 → word_at after.words (doom_place block) ≡ 0
  pub others : (place : ℕ) → (place ≡ retire_place block → ⊥) → (block < 64 → place ≡ doom_place block → ⊥) → word_at after.words place ≡ word_at before.words place
  pub kept : after.kept ≡ kept_left before 0 (Retire block)

module _ (w : WriterView) (area : AreaRef) (within : area.block < 320) (all : length w.words ≡ 83413) where
  abbrev first : WriterView
  first = with_word (retire_place area.block) 0 w

  first_all : length first.words ≡ 83413
  first_all = length-set w.words (retire_place area.block) 0 ∙ all

  kept_first : first.kept ≡ kept_left w 0 (Retire area.block)
  kept_first = ap (kept_left w 0) (kind_retire area.block within)

  both : area.block < 64 → ReleasesWords area.block w (with_drop (drop_of w Both area.serial) (with_word (doom_place area.block) 0 first))
  both big = record {
    same = refl;
    retire = word_there first.words (doom_place area.block) 0 (retire_place area.block) (λ same. omega (arith, big, same)) ∙ word_here w.words (retire_place area.block) 0 (omega (arith, within, all));
    doom = λ low. word_here first.words (doom_place area.block) 0 (let many = first_all in omega (arith, big, many));
    others = λ place off away. word_there first.words (doom_place area.block) 0 place (away big) ∙ word_there w.words (retire_place area.block) 0 place off;
    kept = ap (kept_left first 0) (kind_doom area.block big) ∙ kept_first;
  }

  one : 64 ≤ area.block → ReleasesWords area.block w (with_drop (drop_of w Both area.serial) first)
  one small = record {
    same = refl;
    retire = word_here w.words (retire_place area.block) 0 (omega (arith, within, all));
    doom = λ low. absurd (omega (arith, low, small));
    others = λ place off away. word_there w.words (retire_place area.block) 0 place off;
    kept = kept_first;
  }

  pub releases_words : ReleasesWords area.block w (area_released area w)
  releases_words =
      elim (cases_lt area.block 64) as (λ _. ReleasesWords area.block w (area_released area w)) [
        | inl big ↦
            let is : words_cleared area.block w ≡ with_word (doom_place area.block) 0 first = rw (lt-ltb area.block 64 big) refl in
            subst (λ (v : WriterView). ReleasesWords area.block w (with_drop (drop_of w Both area.serial) v)) (sym is) (both big)
        | inr small ↦
            let is : words_cleared area.block w ≡ first = rw (le-ltb area.block 64 small) refl in
            subst (λ (v : WriterView). ReleasesWords area.block w (with_drop (drop_of w Both area.serial) v)) (sym is) (one small)
      ]

  pub released_looks : (area_released area w).looks ≡ with_drop_kept w.looks (drop_of w Both area.serial)
  released_looks =
      elim (cases_lt area.block 64) as (λ _. (area_released area w).looks ≡ with_drop_kept w.looks (drop_of w Both area.serial)) [
        | inl big ↦
            let is : words_cleared area.block w ≡ with_word (doom_place area.block) 0 first = rw (lt-ltb area.block 64 big) refl in
            ap (λ (v : WriterView). with_drop_kept v.looks (drop_of w Both area.serial)) is
        | inr small ↦
            let is : words_cleared area.block w ≡ first = rw (le-ltb area.block 64 small) refl in
            ap (λ (v : WriterView). with_drop_kept v.looks (drop_of w Both area.serial)) is
      ]

-- ---- what is kept

filter_has : (test : KeptArea → Bool) (xs : List KeptArea) (i : ℕ) (x : KeptArea) → slice_get xs i ≡ Some x → test x ≡ true → Among (filter test xs) x
filter_has test [] i x at passes = absurd (cc)
filter_has test (z ∷ zs) zero x at passes =
    let same : z ≡ x = cc in
    subst (λ (b : Bool). Among (cond b (z ∷ filter test zs) (filter test zs)) x) (sym (ap test same ∙ passes)) (0, at)
filter_has test (z ∷ zs) (suc i) x at passes =
    let behind = filter_has test zs i x at passes in
    elim (cases_Bool (test z)) as (λ _. Among (filter test (z ∷ zs)) x) [
      | inl first ↦ subst (λ (b : Bool). Among (cond b (z ∷ filter test zs) (filter test zs)) x) (sym first) (suc behind.0, behind.1)
      | inr other ↦ subst (λ (b : Bool). Among (cond b (z ∷ filter test zs) (filter test zs)) x) (sym other) behind
    ]

-- what is kept is what was, but for the block
pub record KeepsOthers (block : ℕ) (before after : List KeptArea) : Type 0 where
  pub was : (k : KeptArea) → Among after k → Among before k
  pub off : (k : KeptArea) → Among after k → k.area.block ≡ block → ⊥
  pub still : (k : KeptArea) → Among before k → (k.area.block ≡ block → ⊥) → Among after k
  pub apart : KeptApart before → KeptApart after

pub keeps_others : (w : WriterView) (block : ℕ) → ((k : KeptArea) → Among w.kept k → k.area.block ≡ block → is_released w 0 k ≡ true) → KeepsOthers block w.kept (kept_left w 0 (Retire block))
keeps_others w block released = record {
  was = was;
  off = λ k at same. true≢false (sym (released k (was k at) same) ∙ not_both (k.area.block == block) (is_released w 0 k) (filter_gives test w.kept at.0 k at.1).1 (eq-eqb k.area.block block same));
  still = λ k at differ. filter_has test w.kept at.0 k at.1 (unless (k.area.block == block) (is_released w 0 k) (λ here gone. differ (eqb-true k.area.block block here)));
  apart = λ apart i j a b differ here there.
      let two = filter_apart test w.kept i j a b differ here there in
      apart two.0 two.1 a b two.2 two.3 two.4;
}
  where
    test : KeptArea → Bool
    test k = not ((k.area.block == block) && is_released w 0 k)

    was : (k : KeptArea) → Among (kept_left w 0 (Retire block)) k → Among w.kept k
    was k at = (filter_gives test w.kept at.0 k at.1).0

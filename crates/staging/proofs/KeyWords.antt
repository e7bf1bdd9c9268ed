-- What the words say once the former area is retired.
use Rattle.std.proofs.Common.{◌≡◌, ◌≢◌, inl, inr, ℕ, zero, suc, ◌-◌, ◌<◌, ◌≤◌, Bool, true, false, cond, not, ◌&&◌, List, [], ◌∷◌, ◌++◌, length, length-set, Option, Some, None, refl, sym, ap, subst, ◌∙◌, arith}
use Rattle.std.specs.Prelude.{◌==◌, slice_get, slice_set}
use Rattle.std.specs.List.{filter}
use Rattle.std.proofs.lemmas.Bool.{cases_eq, le-ltb}
use Rattle.std.proofs.lemmas.Bool.Decides.{nat_tests}
use Rattle.term_core.specs.declared.area.AreaRef.{AreaRef}
use Rattle.area_core.specs.declared.table.KeptArea.{KeptArea}
use Rattle.area_core.specs.Map.{kind_at, retire_place, word_at}
use Rattle.area_core.proofs.Places.{kind_retire, word_here, word_there}
use Rattle.shared_words.specs.declared.view.WriterView.{WriterView}
use Rattle.shared_words.specs.Publishing.{is_released, kept_left, with_word}
use Rattle.literal_areas.specs.declared.areas.Areas.{Areas}
use Rattle.literal_areas.specs.declared.blocks.BlockUse.{BlockUse}
use Rattle.literal_areas.specs.declared.blocks.BlockUse.TheVariants.{Free, Live, Retired}
use Rattle.literal_areas.specs.Blocks.{HasSizes, IsLive, use_of, with_retired}
use Rattle.literal_areas.proofs.Uses.{use_here, use_other, use_small, use_within}
use Rattle.staging.specs.Replaced.{FormerRetired}
use Rattle.staging.specs.Standing.{retire_word_of}
use Rattle.staging.specs.Upcoming.{areas_from, areas_in}

-- ---- the areas that are listed

listed_set : (uses : List BlockUse) (start k n since : ℕ) → slice_get uses k ≡ Some (Live n) → areas_from start (slice_set uses k (Retired n since)) ≡ areas_from start uses
listed_set [] start k n since e = absurd (cc)
listed_set (Free ∷ uses) start zero n since e = absurd (cc)
listed_set (Live serial ∷ uses) start zero n since e = let same : n ≡ serial = cc in ap (λ (m : ℕ). areas_from start (Retired m since ∷ uses)) same
listed_set (Retired serial first ∷ uses) start zero n since e = absurd (cc)
listed_set (Free ∷ uses) start (suc k) n since e = listed_set uses (suc start) k n since e
listed_set (Live serial ∷ uses) start (suc k) n since e = ap (λ (areas : List AreaRef). record { serial = serial; block = start } ∷ areas) (listed_set uses (suc start) k n since e)
listed_set (Retired serial first ∷ uses) start (suc k) n since e = ap (λ (areas : List AreaRef). record { serial = serial; block = start } ∷ areas) (listed_set uses (suc start) k n since e)

retired_listed : (s : Areas) (area : AreaRef) (since : ℕ) → IsLive s area → 64 ≤ area.block → areas_in (with_retired area since s) ≡ areas_in s
retired_listed s area since live high =
    rw (le-ltb area.block 64 high) (ap (λ (areas : List AreaRef). areas_from 9 s.big ++ areas) (listed_set s.small 64 (area.block - 64) area.serial since (sym (use_small s area.block high) ∙ live)))

-- the same areas are listed
pub former_listed : (former : Option ℕ) (old new : Areas) (before after : WriterView) → ((block serial : ℕ) → former ≡ Some serial → use_of old block ≡ Some (Live serial) → 64 ≤ block) → FormerRetired former old before new after → areas_in new ≡ areas_in old
former_listed None old new before after high is = ap areas_in is.0
former_listed (Some serial) old new before after high is =
    ap areas_in is.pools ∙ retired_listed old is.area (length before.published) is.live (high is.area.block serial refl (is.live ∙ ap (λ (n : ℕ). Some (Live n)) is.serial_is))

-- ---- the words

-- no word but a retire word is another, and these tell of the pools
pub record RetiresWords (old new : Areas) (before after : WriterView) : Type 0 where
  pub same : after ≡ record before { words = after.words }
  pub long : length after.words ≡ length before.words
  pub others : (place : ℕ) → ((block : ℕ) → block < 320 → place ≢ retire_place block) → word_at after.words place ≡ word_at before.words place
  pub retire : (block : ℕ) → word_at before.words (retire_place block) ≡ retire_word_of (use_of old block) → word_at after.words (retire_place block) ≡ retire_word_of (use_of new block)

filter_all : (test : KeptArea → Bool) (xs : List KeptArea) → ((x : KeptArea) → test x ≡ true) → filter test xs ≡ xs
filter_all test [] all = refl
filter_all test (x ∷ xs) all = ap (λ (b : Bool). cond b (x ∷ filter test xs) (filter test xs)) (all x) ∙ ap (λ (ys : List KeptArea). x ∷ ys) (filter_all test xs all)

both_not : (a b c : Bool) → b ≡ false → not (a && (b && c)) ≡ true
both_not true b c e = ap (λ (x : Bool). not (x && c)) e
both_not false b c e = refl

-- no area is released by a number that is not 0
kept_all : (w : WriterView) (block value : ℕ) → 0 < value → block < 320 → kept_left w value (kind_at (retire_place block)) ≡ w.kept
kept_all w block value some fits =
    ap (kept_left w value) (kind_retire block fits)
    ∙ filter_all (λ k. not ((k.area.block == block) && is_released w value k)) w.kept (λ k. both_not (k.area.block == block) (value == 0) _ (let no : (value == 0) ≡ false = grind (arith, nat_tests) in no))

off_block : (a b : ℕ) → (b ≡ a → ⊥) → retire_place b ≡ retire_place a → ⊥
off_block a b differ same = differ (omega (arith, same))

module _ (s : Areas) (w : WriterView) (area : AreaRef) (since : ℕ) (live : IsLive s area) (sizes : HasSizes s) (all : length w.words ≡ 83413) (some : 0 < since) where
  abbrev after : WriterView
  after = with_word (retire_place area.block) since w

  within : area.block < 320
  within = use_within s area.block (Live area.serial) sizes live

  kept_same : after.kept ≡ w.kept
  kept_same = kept_all w area.block since some within

  retire_now : (block : ℕ) → word_at w.words (retire_place block) ≡ retire_word_of (use_of s block) → word_at after.words (retire_place block) ≡ retire_word_of (use_of (with_retired area since s) block)
  retire_now block was =
      elim (cases_eq block area.block) as (λ _. word_at after.words (retire_place block) ≡ retire_word_of (use_of (with_retired area since s) block)) [
        | inl same ↦
            let fits = within in
            ap (λ (b : ℕ). word_at after.words (retire_place b)) same ∙ word_here w.words (retire_place area.block) since (omega (arith, fits, all))
            ∙ sym (ap (λ (b : ℕ). retire_word_of (use_of (with_retired area since s) b)) same ∙ ap retire_word_of (use_here s area.block (Live area.serial) (Retired area.serial since) live))
        | inr differ ↦
            word_there w.words (retire_place area.block) since (retire_place block) (off_block area.block block differ) ∙ was
            ∙ sym (ap retire_word_of (use_other s area.block block (Live area.serial) (Retired area.serial since) live differ))
      ]

  pub words_area : RetiresWords s (with_retired area since s) w after
  words_area = record {
    same = ap (λ kept. record w { words = slice_set w.words (retire_place area.block) since; kept = kept }) kept_same;
    long = length-set w.words (retire_place area.block) since;
    others = λ place off. word_there w.words (retire_place area.block) since place (off area.block within);
    retire = retire_now;
  }

words_none : (s : Areas) (w : WriterView) → RetiresWords s s w w
words_none s w = record { same = refl; long = refl; others = λ place off. refl; retire = λ block was. was }

pub retires_words : (former : Option ℕ) (old new : Areas) (before after : WriterView) → HasSizes old → length before.words ≡ 83413 → 0 < length before.published → FormerRetired former old before new after → RetiresWords old new before after
retires_words None old new before later sizes all some is = subst (λ (z : Areas × WriterView). RetiresWords old z.0 before z.1) (λ i. (sym is.0 i, sym is.1 i)) (words_none old before)
retires_words (Some serial) old new before later sizes all some is =
    subst (λ (z : Areas × WriterView). RetiresWords old z.0 before z.1) (λ i. (sym is.pools i, sym is.stored i)) (words_area old before is.area (length before.published) is.live sizes all some)

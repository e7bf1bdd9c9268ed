-- A bucket that is filled, and buckets that are all empty.
use Rattle.std.proofs.Common.{◌≡◌, ◌≢◌, ℕ, zero, suc, ◌+◌, ◌*◌, ◌<◌, Option, Some, None, List, length, length-set, replicate, refl, sym, ap, ◌∙◌, subst, arith}
use Rattle.std.specs.Prelude.{slice_set}
use Rattle.std.specs.Option.{option_map}
use Rattle.area_core.specs.Map.{word_at}
use Rattle.area_core.specs.Terms.{key_in, bucket_of, found_in}
use Rattle.area_core.proofs.Places.{word_here, word_there}
use Rattle.area_core.proofs.Buckets.{has_key}
use Rattle.term_table.specs.declared.buckets.Buckets.{Buckets}
use Rattle.term_table.specs.Built.{held_in, IsBuilt, words_of, AreBuilt, IsFree, HasInserted}
use Rattle.term_table.proofs.Searching.{IsPut, put_built, put_found}
use Rattle.term_table.proofs.Counting.{held_none, held_suc, one_empty, put_counted}

module _ (words : List ℕ) (bucket held value : ℕ) (whole : length words ≡ 1024) (within : bucket < 512) where
  abbrev after : List ℕ
  after = slice_set (slice_set words (bucket * 2) held) (bucket * 2 + 1) value

  after_long : length after ≡ 1024
  after_long = length-set (slice_set words (bucket * 2) held) (bucket * 2 + 1) value ∙ length-set words (bucket * 2) held ∙ whole

  stays : (at : ℕ) → at ≢ bucket * 2 → at ≢ bucket * 2 + 1 → word_at after at ≡ word_at words at
  stays at first second = word_there (slice_set words (bucket * 2) held) (bucket * 2 + 1) value at second ∙ word_there words (bucket * 2) held at first

  held_now : word_at after (bucket * 2) ≡ held
  held_now = word_there (slice_set words (bucket * 2) held) (bucket * 2 + 1) value (bucket * 2) (λ same. omega (arith, same)) ∙ word_here words (bucket * 2) held (omega (arith, whole, within))

  value_now : word_at after (bucket * 2 + 1) ≡ value
  value_now = let long = length-set words (bucket * 2) held in word_here (slice_set words (bucket * 2) held) (bucket * 2 + 1) value (omega (arith, whole, within, long))

  -- the key stands there
  pub filled : (key : ℕ) → held ≡ key + 1 → IsPut bucket key value (word_at words) (word_at after)
  filled key is = record {
    key_is = held_now ∙ is;
    value_is = value_now;
    keys = λ c differ. stays (c * 2) (λ same. differ (omega (arith, same))) (λ same. omega (arith, same));
    values = λ c differ. stays (c * 2 + 1) (λ same. omega (arith, same)) (λ same. differ (omega (arith, same)));
  }

-- a key that was put into the first empty bucket
pub inserted : (old new : Buckets) (key value bucket : ℕ) → AreBuilt old → bucket_of (words_of old) key ≡ None → IsFree (words_of old) key bucket → new.words ≡ slice_set (slice_set old.words (bucket * 2) (key + 1)) (bucket * 2 + 1) value → HasInserted key value old new
inserted old new key value bucket built none free stored = subst (λ (ws : List ℕ). HasInserted key value old (record { words = ws })) (sym stored) here
  where
    within : bucket < 512
    within = let is = free.place in omega (arith, is)

    put : IsPut bucket key value (words_of old) (word_at (after old.words bucket (key + 1) value built.whole within))
    put = filled old.words bucket (key + 1) value built.whole within key refl

    here : HasInserted key value old (record { words = after old.words bucket (key + 1) value built.whole within })
    here = record {
      built = record {
        whole = after_long old.words bucket (key + 1) value built.whole within;
        built = put_built (words_of old) (word_at (after old.words bucket (key + 1) value built.whole within)) key value bucket built.built none free put;
      };
      found = put_found (words_of old) (word_at (after old.words bucket (key + 1) value built.whole within)) key value bucket built.built none free put;
      counted = put_counted (words_of old) (word_at (after old.words bucket (key + 1) value built.whole within)) key value bucket put free.empty within;
    }

-- ---- buckets that are all empty

module _ (block : ℕ → ℕ) (empty : (at : ℕ) → block at ≡ 0) where
  pub empty_built : IsBuilt block
  empty_built bucket within full = absurd (full (empty (bucket * 2)))

  pub empty_counted : (n : ℕ) → held_in block n ≡ 0
  empty_counted zero = held_none block
  empty_counted (suc n) =
      let before = empty_counted n in
      let is = held_suc block n in
      let last = one_empty (key_in block n) (empty (n * 2)) in omega (arith, before, is, last)

  pub empty_bucket : (key : ℕ) → bucket_of block key ≡ None
  empty_bucket key = by_bucket (bucket_of block key) refl
    where
      by_bucket : (o : Option ℕ) → bucket_of block key ≡ o → bucket_of block key ≡ None
      by_bucket None is = is
      by_bucket (Some c) is = let held = (has_key block key c is).held in let none = empty (c * 2) in absurd (omega (arith, held, none))

  pub empty_found : (key : ℕ) → found_in block key ≡ None
  empty_found key = ap (option_map (λ (c : ℕ). block (c * 2 + 1))) (empty_bucket key)

-- so many words that are 0
pub zero_at : (n at : ℕ) → word_at (replicate n 0) at ≡ 0
zero_at zero at = refl
zero_at (suc n) zero = refl
zero_at (suc n) (suc at) = zero_at n at

-- A table that is built anew from the buckets of another one, without a key.
use Rattle.std.proofs.Common.{◌≡◌, ◌≢◌, ℕ, ◌+◌, ◌-◌, ◌<◌, ◌≤◌, true, false, not, ◌&&◌, cond, Bool, Option, Some, None, inl, inr, length, refl, sym, ap, ◌∙◌, subst, arith}
use Rattle.std.specs.Prelude.{◌==◌, nat_lt}
use Rattle.std.specs.Option.{option_map}
use Rattle.std.proofs.lemmas.Bool.{eq-eqb, ne_eqb, cases_eq, cases_lt, lt-ltb, le-ltb}
use Rattle.term_core.specs.declared.atom.AtomId.{AtomId}
use Rattle.area_core.specs.Terms.{key_in, bucket_value, bucket_of, found_in}
use Rattle.area_core.proofs.Buckets.{has_key}
use Rattle.term_table.specs.declared.change.Change.TheVariants.{Put, Erase}
use Rattle.term_table.specs.declared.buckets.Buckets.{Buckets}
use Rattle.term_table.specs.Built.{held_in, IsBuilt, words_of, AreBuilt, HasInserted, HasRebuilt, with_found, key_count}
use Rattle.term_table.proofs.Searching.{built_at, not_found}
use Rattle.term_table.proofs.Counting.{held_none, held_more, held_same, held_few}
use Rattle.term_table.proofs.Filled.{empty_built, empty_found, empty_counted}

-- what is found of a key that stands in this bucket, once so many buckets are gone through
abbrev passed : (ℕ → ℕ) → ℕ → ℕ → ℕ → Option ℕ → Option ℕ
passed held gone n other None = None
passed held gone n other (Some c) = cond (nat_lt c n && not (other == gone)) (Some (bucket_value held c)) None

-- whether the bucket is gone through
abbrev gone_by : ℕ → Option ℕ → ℕ
gone_by n None = 0
gone_by n (Some c) = cond (nat_lt c n) 1 0

-- the buckets before this one are gone through
pub record IsRebuilt (held : Buckets) (gone n : ℕ) (now : Buckets) : Type 0 where
  pub built : AreBuilt now
  pub found : (other : ℕ) → found_in (words_of now) other ≡ passed (words_of held) gone n other (bucket_of (words_of held) other)
  pub counted : held_in (words_of now) 512 + gone_by n (bucket_of (words_of held) gone) ≡ held_in (words_of held) n

not_under : (c n : ℕ) → n ≤ c → nat_lt c n ≡ false
not_under c n most = le-ltb c n most

-- ---- the first and the next bucket

module _ (held : Buckets) (gone : ℕ) where
  abbrev block : ℕ → ℕ
  block = words_of held

  none_passed : (other : ℕ) (o : Option ℕ) → passed block gone 0 other o ≡ None
  none_passed other None = refl
  none_passed other (Some c) = ap (λ (t : Bool). cond (t && not (other == gone)) (Some (bucket_value block c)) None) (not_under c 0 (omega (arith)))

  none_gone : (o : Option ℕ) → gone_by 0 o ≡ 0
  none_gone None = refl
  none_gone (Some c) = ap (λ (t : Bool). cond {A = ℕ} t 1 0) (not_under c 0 (omega (arith)))

  -- nothing is gone through
  pub rebuilt_none : (built : Buckets) → length built.words ≡ 1024 → ((at : ℕ) → words_of built at ≡ 0) → IsRebuilt held gone 0 built
  rebuilt_none built whole empty = record {
    built = record { whole = whole; built = empty_built (words_of built) empty };
    found = λ other. empty_found (words_of built) empty other ∙ sym (none_passed other (bucket_of block other));
    counted = let one = empty_counted (words_of built) empty 512 in let two = held_none block in let three = none_gone (bucket_of block gone) in omega (arith, one, two, three);
  }

  same_test : (c n : ℕ) → c ≢ n → nat_lt c (n + 1) ≡ nat_lt c n
  same_test c n differ =
      elim (cases_lt c n) as (λ _. nat_lt c (n + 1) ≡ nat_lt c n) [
        | inl low ↦ lt-ltb c (n + 1) (omega (arith, low)) ∙ sym (lt-ltb c n low)
        | inr most ↦ not_under c (n + 1) (omega (arith, most, differ)) ∙ sym (not_under c n most)
      ]

  same_passed : (n other : ℕ) (o : Option ℕ) → o ≢ Some n → passed block gone (n + 1) other o ≡ passed block gone n other o
  same_passed n other None differ = refl
  same_passed n other (Some c) differ = ap (λ (t : Bool). cond (t && not (other == gone)) (Some (bucket_value block c)) None) (same_test c n (λ same. differ (ap Some same)))

  same_gone : (n : ℕ) (o : Option ℕ) → o ≢ Some n → gone_by (n + 1) o ≡ gone_by n o
  same_gone n None differ = refl
  same_gone n (Some c) differ = ap (λ (t : Bool). cond {A = ℕ} t 1 0) (same_test c n (λ same. differ (ap Some same)))

  module _ (built : IsBuilt block) (n : ℕ) (within : n < 512) (before : Buckets) (h : IsRebuilt held gone n before) where
    -- no other key is found in this bucket
    not_here : (other : ℕ) → key_in block n ≢ other + 1 → bucket_of block other ≢ Some n
    not_here other differ is = differ (has_key block other n is).held

    -- a bucket that is passed over
    pub rebuilt_empty : key_in block n ≡ 0 → IsRebuilt held gone (n + 1) before
    rebuilt_empty empty = record {
      built = h.built;
      found = λ other. h.found other ∙ sym (same_passed n other (bucket_of block other) (not_here other (λ is. omega (arith, is, empty))));
      counted = let one = h.counted in let two = held_same block n empty in let three = same_gone n (bucket_of block gone) (not_here gone (λ is. omega (arith, is, empty))) in omega (arith, one, two, three);
    }

    -- that of the key that is left out
    pub rebuilt_gone : key_in block n ≡ gone + 1 → IsRebuilt held gone (n + 1) before
    rebuilt_gone is = record {
      built = h.built;
      found = λ other. h.found other ∙ left other;
      counted =
          let one = h.counted in
          let two = held_more block n (λ none. omega (arith, is, none)) in
          let was : gone_by n (bucket_of block gone) ≡ 0 = ap (gone_by n) here ∙ ap (λ (t : Bool). cond {A = ℕ} t 1 0) (not_under n n (omega (arith))) in
          let now : gone_by (n + 1) (bucket_of block gone) ≡ 1 = ap (gone_by (n + 1)) here ∙ ap (λ (t : Bool). cond {A = ℕ} t 1 0) (lt-ltb n (n + 1) (omega (arith))) in
          omega (arith, one, two, was, now);
    }
      where
        here : bucket_of block gone ≡ Some n
        here = built_at block gone n built within is

        no_one : (m : ℕ) (o : Option ℕ) → passed block gone m gone o ≡ None
        no_one m None = refl
        no_one m (Some c) = off (nat_lt c m)
          where
            off : (t : Bool) → cond (t && not (gone == gone)) (Some (bucket_value block c)) None ≡ None
            off true = ap (λ (u : Bool). cond (not u) (Some (bucket_value block c)) None) (eq-eqb gone gone refl)
            off false = refl

        left : (other : ℕ) → passed block gone n other (bucket_of block other) ≡ passed block gone (n + 1) other (bucket_of block other)
        left other =
            elim (cases_eq other gone) as (λ _. passed block gone n other (bucket_of block other) ≡ passed block gone (n + 1) other (bucket_of block other)) [
              | inl same ↦ (λ i. passed block gone n (same i) (bucket_of block (same i))) ∙ no_one n (bucket_of block gone) ∙ sym (no_one (n + 1) (bucket_of block gone)) ∙ (λ i. passed block gone (n + 1) (sym same i) (bucket_of block (sym same i)))
              | inr differ ↦ sym (same_passed n other (bucket_of block other) (not_here other (λ one. differ (omega (arith, one, is)))))
            ]

    -- there is room for one more
    pub has_room : held_in (words_of before) 512 < 512
    has_room = let one = h.counted in let few = held_few block n in omega (arith, one, few, within)

    -- ---- a key that is taken over

    module _ (key : ℕ) (is : key_in block n ≡ key + 1) (kept : key ≢ gone) where
      here : bucket_of block key ≡ Some n
      here = built_at block key n built within is

      -- it is not held yet
      pub not_yet : bucket_of (words_of before) key ≡ None
      not_yet = not_found (bucket_of (words_of before) key) (bucket_value (words_of before))
          (h.found key ∙ ap (passed block gone n key) here ∙ ap (λ (t : Bool). cond (t && not (key == gone)) (Some (bucket_value block n)) None) (not_under n n (omega (arith))))

      pub rebuilt_more : (after : Buckets) → HasInserted key (bucket_value block n) before after → IsRebuilt held gone (n + 1) after
      rebuilt_more after put = record {
        built = put.built;
        found = λ other. put.found other ∙ more other;
        counted =
            let one = h.counted in
            let two = put.counted in
            let three = held_more block n (λ none. omega (arith, is, none)) in
            let four = same_gone n (bucket_of block gone) (not_here gone (λ same. kept (omega (arith, same, is)))) in
            omega (arith, one, two, three, four);
      }
        where
          more : (other : ℕ) → with_found key (bucket_value block n) (found_in (words_of before)) other ≡ passed block gone (n + 1) other (bucket_of block other)
          more other =
              elim (cases_eq other key) as (λ _. cond (other == key) (Some (bucket_value block n)) (found_in (words_of before) other) ≡ passed block gone (n + 1) other (bucket_of block other)) [
                | inl same ↦
                    ap (λ (t : Bool). cond t (Some (bucket_value block n)) (found_in (words_of before) other)) (eq-eqb other key same)
                    ∙ sym ((λ i. passed block gone (n + 1) (same i) (bucket_of block (same i))) ∙ ap (passed block gone (n + 1) key) here
                    ∙ (λ i. cond (lt-ltb n (n + 1) (omega (arith)) i && not (ne_eqb key gone kept i)) (Some (bucket_value block n)) None))
                | inr differ ↦
                    ap (λ (t : Bool). cond t (Some (bucket_value block n)) (found_in (words_of before) other)) (ne_eqb other key differ)
                    ∙ h.found other ∙ sym (same_passed n other (bucket_of block other) (not_here other (λ one. differ (omega (arith, one, is)))))
              ]

-- ---- one step of the loop

module _ (held : Buckets) (gone : ℕ) (built : AreBuilt held) (n : ℕ) (within : n < 512) (before : Buckets) (h : IsRebuilt held gone n before) (word : ℕ) (word_is : word ≡ key_in (words_of held) n) where
  -- the bucket is empty
  pub step_empty : word ≡ 0 → IsRebuilt held gone (n + 1) before
  step_empty empty = rebuilt_empty held gone built.built n within before h (sym word_is ∙ empty)

  -- it has the key that is left out
  pub step_gone : word ≡ gone + 1 → IsRebuilt held gone (n + 1) before
  step_gone is = rebuilt_gone held gone built.built n within before h (sym word_is ∙ is)

  module _ (full : word ≢ 0) (other : word ≢ gone + 1) where
    key_is : key_in (words_of held) n ≡ word - 1 + 1
    key_is = omega (arith, word_is, full)

    kept : word - 1 ≢ gone
    kept same = omega (arith, same, full, other)

    -- its key is not held yet
    pub step_new : bucket_of (words_of before) (word - 1) ≡ None
    step_new = not_yet held gone built.built n within before h (word - 1) key_is kept

    -- and then it is
    pub step_more : (value : ℕ) (after : Buckets) → value ≡ bucket_value (words_of held) n → HasInserted (word - 1) value before after → IsRebuilt held gone (n + 1) after
    step_more value after is put =
        rebuilt_more held gone built.built n within before h (word - 1) key_is kept after (subst (λ (v : ℕ). HasInserted (word - 1) v before after) is put)

-- ---- all buckets

-- the table without the key
pub rebuilt_all : (held built : Buckets) (gone : AtomId) → IsRebuilt held gone.0 512 built → HasRebuilt (Erase gone) held built
rebuilt_all held built gone h = record {
  built = h.built;
  found = λ key. h.found key ∙ by_bucket key (bucket_of (words_of held) key) refl;
  counted = let one = h.counted in let two = counts_gone (bucket_of (words_of held) gone.0) refl in omega (arith, one, two);
}
  where
    by_bucket : (key : ℕ) (o : Option ℕ) → bucket_of (words_of held) key ≡ o → passed (words_of held) gone.0 512 key o ≡ cond (key == gone.0) None (option_map (bucket_value (words_of held)) o)
    by_bucket key None is = same_none (key == gone.0)
      where
        same_none : (t : Bool) → None ≡ cond {A = Option ℕ} t None None
        same_none true = refl
        same_none false = refl
    by_bucket key (Some c) is = ap (λ (t : Bool). cond (t && not (key == gone.0)) (Some (bucket_value (words_of held) c)) None) (lt-ltb c 512 (has_key (words_of held) key c is).within) ∙ turned (key == gone.0)
      where
        turned : (t : Bool) → cond (not t) (Some (bucket_value (words_of held) c)) None ≡ cond t None (Some (bucket_value (words_of held) c))
        turned true = refl
        turned false = refl

    counts_gone : (o : Option ℕ) → bucket_of (words_of held) gone.0 ≡ o → gone_by 512 o ≡ key_count (option_map (bucket_value (words_of held)) o)
    counts_gone None is = refl
    counts_gone (Some c) is = ap (λ (t : Bool). cond {A = ℕ} t 1 0) (lt-ltb c 512 (has_key (words_of held) gone.0 c is).within)

module _ (held without : Buckets) (key : AtomId) (h : HasRebuilt (Erase key) held without) where
  none_held : found_in (words_of without) key.0 ≡ None
  none_held = h.found key.0 ∙ ap (λ (t : Bool). cond t None (found_in (words_of held) key.0)) (eq-eqb key.0 key.0 refl)

  -- the key that is left out is not held
  pub is_gone : bucket_of (words_of without) key.0 ≡ None
  is_gone = not_found (bucket_of (words_of without) key.0) (bucket_value (words_of without)) none_held

  -- and there is room for it
  pub room_left : held_in (words_of held) 512 ≤ 384 → held_in (words_of without) 512 < 512
  room_left few = let one = h.counted in omega (arith, one, few)

  -- it may be held with another value
  pub rebuilt_with : (value : ℕ) (built : Buckets) → HasInserted key.0 value without built → HasRebuilt (Put key value) held built
  rebuilt_with value built put = record {
    built = put.built;
    found = λ other. put.found other ∙ by_test other (other == key.0) refl;
    counted = let one = h.counted in let two = put.counted in omega (arith, one, two);
  }
    where
      by_test : (other : ℕ) (t : Bool) → (other == key.0) ≡ t → cond t (Some value) (found_in (words_of without) other) ≡ cond t (Some value) (found_in (words_of held) other)
      by_test other true is = refl
      by_test other false is = h.found other ∙ ap (λ (t : Bool). cond t None (found_in (words_of held) other)) is

-- Searches in a table of buckets, and what one more key leaves of them.
use Rattle.std.proofs.Common.{◌≡◌, ◌≢◌, ℕ, zero, suc, ◌+◌, ◌-◌, ◌%◌, ◌<◌, ◌≤◌, true, false, cond, Bool, Option, Some, None, is_some, inl, inr, refl, sym, ap, ◌∙◌, arith}
use Rattle.std.specs.Prelude.{◌==◌}
use Rattle.std.specs.Option.{option_map}
use Rattle.std.proofs.lemmas.Bool.{eq-eqb, ne_eqb, cases_eq, cases_lt}
use Rattle.area_core.specs.Terms.{key_in, bucket_value, look_at, looked, found_outcome, bucket_of, found_in}
use Rattle.area_core.proofs.Counted.{looked_none, looked_suc}
use Rattle.area_core.proofs.Buckets.{has_key}
use Rattle.term_table.specs.Built.{IsBuilt, IsFree, with_found}

-- ---- one bucket

-- the bucket that is looked at after so many
abbrev pub place_of : ℕ → ℕ → ℕ
place_of key tried = (key % 512 + tried) % 512

pub place_within : (key tried : ℕ) → place_of key tried < 512
place_within key tried = omega (arith)

-- what is known after a look at a bucket with this word
abbrev look : ℕ → ℕ → ℕ → Option (Option ℕ)
look held key bucket = cond (held == 0) (Some None) (cond (held == key + 1) (Some (Some bucket)) None)

look_is : (block : ℕ → ℕ) (key bucket held : ℕ) → key_in block bucket ≡ held → look_at block key bucket None ≡ look held key bucket
look_is block key bucket held is = ap (λ (n : ℕ). look n key bucket) is

pub look_none : (block : ℕ → ℕ) (key bucket : ℕ) → key_in block bucket ≡ 0 → look_at block key bucket None ≡ Some None
look_none block key bucket empty = look_is block key bucket 0 empty

pub look_here : (block : ℕ → ℕ) (key bucket : ℕ) → key_in block bucket ≡ key + 1 → look_at block key bucket None ≡ Some (Some bucket)
look_here block key bucket own =
    look_is block key bucket (key + 1) own ∙ (λ i. cond (ne_eqb (key + 1) 0 (λ none. omega (arith, none)) i) (Some None) (cond (eq-eqb (key + 1) (key + 1) refl i) (Some (Some bucket)) None))

pub look_on : (block : ℕ → ℕ) (key bucket : ℕ) → key_in block bucket ≢ 0 → key_in block bucket ≢ key + 1 → look_at block key bucket None ≡ None
look_on block key bucket full other =
    (λ i. cond (ne_eqb (key_in block bucket) 0 full i) (Some None) (cond (ne_eqb (key_in block bucket) (key + 1) other i) (Some (Some bucket)) None))

-- ---- a search

no_some : (o : Option ℕ) (b : ℕ) → o ≡ None → o ≡ Some b → ⊥
no_some o b none some = absurd (cc)

-- what is known stays known
pub looked_stays : (block : ℕ → ℕ) (key n m : ℕ) (known : Option ℕ) → n ≤ m → looked block key n ≡ Some known → looked block key m ≡ Some known
looked_stays block key n zero known most is = let same : zero ≡ n = omega (arith, most) in ap (looked block key) same ∙ is
looked_stays block key n (suc m) known most is =
    elim (cases_lt m n) as (λ _. looked block key (suc m) ≡ Some known) [
      | inl last ↦ let same : suc m ≡ n = omega (arith, most, last) in ap (looked block key) same ∙ is
      | inr before ↦ looked_suc block key m ∙ ap (look_at block key (place_of key m)) (looked_stays block key n m known before is)
    ]

-- a search that came so far goes on, and ends at an empty bucket or one of the key
pub looked_more : (block : ℕ → ℕ) (key n : ℕ) → looked block key n ≡ None → looked block key (suc n) ≡ look_at block key (place_of key n) None
looked_more block key n is = looked_suc block key n ∙ ap (look_at block key (place_of key n)) is

pub found_last : (block : ℕ → ℕ) (key n : ℕ) (known : Option ℕ) → n < 512 → looked block key n ≡ None → look_at block key (place_of key n) None ≡ Some known → bucket_of block key ≡ known
found_last block key n known few is last = ap found_outcome (looked_stays block key (suc n) 512 known (omega (arith, few)) (looked_more block key n is ∙ last))

known_bucket : (known : Option (Option ℕ)) (b : ℕ) → found_outcome known ≡ Some b → known ≡ Some (Some b)
known_bucket None b e = absurd (cc)
known_bucket (Some found) b e = ap Some e

-- each bucket that a search passes is full
pub passed_full : (block : ℕ → ℕ) (key n i : ℕ) → looked block key n ≡ None → i < n → key_in block (place_of key i) ≡ 0 → ⊥
passed_full block key zero i is low empty = omega (arith, low)
passed_full block key (suc n) i is low empty = by_known (looked block key n) refl (passed_full block key n i)
  where
    by_known : (known : Option (Option ℕ)) → looked block key n ≡ known → (looked block key n ≡ None → i < n → key_in block (place_of key i) ≡ 0 → ⊥) → ⊥
    by_known (Some known) was again = let e : looked block key (suc n) ≡ Some known = looked_suc block key n ∙ ap (look_at block key (place_of key n)) was in absurd (cc)
    by_known None was again =
        elim (cases_eq i n) as (λ _. ⊥) [
          | inl same ↦ (let e : looked block key (suc n) ≡ Some None = looked_more block key n was ∙ look_none block key (place_of key n) (ap (λ (j : ℕ). key_in block (place_of key j)) (sym same) ∙ empty) in absurd (cc))
          | inr differ ↦ again was (omega (arith, low, differ)) empty
        ]

-- a search that found nothing ends as before where what stands in full buckets stays
search_kept : (block after : ℕ → ℕ) (key n : ℕ) (known : Option (Option ℕ)) → ((c : ℕ) → key_in block c ≢ 0 → key_in after c ≡ key_in block c) → looked block key n ≡ known → known ≢ Some None → looked after key n ≡ known
search_kept block after key zero known same is some = looked_none after key ∙ sym (looked_none block key) ∙ is
search_kept block after key (suc n) known same is some = by_known (looked block key n) refl (λ was. search_kept block after key n was same)
  where
    by_known : (before : Option (Option ℕ)) → looked block key n ≡ before → ((was : Option (Option ℕ)) → looked block key n ≡ was → was ≢ Some None → looked after key n ≡ was) → looked after key (suc n) ≡ known
    by_known (Some (Some b)) was again =
        looked_suc after key n ∙ ap (look_at after key (place_of key n)) (again (Some (Some b)) was (λ e. absurd (cc))) ∙ sym (looked_suc block key n ∙ ap (look_at block key (place_of key n)) was) ∙ is
    by_known (Some None) was again = absurd (some (sym is ∙ looked_suc block key n ∙ ap (look_at block key (place_of key n)) was))
    by_known None was again =
        elim (cases_eq (key_in block (place_of key n)) 0) as (λ _. looked after key (suc n) ≡ known) [
          | inl empty ↦ absurd (some (sym is ∙ looked_more block key n was ∙ look_none block key (place_of key n) empty))
          | inr full ↦
              looked_more after key n (again None was (λ e. absurd (cc)))
              ∙ look_is after key (place_of key n) (key_in block (place_of key n)) (same (place_of key n) full)
              ∙ sym (looked_more block key n was) ∙ is
        ]

-- ---- a table that is built anew

pub built_at : (block : ℕ → ℕ) (key b : ℕ) → IsBuilt block → b < 512 → key_in block b ≡ key + 1 → bucket_of block key ≡ Some b
built_at block key b built within here =
    let is : key_in block b - 1 ≡ key = omega (arith, here) in
    ap (bucket_of block) (sym is) ∙ built b within (λ empty. omega (arith, here, empty))

pub no_key : (block : ℕ → ℕ) (key b : ℕ) → IsBuilt block → bucket_of block key ≡ None → b < 512 → key_in block b ≡ key + 1 → ⊥
no_key block key b built none within here = no_some (bucket_of block key) b none (built_at block key b built within here)

pub not_found : (found : Option ℕ) (f : ℕ → ℕ) → option_map f found ≡ None → found ≡ None
not_found None f e = refl
not_found (Some b) f e = absurd (cc)

-- ---- one more key

-- the words have this key in this bucket besides
pub record IsPut (bucket key value : ℕ) (block after : ℕ → ℕ) : Type 0 where
  pub key_is : key_in after bucket ≡ key + 1
  pub value_is : bucket_value after bucket ≡ value
  pub keys : (c : ℕ) → c ≢ bucket → key_in after c ≡ key_in block c
  pub values : (c : ℕ) → c ≢ bucket → bucket_value after c ≡ bucket_value block c

module _ (block after : ℕ → ℕ) (key value b : ℕ) (built : IsBuilt block) (new : bucket_of block key ≡ None) (free : IsFree block key b) (put : IsPut b key value block after) where
  within : b < 512
  within = let is = free.place in omega (arith, is)

  full_kept : (c : ℕ) → key_in block c ≢ 0 → key_in after c ≡ key_in block c
  full_kept c full = put.keys c (λ same. full (ap (key_in block) same ∙ free.empty))

  new_found : bucket_of after key ≡ Some b
  new_found =
      let passed : looked after key free.tried ≡ None = search_kept block after key free.tried None full_kept free.passed (λ e. absurd (cc)) in
      let here : look_at after key (place_of key free.tried) None ≡ Some (Some b) = ap (λ (c : ℕ). look_at after key c None) (sym free.place) ∙ look_here after key b put.key_is in
      found_last after key free.tried (Some b) free.few passed here

  -- each key is found in its bucket still
  pub put_built : IsBuilt after
  put_built c inside full =
      elim (cases_eq c b) as (λ _. bucket_of after (key_in after c - 1) ≡ Some c) [
        | inl same ↦ (
            let is : key_in after c ≡ key + 1 = ap (key_in after) same ∙ put.key_is in
            let key_is : key_in after c - 1 ≡ key = omega (arith, is) in
            ap (bucket_of after) key_is ∙ new_found ∙ ap Some (sym same))
        | inr differ ↦ (
            let same = put.keys c differ in
            let was : bucket_of block (key_in block c - 1) ≡ Some c = built c inside (λ empty. full (same ∙ empty)) in
            let known : looked block (key_in block c - 1) 512 ≡ Some (Some c) = known_bucket (looked block (key_in block c - 1) 512) c was in
            ap (λ (n : ℕ). bucket_of after (n - 1)) same ∙ ap found_outcome (search_kept block after (key_in block c - 1) 512 (Some (Some c)) full_kept known (λ e. absurd (cc))))
      ]

  value_found : (other c : ℕ) → bucket_of after other ≡ Some c → found_in after other ≡ Some (bucket_value after c)
  value_found other c is = ap (option_map (bucket_value after)) is

  other_found : (other : ℕ) → other ≢ key → found_in after other ≡ found_in block other
  other_found other differ = by_bucket (bucket_of block other) refl
    where
      by_after : (o : Option ℕ) → bucket_of after other ≡ o → bucket_of block other ≡ None → bucket_of after other ≡ None
      by_after None is none = is
      by_after (Some c) is none =
          let has = has_key after other c is in
          elim (cases_eq c b) as (λ _. bucket_of after other ≡ None) [
            | inl same ↦ (
                let one : key_in after c ≡ key + 1 = ap (key_in after) same ∙ put.key_is in
                let two = has.held in
                absurd (differ (omega (arith, one, two))))
            | inr apart ↦ absurd (no_key block other c built none has.within (sym (put.keys c apart) ∙ has.held))
          ]

      by_bucket : (o : Option ℕ) → bucket_of block other ≡ o → found_in after other ≡ found_in block other
      by_bucket None is = ap (option_map (bucket_value after)) (by_after (bucket_of after other) refl is) ∙ sym (ap (option_map (bucket_value block)) is)
      by_bucket (Some c) is =
          let has = has_key block other c is in
          let full : key_in block c ≢ 0 = λ none. let held = has.held in omega (arith, held, none) in
          let apart : c ≢ b = λ same. full (ap (key_in block) same ∙ free.empty) in
          value_found other c (built_at after other c put_built has.within (full_kept c full ∙ has.held))
          ∙ ap Some (put.values c apart) ∙ sym (ap (option_map (bucket_value block)) is)

  -- and one more is found
  pub put_found : (other : ℕ) → found_in after other ≡ with_found key value (found_in block) other
  put_found other =
      elim (cases_eq other key) as (λ _. found_in after other ≡ cond (other == key) (Some value) (found_in block other)) [
        | inl same ↦ ap (found_in after) same ∙ value_found key b new_found ∙ ap Some put.value_is ∙ sym (ap (λ (t : Bool). cond t (Some value) (found_in block other)) (eq-eqb other key same))
        | inr differ ↦ other_found other differ ∙ sym (ap (λ (t : Bool). cond t (Some value) (found_in block other)) (ne_eqb other key differ))
      ]

-- ---- what a loop over the buckets says

pub begun : (block : ℕ → ℕ) (key : ℕ) → looked block key 0 ≡ None
begun block key = looked_none block key

-- the key is not held where the search ends at an empty bucket
pub ended_empty : (block : ℕ → ℕ) (key n : ℕ) → n < 512 → looked block key n ≡ None → key_in block ((key % 512 + n) % 512) ≡ 0 → false ≡ is_some (bucket_of block key)
ended_empty block key n few passed empty = ap is_some (sym (found_last block key n None few passed (look_none block key (place_of key n) empty)))

-- it is where it ends at the key
pub ended_here : (block : ℕ → ℕ) (key n : ℕ) → n < 512 → looked block key n ≡ None → key_in block ((key % 512 + n) % 512) ≡ key + 1 → true ≡ is_some (bucket_of block key)
ended_here block key n few passed own = ap is_some (sym (found_last block key n (Some (place_of key n)) few passed (look_here block key (place_of key n) own)))

-- it is not where all buckets are passed
pub ended_all : (block : ℕ → ℕ) (key : ℕ) → looked block key 512 ≡ None → false ≡ is_some (bucket_of block key)
ended_all block key passed = ap (λ (known : Option (Option ℕ)). is_some (found_outcome known)) (sym passed)

-- else the search goes on
pub looked_on : (block : ℕ → ℕ) (key n : ℕ) → looked block key n ≡ None → key_in block ((key % 512 + n) % 512) ≢ 0 → key_in block ((key % 512 + n) % 512) ≢ key + 1 → looked block key (n + 1) ≡ None
looked_on block key n passed full other =
    let e : n + 1 ≡ suc n = omega (arith) in
    ap (looked block key) e ∙ looked_more block key n passed ∙ look_on block key (place_of key n) full other

-- a full bucket has another key where the key is not held
pub looked_on_new : (block : ℕ → ℕ) (key n : ℕ) → IsBuilt block → bucket_of block key ≡ None → looked block key n ≡ None → key_in block ((key % 512 + n) % 512) ≢ 0 → looked block key (n + 1) ≡ None
looked_on_new block key n built none passed full =
    looked_on block key n passed full (λ own. no_key block key (place_of key n) built none (place_within key n) own)

pub free_here : (block : ℕ → ℕ) (key n : ℕ) → n < 512 → looked block key n ≡ None → key_in block ((key % 512 + n) % 512) ≡ 0 → IsFree block key ((key % 512 + n) % 512)
free_here block key n few passed empty = record { tried = n; few = few; place = refl; passed = passed; empty = empty }

pub free_within : (block : ℕ → ℕ) (key bucket : ℕ) → IsFree block key bucket → bucket < 512
free_within block key bucket free = let is = free.place in omega (arith, is)

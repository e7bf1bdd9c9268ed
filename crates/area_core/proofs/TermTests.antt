-- The test of a term table, by one search for each key and one look at each bucket, says that the table stands for the keys.
use Rattle.std.proofs.Common.{◌≡◌, ℕ, zero, suc, ◌+◌, ◌-◌, ◌<◌, true, List, Option, Some, None, inl, inr, refl, sym, ap, ◌∙◌, subst, arith}
use Rattle.std.specs.Prelude.{◌==◌, ◌||◌, slice_get, IsTrue, IsSomeAnd}
use Rattle.std.specs.List.{list_any}
use Rattle.std.specs.Option.{option_map}
use Rattle.std.proofs.lemmas.Bool.{and_parts, and_from, or_cases, or_right, eqb-true, eq-eqb, cases_lt}
use Rattle.term_core.specs.declared.generation.KeyTerm.{KeyTerm}
use Rattle.area_core.specs.declared.map.TheConstants.{BUCKETS}
use Rattle.area_core.specs.declared.table.Published.{Published}
use Rattle.area_core.specs.Generations.{is_term_word}
use Rattle.area_core.specs.Terms.{key_in, bucket_value, bucket_of, found_in, is_word_of, TermsStand, is_found, is_bucket, holds_one_of, is_known, is_bucket_known, are_found, are_buckets_known, terms_stand}
use Rattle.area_core.proofs.Buckets.{has_key}
use Rattle.area_core.proofs.Counted.{known_none, known_suc}
use Rattle.area_core.proofs.Tests.{some_passes, passed_by, each_passes, all_pass}

-- ---- each bucket

module _ (block : ℕ → ℕ) (keys : List KeyTerm) where
  buckets_each : (n bucket : ℕ) → are_buckets_known block keys n ≡ true → bucket < n → is_bucket_known block keys bucket ≡ true
  buckets_each zero bucket e below = absurd (omega (arith))
  buckets_each (suc n) bucket e below =
      elim (cases_lt bucket n) as (λ _. is_bucket_known block keys bucket ≡ true) [
        | inl before ↦ buckets_each n bucket parts.0 before
        | inr last ↦ let same : n ≡ bucket = omega (arith) in subst (λ (b : ℕ). is_bucket_known block keys b ≡ true) same parts.1
      ]
    where
      parts : (are_buckets_known block keys n ≡ true) × (is_bucket_known block keys n ≡ true)
      parts = and_parts (are_buckets_known block keys n) (is_bucket_known block keys n) (sym (known_suc block keys n) ∙ e)

  buckets_from : (n : ℕ) → ((bucket : ℕ) → is_bucket_known block keys bucket ≡ true) → are_buckets_known block keys n ≡ true
  buckets_from zero each = known_none block keys
  buckets_from (suc n) each = known_suc block keys n ∙ and_from (are_buckets_known block keys n) (is_bucket_known block keys n) (buckets_from n each) (each n)

  -- the bucket in which a key is found holds one of the keys, where the bucket is known
  holds_found : (key bucket : ℕ) → bucket_of block key ≡ Some bucket → is_bucket_known block keys bucket ≡ true → holds_one_of block keys bucket ≡ true
  holds_found key bucket found known =
      let has = has_key block key bucket found in
      let back : key + 1 - 1 ≡ key = omega (arith) in
      let own : key_in block bucket - 1 ≡ key = ap (λ (x : ℕ). x - 1) has.held ∙ back in
      elim (or_cases (key_in block bucket == 0 || holds_one_of block keys bucket) (is_known block keys (bucket_of block (key_in block bucket - 1))) known) as (λ _. holds_one_of block keys bucket ≡ true) [
        | inl here ↦
            elim (or_cases (key_in block bucket == 0) (holds_one_of block keys bucket) here) as (λ _. holds_one_of block keys bucket ≡ true) [
              | inl none ↦ absurd (no_key (key_in block bucket) key (eqb-true (key_in block bucket) 0 none) has.held)
              | inr holds ↦ holds
            ]
        | inr elsewhere ↦ sym (ap (is_known block keys) (ap (bucket_of block) own ∙ found)) ∙ elsewhere
      ]
    where
      no_key : (n key : ℕ) → n ≡ 0 → n ≡ key + 1 → ⊥
      no_key n key none some = absurd (omega (arith))

  -- the key that is found in a bucket which holds one of the keys is that one
  key_held : (key bucket : ℕ) → bucket_of block key ≡ Some bucket → holds_one_of block keys bucket ≡ true → (k : KeyTerm) × (i : ℕ) × (slice_get keys i ≡ Some k) × (k.key.0 ≡ key)
  key_held key bucket found holds =
      let one = passed_by (λ (k : KeyTerm). is_bucket bucket (bucket_of block k.key.0)) keys holds in
      let has = has_key block key bucket found in
      let held = has_key block one.0.key.0 bucket (found_there bucket (bucket_of block one.0.key.0) one.3) in
      (one.0, one.1, one.2, same_key (key_in block bucket) one.0.key.0 key held.held has.held)
    where
      found_there : (bucket : ℕ) (found : Option ℕ) → is_bucket bucket found ≡ true → found ≡ Some bucket
      found_there bucket None e = absurd (cc)
      found_there bucket (Some at) e = ap Some (eqb-true at bucket e)

      same_key : (n a b : ℕ) → n ≡ a + 1 → n ≡ b + 1 → a ≡ b
      same_key n a b one other = omega (arith, one, other)

-- ---- the test and what it says

module _ (block : ℕ → ℕ) (p : Published) where
  found_passes : (k : KeyTerm) (found : Option ℕ) → is_found p k found ≡ true → IsSomeAnd found (λ word. IsTrue (is_term_word p k.holding word))
  found_passes k None e = absurd (cc)
  found_passes k (Some word) e = e

  passes_found : (k : KeyTerm) (found : Option ℕ) → IsSomeAnd found (λ word. IsTrue (is_term_word p k.holding word)) → is_found p k found ≡ true
  passes_found k None e = absurd e
  passes_found k (Some word) e = e

  -- what is found in a bucket is what the one key has that it holds
  word_says : (key word bucket : ℕ) → IsTrue (terms_stand block p) → bucket_of block key ≡ Some bucket → found_in block key ≡ Some word → IsTrue (list_any (is_word_of p key word) p.state.keys)
  word_says key word bucket passes at found =
      let parts = and_parts (are_found block p p.state.keys) (are_buckets_known block p.state.keys BUCKETS) passes in
      let has = has_key block key bucket at in
      let known = buckets_each block p.state.keys BUCKETS bucket parts.1 has.within in
      let one = key_held block p.state.keys key bucket at (holds_found block p.state.keys key bucket at known) in
      let held = each_passes (λ (k : KeyTerm). is_found p k (found_in block k.key.0)) p.state.keys one.1 one.0 parts.0 one.2 in
      let told : is_term_word p one.0.holding word ≡ true = sym (ap (is_found p one.0) (ap (found_in block) one.3 ∙ found)) ∙ held in
      some_passes (is_word_of p key word) p.state.keys one.1 one.0 one.2
      (and_from (one.0.key.0 == key) (is_term_word p one.0.holding word) (ap (λ (x : ℕ). x == key) one.3 ∙ eq-eqb key key refl) told)

  -- a table that passes stands for the keys
  pub terms_stand_true : IsTrue (terms_stand block p) → TermsStand block p
  terms_stand_true passes =
      let parts = and_parts (are_found block p p.state.keys) (are_buckets_known block p.state.keys BUCKETS) passes in
      record {
        found = λ i k at. found_passes k (found_in block k.key.0) (each_passes (λ (k : KeyTerm). is_found p k (found_in block k.key.0)) p.state.keys i k parts.0 at);
        only = λ key word found. by_bucket key word (bucket_of block key) refl found;
      }
    where
      by_bucket : (key word : ℕ) (at : Option ℕ) → bucket_of block key ≡ at → found_in block key ≡ Some word → IsTrue (list_any (is_word_of p key word) p.state.keys)
      by_bucket key word None is found = absurd (not_found (found_in block key) word (ap (option_map (bucket_value block)) is) found)
        where
          not_found : (known : Option ℕ) (word : ℕ) → known ≡ None → known ≡ Some word → ⊥
          not_found known word none some = absurd (cc)
      by_bucket key word (Some bucket) is found = word_says key word bucket passes is found

  -- where what is found under a key is the generation's, the bucket in which it is found holds one of the keys
  stands_known : (key : ℕ) (at : Option ℕ) → TermsStand block p → bucket_of block key ≡ at → is_known block p.state.keys at ≡ true
  stands_known key None stands is = refl
  stands_known key (Some bucket) stands is =
      let one = passed_by (is_word_of p key (bucket_value block bucket)) p.state.keys (stands.only key (bucket_value block bucket) (ap (option_map (bucket_value block)) is)) in
      let same = eqb-true one.0.key.0 key (and_parts (one.0.key.0 == key) (is_term_word p one.0.holding (bucket_value block bucket)) one.3).0 in
      some_passes (λ (k : KeyTerm). is_bucket bucket (bucket_of block k.key.0)) p.state.keys one.1 one.0 one.2
      (ap (is_bucket bucket) (ap (bucket_of block) same ∙ is) ∙ eq-eqb bucket bucket refl)

  -- a table that stands for the keys passes
  pub terms_stand_back : TermsStand block p → IsTrue (terms_stand block p)
  terms_stand_back stands =
      and_from (are_found block p p.state.keys) (are_buckets_known block p.state.keys BUCKETS)
      (all_pass (λ (k : KeyTerm). is_found p k (found_in block k.key.0)) p.state.keys (λ i k at. passes_found k (found_in block k.key.0) (stands.found i k at)))
      (buckets_from block p.state.keys BUCKETS (λ bucket.
      or_right (key_in block bucket == 0 || holds_one_of block p.state.keys bucket) (is_known block p.state.keys (bucket_of block (key_in block bucket - 1))) (stands_known (key_in block bucket - 1) (bucket_of block (key_in block bucket - 1)) stands refl)))

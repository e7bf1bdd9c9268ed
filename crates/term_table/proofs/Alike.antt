-- Two tables of buckets with the same words.
use Rattle.std.proofs.Common.{◌≡◌, ℕ, zero, suc, ◌+◌, ◌-◌, ◌*◌, ◌<◌, Option, Some, None, refl, sym, ap, ◌∙◌, subst, arith}
use Rattle.std.specs.Prelude.{IsSomeAnd, IsTrue}
use Rattle.std.specs.Option.{option_map}
use Rattle.area_core.specs.declared.table.Published.{Published}
use Rattle.area_core.specs.Generations.{is_term_word}
use Rattle.area_core.specs.Terms.{key_in, bucket_value, look_at, looked, found_outcome, bucket_of, found_in, TermsStand}
use Rattle.area_core.proofs.Counted.{looked_none, looked_suc}
use Rattle.area_core.proofs.Buckets.{has_key}
use Rattle.term_table.specs.Built.{held_in, IsBuilt, IsTable}
use Rattle.term_table.proofs.Searching.{place_of, place_within}
use Rattle.term_table.proofs.Counting.{held_alike}

module _ (a b : ℕ → ℕ) (same : (at : ℕ) → at < 1024 → a at ≡ b at) where
  keys_same : (c : ℕ) → c < 512 → key_in a c ≡ key_in b c
  keys_same c few = same (c * 2) (omega (arith, few))

  values_same : (c : ℕ) → c < 512 → bucket_value a c ≡ bucket_value b c
  values_same c few = same (c * 2 + 1) (omega (arith, few))

  look_same : (key c : ℕ) (known : Option (Option ℕ)) → c < 512 → look_at a key c known ≡ look_at b key c known
  look_same key c (Some known) few = refl
  look_same key c None few = ap (λ (held : ℕ). look_at (λ _. held) key c None) (keys_same c few)

  looked_same : (key n : ℕ) → looked a key n ≡ looked b key n
  looked_same key zero = looked_none a key ∙ sym (looked_none b key)
  looked_same key (suc n) = looked_suc a key n ∙ look_same key (place_of key n) (looked a key n) (place_within key n) ∙ ap (look_at b key (place_of key n)) (looked_same key n) ∙ sym (looked_suc b key n)

  -- a search ends in the same bucket
  pub bucket_same : (key : ℕ) → bucket_of a key ≡ bucket_of b key
  bucket_same key = ap found_outcome (looked_same key 512)

  -- and finds the same
  pub found_same : (key : ℕ) → found_in a key ≡ found_in b key
  found_same key = by_bucket (bucket_of b key) refl
    where
      by_bucket : (o : Option ℕ) → bucket_of b key ≡ o → found_in a key ≡ found_in b key
      by_bucket None is = ap (option_map (bucket_value a)) (bucket_same key ∙ is) ∙ sym (ap (option_map (bucket_value b)) is)
      by_bucket (Some c) is = ap (option_map (bucket_value a)) (bucket_same key ∙ is) ∙ ap Some (values_same c (has_key b key c is).within) ∙ sym (ap (option_map (bucket_value b)) is)

  -- as many keys are held
  pub counted_same : held_in b 512 ≡ held_in a 512
  counted_same = held_alike a b 512 (λ c few. sym (keys_same c few))

  -- and each is found
  pub built_same : IsBuilt a → IsBuilt b
  built_same built c few full =
      sym (bucket_same (key_in b c - 1)) ∙ ap (λ (n : ℕ). bucket_of a (n - 1)) (sym (keys_same c few)) ∙ built c few (λ none. full (sym (keys_same c few) ∙ none))

  pub table_same : IsTable a → IsTable b
  table_same table = record { built = built_same table.built; few = let is = counted_same in let few = table.few in omega (arith, is, few) }

  -- it stands for the same generations
  pub stands_same : (p : Published) → TermsStand a p → TermsStand b p
  stands_same p stands = record {
    found = λ i k at. subst (λ (o : Option ℕ). IsSomeAnd o (λ word. IsTrue (is_term_word p k.holding word))) (found_same k.key.0) (stands.found i k at);
    only = λ key word found. stands.only key word (found_same key ∙ found);
  }

-- When a change finds no room, and that there is room for each other one.
use Rattle.std.proofs.Common.{◌≡◌, ℕ, ◌≤◌, inl, inr, Bool, true, false, not, ◌&&◌, Option, Some, None, is_some, length, refl, sym, ap, ◌∙◌, arith}
use Rattle.std.specs.Prelude.{◌==◌}
use Rattle.std.specs.Option.{option_map}
use Rattle.std.proofs.lemmas.Bool.{and_parts, eqb-true, eq-eqb, cases_eq}
use Rattle.area_core.specs.declared.table.Published.{Published}
use Rattle.area_core.specs.Terms.{bucket_value, bucket_of, found_in, TermsStand}
use Rattle.term_table.specs.declared.change.Change.{Change}
use Rattle.term_table.specs.declared.change.Change.TheVariants.{Put, Erase}
use Rattle.term_table.specs.declared.buckets.Buckets.{Buckets}
use Rattle.term_table.specs.Keys.{IsNewKey}
use Rattle.term_table.specs.Built.{held_in, words_of, HasRebuilt, is_full_table, key_count}
use Rattle.term_table.proofs.Searching.{not_found}
use Rattle.term_table.proofs.Words.{lacks, lacking}

none_there : (o : Option ℕ) → not (is_some o) ≡ true → o ≡ None
none_there None e = refl
none_there (Some x) e = absurd (cc)

false_true : (b : Bool) → b ≡ false → b ≡ true → ⊥
false_true b no_test test = absurd (cc)

module _ (block : ℕ → ℕ) (p : Published) (stands : TermsStand block p) (counted : held_in block 512 ≡ length p.state.keys) where
  -- the key is new, and as many are held as can be
  pub full_told : (change : Change) → is_full_table change block ≡ true → IsNewKey change p × (length p.state.keys ≡ 384)
  full_told (Put key value) e =
      let parts = and_parts (not (is_some (bucket_of block key.0))) (held_in block 512 == 384) e in
      let none : found_in block key.0 ≡ None = ap (option_map (bucket_value block)) (none_there (bucket_of block key.0) parts.0) in
      (lacks block p key.0 stands none, sym counted ∙ eqb-true (held_in block 512) 384 parts.1)
  full_told (Erase key) e = absurd (false_true false refl e)

  -- so it is nowhere else
  pub not_full : (change : Change) → is_full_table change block ≡ false → IsNewKey change p × (length p.state.keys ≡ 384) → ⊥
  not_full (Put key value) e both =
      let none : bucket_of block key.0 ≡ None = not_found (bucket_of block key.0) (bucket_value block) (lacking block p key.0 stands both.0) in
      let full : is_full_table (Put key value) block ≡ true = (λ i. not (is_some (none i)) && eq-eqb (held_in block 512) 384 (counted ∙ both.1) i) in
      false_true (is_full_table (Put key value) block) e full
  not_full (Erase key) e both = absurd both.0

-- a change that is not refused leaves no more keys than can be held
pub rebuilt_few : (change : Change) (held built : Buckets) → HasRebuilt change held built → held_in (words_of held) 512 ≤ 384 → is_full_table change (words_of held) ≡ false → held_in (words_of built) 512 ≤ 384
rebuilt_few (Erase key) held built h few room = let counted = h.counted in omega (arith, counted, few)
rebuilt_few (Put key value) held built h few room = by_bucket (bucket_of (words_of held) key.0) refl
  where
    by_bucket : (o : Option ℕ) → bucket_of (words_of held) key.0 ≡ o → held_in (words_of built) 512 ≤ 384
    by_bucket (Some c) is =
        let one : key_count (found_in (words_of held) key.0) ≡ 1 = ap (λ (o : Option ℕ). key_count (option_map (bucket_value (words_of held)) o)) is in
        let counted = h.counted in omega (arith, counted, few, one)
    by_bucket None is =
        let none : key_count (found_in (words_of held) key.0) ≡ 0 = ap (λ (o : Option ℕ). key_count (option_map (bucket_value (words_of held)) o)) is in
        let counted = h.counted in
        elim (cases_eq (held_in (words_of held) 512) 384) as (λ _. held_in (words_of built) 512 ≤ 384) [
          | inl most ↦ absurd (false_true (is_full_table (Put key value) (words_of held)) room (λ i. not (is_some (is i)) && eq-eqb (held_in (words_of held) 512) 384 most i))
          | inr less ↦ omega (arith, counted, few, none, less)
        ]

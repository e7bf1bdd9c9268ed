-- A search that finds a key ends in a bucket that has it.
use Rattle.std.proofs.Common.{◌≡◌, ℕ, zero, suc, ◌+◌, ◌%◌, ◌<◌, true, false, Option, Some, None, inl, inr, refl, sym, ap, ◌∙◌, subst, arith}
use Rattle.std.specs.Prelude.{◌==◌}
use Rattle.std.specs.Option.{IfSome}
use Rattle.std.proofs.lemmas.Bool.{eqb-true, cases_Bool}
use Rattle.area_core.specs.declared.map.TheConstants.{BUCKETS}
use Rattle.area_core.specs.Terms.{key_in, look_at, looked, found_outcome, bucket_of}
use Rattle.area_core.proofs.Counted.{looked_none, looked_suc}

-- the bucket is one of the block, and has the key
pub record HasKey (block : ℕ → ℕ) (key bucket : ℕ) : Type 0 where
  pub within : bucket < BUCKETS
  pub held : key_in block bucket ≡ key + 1

look_empty : (block : ℕ → ℕ) (key bucket : ℕ) → (key_in block bucket == 0) ≡ true → look_at block key bucket None ≡ Some None
look_empty block key bucket empty = rw empty refl

look_own : (block : ℕ → ℕ) (key bucket : ℕ) → (key_in block bucket == 0) ≡ false → (key_in block bucket == key + 1) ≡ true → look_at block key bucket None ≡ Some (Some bucket)
look_own block key bucket held own = rw (held, own) refl

look_other : (block : ℕ → ℕ) (key bucket : ℕ) → (key_in block bucket == 0) ≡ false → (key_in block bucket == key + 1) ≡ false → look_at block key bucket None ≡ None
look_other block key bucket held other = rw (held, other) refl

no_bucket : (known : Option (Option ℕ)) (bucket : ℕ) → known ≡ Some None → known ≡ Some (Some bucket) → ⊥
no_bucket known bucket none some = absurd (cc)

not_known : (known : Option (Option ℕ)) (bucket : ℕ) → known ≡ None → known ≡ Some (Some bucket) → ⊥
not_known known bucket none some = absurd (cc)

same_bucket : (known : Option (Option ℕ)) (a b : ℕ) → known ≡ Some (Some a) → known ≡ Some (Some b) → a ≡ b
same_bucket known a b one other = cc

look_found : (block : ℕ → ℕ) (key at bucket : ℕ) → at < BUCKETS → look_at block key at None ≡ Some (Some bucket) → HasKey block key bucket
look_found block key at bucket within e =
    elim (cases_Bool (key_in block at == 0)) as (λ _. HasKey block key bucket) [
      | inl empty ↦ absurd (no_bucket (look_at block key at None) bucket (look_empty block key at empty) e)
      | inr held ↦
          elim (cases_Bool (key_in block at == key + 1)) as (λ _. HasKey block key bucket) [
            | inl own ↦ subst (HasKey block key) (same_bucket (look_at block key at None) at bucket (look_own block key at held own) e) (record { within = within; held = eqb-true (key_in block at) (key + 1) own })
            | inr other ↦ absurd (not_known (look_at block key at None) bucket (look_other block key at held other) e)
          ]
    ]

looked_found : (block : ℕ → ℕ) (key bucket n : ℕ) → looked block key n ≡ Some (Some bucket) → HasKey block key bucket
looked_found block key bucket zero e = absurd (not_known (looked block key 0) bucket (looked_none block key) e)
looked_found block key bucket (suc n) e = by_known (looked block key n) refl (sym (looked_suc block key n) ∙ e) (looked_found block key bucket n)
  where
    by_known : (known : Option (Option ℕ)) → looked block key n ≡ known → look_at block key ((key % 512 + n) % 512) (looked block key n) ≡ Some (Some bucket) → (looked block key n ≡ Some (Some bucket) → HasKey block key bucket) → HasKey block key bucket
    by_known None is e before = look_found block key ((key % 512 + n) % 512) bucket (omega (arith)) (ap (look_at block key ((key % 512 + n) % 512)) (sym is) ∙ e)
    by_known (Some known) is e before = before (is ∙ sym (ap (look_at block key ((key % 512 + n) % 512)) is) ∙ e)

-- the bucket in which a key is found has it
pub has_key : (block : ℕ → ℕ) (key bucket : ℕ) → bucket_of block key ≡ Some bucket → HasKey block key bucket
has_key block key bucket e = looked_found block key bucket BUCKETS (known_bucket (looked block key BUCKETS) e)
  where
    known_bucket : (known : Option (Option ℕ)) → found_outcome known ≡ Some bucket → known ≡ Some (Some bucket)
    known_bucket None e = absurd (cc)
    known_bucket (Some found) e = ap Some e

-- such a bucket is one of the block
pub bucket_within : (block : ℕ → ℕ) (key : ℕ) → IfSome (bucket_of block key) (λ bucket. bucket < BUCKETS)
bucket_within block key = by_found (bucket_of block key) refl
  where
    by_found : (found : Option ℕ) → bucket_of block key ≡ found → IfSome found (λ bucket. bucket < BUCKETS)
    by_found None is = tt
    by_found (Some bucket) is = (has_key block key bucket is).within

-- so is what is known after all buckets
pub known_within : (block : ℕ → ℕ) (key : ℕ) (known : Option ℕ) → Some known ≡ looked block key BUCKETS → IfSome known (λ bucket. bucket < BUCKETS)
known_within block key known is = subst (λ (found : Option ℕ). IfSome found (λ bucket. bucket < BUCKETS)) (sym (ap found_outcome is)) (bucket_within block key)

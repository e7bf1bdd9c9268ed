-- The block of a term table: 512 buckets of a key and a value. A key is sought from the bucket of its number on,
-- going round, until it or an empty bucket is found. The buckets are this project's own.
use Rattle.std.specs.Prelude.{◌≡◌, ℕ, zero, suc, ◌+◌, ◌-◌, ◌*◌, ◌%◌, ◌==◌, Bool, true, false, ◌&&◌, ◌||◌, if◌then◌else◌, List, Option, Some, None, slice_get, IsTrue, IsSomeAnd}
use Rattle.std.specs.List.{list_any, list_all}
use Rattle.std.specs.Option.{option_map}
use Rattle.term_core.specs.declared.generation.KeyTerm.{KeyTerm}
use Rattle.area_core.specs.declared.map.TheConstants.{BUCKETS}
use Rattle.area_core.specs.declared.table.Published.{Published}
use Rattle.area_core.specs.Generations.{is_term_word}

-- the key in a bucket, plus 1, or 0 where it is empty
abbrev pub key_in : (ℕ → ℕ) → ℕ → ℕ
key_in block bucket = block (bucket * 2)

-- the value in a bucket
abbrev pub bucket_value : (ℕ → ℕ) → ℕ → ℕ
bucket_value block bucket = block (bucket * 2 + 1)

-- what is known after a look at one more bucket: nothing yet, that the key is not there, or its bucket
abbrev pub look_at : (ℕ → ℕ) → ℕ → ℕ → Option (Option ℕ) → Option (Option ℕ)
look_at block key bucket (Some known) = Some known
look_at block key bucket None =
    if key_in block bucket == 0 then Some None else if key_in block bucket == key + 1 then Some (Some bucket) else None

-- what is known of a key after so many buckets, from that of its number on, going round
unfoldable pub looked : (ℕ → ℕ) → ℕ → ℕ → Option (Option ℕ)
looked block key zero = None
looked block key (suc n) = look_at block key ((key % BUCKETS + n) % BUCKETS) (looked block key n)

-- what is found, if anything is known
abbrev pub found_outcome : Option (Option ℕ) → Option ℕ
found_outcome None = None
found_outcome (Some known) = known

-- the bucket in which a key is found
abbrev pub bucket_of : (ℕ → ℕ) → ℕ → Option ℕ
bucket_of block key = found_outcome (looked block key BUCKETS)

-- what is found under a key
abbrev pub found_in : (ℕ → ℕ) → ℕ → Option ℕ
found_in block key = option_map (bucket_value block) (bucket_of block key)

-- the generation has this key with what the word stands for
abbrev pub is_word_of : Published → ℕ → ℕ → KeyTerm → Bool
is_word_of p key word k = (k.key.0 == key) && is_term_word p k.holding word

-- each key of the generation is found with what it holds, and nothing else is found
pub record TermsStand (block : ℕ → ℕ) (p : Published) : Type 0 where
  pub found : (i : ℕ) (k : KeyTerm) → slice_get p.state.keys i ≡ Some k → IsSomeAnd (found_in block k.key.0) (λ word. IsTrue (is_term_word p k.holding word))
  pub only : (key word : ℕ) → found_in block key ≡ Some word → IsTrue (list_any (is_word_of p key word) p.state.keys)

-- ---- the test

-- a key is found with what it holds
abbrev pub is_found : Published → KeyTerm → Option ℕ → Bool
is_found p k None = false
is_found p k (Some word) = is_term_word p k.holding word

-- the bucket found is this one
abbrev pub is_bucket : ℕ → Option ℕ → Bool
is_bucket bucket None = false
is_bucket bucket (Some found) = found == bucket

-- one of the keys is found in the bucket
abbrev pub holds_one_of : (ℕ → ℕ) → List KeyTerm → ℕ → Bool
holds_one_of block keys bucket = list_any (λ k. is_bucket bucket (bucket_of block k.key.0)) keys

-- where something is found, it is one of the keys
abbrev pub is_known : (ℕ → ℕ) → List KeyTerm → Option ℕ → Bool
is_known block keys None = true
is_known block keys (Some bucket) = holds_one_of block keys bucket

-- a bucket is empty, or one of the keys is found in it, or what is found under its key is one of them elsewhere
abbrev pub is_bucket_known : (ℕ → ℕ) → List KeyTerm → ℕ → Bool
is_bucket_known block keys bucket =
    (key_in block bucket == 0) || holds_one_of block keys bucket || is_known block keys (bucket_of block (key_in block bucket - 1))

-- so for the first so many buckets
unfoldable pub are_buckets_known : (ℕ → ℕ) → List KeyTerm → ℕ → Bool
are_buckets_known block keys zero = true
are_buckets_known block keys (suc n) = are_buckets_known block keys n && is_bucket_known block keys n

-- each of the keys is found with what it holds
abbrev pub are_found : (ℕ → ℕ) → Published → List KeyTerm → Bool
are_found block p keys = list_all (λ k. is_found p k (found_in block k.key.0)) keys

-- the block stands for the keys of the generation, by one search for each key and one look at each bucket
abbrev pub terms_stand : (ℕ → ℕ) → Published → Bool
terms_stand block p = are_found block p p.state.keys && are_buckets_known block p.state.keys BUCKETS

-- A table of buckets that is built anew: each key that stands in a bucket is found there.
-- Source: this project's own.
use Rattle.std.specs.Prelude.{◌≡◌, ◌≢◌, ℕ, zero, suc, ◌+◌, ◌-◌, ◌%◌, ◌<◌, ◌≤◌, ◌==◌, if◌then◌else◌, Option, Some, None, is_some, Bool, false, not, ◌&&◌, length}
use Rattle.area_core.specs.declared.map.TheConstants.{BUCKETS, BIG_WORDS}
use Rattle.area_core.specs.Map.{word_at}
use Rattle.area_core.specs.Terms.{key_in, looked, bucket_of, found_in}
use Rattle.term_table.specs.declared.buckets.Buckets.{Buckets}
use Rattle.term_table.specs.declared.places.TheConstants.{MOST_KEYS}
use Rattle.term_table.specs.declared.change.Change.{Change}
use Rattle.term_table.specs.declared.change.Change.TheVariants.{Put, Erase}
use Rattle.term_table.specs.Keys.{key_of, change_value}

-- ---- the words of a table

-- how many of the first so many buckets have a key
unfoldable pub held_in : (ℕ → ℕ) → ℕ → ℕ
held_in block zero = 0
held_in block (suc n) = held_in block n + (if key_in block n == 0 then 0 else 1)

-- each key that stands in a bucket is found in that bucket
abbrev pub IsBuilt : (ℕ → ℕ) → Type 0
IsBuilt block = (bucket : ℕ) → bucket < BUCKETS → key_in block bucket ≢ 0 → bucket_of block (key_in block bucket - 1) ≡ Some bucket

-- so it is, and there are no more keys than can be held
pub record IsTable (block : ℕ → ℕ) : Type 0 where
  pub built : IsBuilt block
  pub few : held_in block BUCKETS ≤ MOST_KEYS

-- ---- buckets outside of the shared words

-- the words of buckets by their places
abbrev pub words_of : Buckets → ℕ → ℕ
words_of buckets at = word_at buckets.words at

-- they are built anew
pub record AreBuilt (buckets : Buckets) : Type 0 where
  pub whole : length buckets.words ≡ BIG_WORDS
  pub built : IsBuilt (words_of buckets)

-- the first empty bucket from that of the key's number on, where the buckets before it have other keys
pub record IsFree (block : ℕ → ℕ) (key bucket : ℕ) : Type 0 where
  pub tried : ℕ
  pub few : tried < BUCKETS
  pub place : bucket ≡ (key % BUCKETS + tried) % BUCKETS
  pub passed : looked block key tried ≡ None
  pub empty : key_in block bucket ≡ 0

-- what is found where one key has this value besides
abbrev pub with_found : ℕ → ℕ → (ℕ → Option ℕ) → ℕ → Option ℕ
with_found key value found other = if other == key then Some value else found other

-- one key more is found, with this value
pub record HasInserted (key value : ℕ) (old new : Buckets) : Type 0 where
  pub built : AreBuilt new
  pub found : (other : ℕ) → found_in (words_of new) other ≡ with_found key value (found_in (words_of old)) other
  pub counted : held_in (words_of new) BUCKETS ≡ held_in (words_of old) BUCKETS + 1

-- ---- a change

-- what is found under each key once the change is made
abbrev pub found_after : Change → (ℕ → Option ℕ) → ℕ → Option ℕ
found_after change found key = if key == key_of change then change_value change else found key

-- how many keys this is
abbrev pub key_count : Option ℕ → ℕ
key_count None = 0
key_count (Some value) = 1

-- the change adds a key to a table that has room for none
abbrev pub is_full_table : Change → (ℕ → ℕ) → Bool
is_full_table (Put key value) block = not (is_some (bucket_of block key.0)) && (held_in block BUCKETS == MOST_KEYS)
is_full_table (Erase key) block = false

-- the table anew, with the change
pub record HasRebuilt (change : Change) (old new : Buckets) : Type 0 where
  pub built : AreBuilt new
  pub found : (key : ℕ) → found_in (words_of new) key ≡ found_after change (found_in (words_of old)) key
  pub counted : held_in (words_of new) BUCKETS + key_count (found_in (words_of old) (key_of change)) ≡ held_in (words_of old) BUCKETS + key_count (change_value change)

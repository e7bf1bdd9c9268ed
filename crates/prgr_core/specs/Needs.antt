-- The retirements that are not released: pairs of a generation and its need, in the order of the generations.
use Rattle.std.specs.Prelude.{ℕ, List, Option}
use Rattle.std.specs.Ordering.{nat_cmp}
use Rattle.std.specs.Map.{lookup, remove_entry}
use Rattle.std.specs.BTreeMap.{insert_entry, is_at}

-- the need of a generation, where it has one
abbrev pub need_of : List (ℕ × ℕ) → ℕ → Option ℕ
need_of needs generation = lookup (is_at (nat_cmp generation)) needs

-- the pairs with this one among them
abbrev pub with_need : List (ℕ × ℕ) → ℕ → ℕ → List (ℕ × ℕ)
with_need needs generation need = insert_entry nat_cmp needs generation need

-- the pairs without that of this generation
abbrev pub without_need : List (ℕ × ℕ) → ℕ → List (ℕ × ℕ)
without_need needs generation = remove_entry (is_at (nat_cmp generation)) needs

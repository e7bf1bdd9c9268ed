-- The four term tables, where their words stand, and who reads them.
use Rattle.std.proofs.Common.{◌≡◌, ℕ, ◌+◌, ◌%◌, ◌<◌, ◌≤◌, true, false, sym, ap, ◌∙◌, arith}
use Rattle.std.proofs.lemmas.Bool.{lt-ltb, le-ltb, eq-eqb, ne_eqb}
use Rattle.area_core.specs.declared.map.WordKind.TheVariants.{InBlock}
use Rattle.area_core.specs.declared.table.Published.{Published}
use Rattle.area_core.specs.Map.{kind_at, term_place}
use Rattle.area_core.specs.Readers.{reads_in_block}
use Rattle.area_core.proofs.Places.{kind_block}
use Rattle.area_core.proofs.Frames.{big_room}
use Rattle.area_core.proofs.BlockStores.{block_within, same_block}

-- the table behind another one, going round, is one of the four
pub behind_fits : (table : ℕ) → (table + 1) % 4 < 4
behind_fits table = omega (arith)

-- and another one
pub behind_differs : (table : ℕ) → table < 4 → (table + 1) % 4 ≡ table → ⊥
behind_differs table fits same = omega (arith, fits, same)

-- a word of a table is one of its block
pub table_kind : (table at : ℕ) → table < 4 → at < 1024 → kind_at (term_place table at) ≡ InBlock (5 + table) at
table_kind table at fits few = kind_block (5 + table) at (omega (arith, fits)) (big_room (5 + table) at (omega (arith, fits)) few)

-- and stands among the words
pub table_within : (table at : ℕ) → table < 4 → at < 1024 → term_place table at < 83413
table_within table at fits few = block_within (term_place table at) (5 + table) at (table_kind table at fits few)

-- two words of tables in one place are one word of one table
pub table_apart : (a i b j : ℕ) → a < 4 → i < 1024 → b < 4 → j < 1024 → term_place a i ≡ term_place b j → (a ≡ b) × (i ≡ j)
table_apart a i b j fits few also fewer same =
    let both = same_block (5 + a) i (5 + b) j (sym (table_kind a i fits few) ∙ ap kind_at same ∙ table_kind b j also fewer) in
    let blocks = both.0 in (omega (arith, blocks), both.1)

-- ---- who reads

reads_block : (p : Published) (block at : ℕ) → 5 ≤ block → block < 9 → block ≡ 5 + p.root.term → reads_in_block p block at ≡ true
reads_block p block at low high same = rw (le-ltb block 3 (omega (arith, low)), le-ltb block 5 low, lt-ltb block 9 high) (eq-eqb block (5 + p.root.term) same)

reads_none : (p : Published) (block at : ℕ) → 5 ≤ block → block < 9 → (block ≡ 5 + p.root.term → ⊥) → reads_in_block p block at ≡ false
reads_none p block at low high differ = rw (le-ltb block 3 (omega (arith, low)), le-ltb block 5 low, lt-ltb block 9 high) (ne_eqb block (5 + p.root.term) differ)

-- a generation reads its own table
pub reads_own : (p : Published) (table at : ℕ) → table < 4 → table ≡ p.root.term → reads_in_block p (5 + table) at ≡ true
reads_own p table at fits same = reads_block p (5 + table) at (omega (arith)) (omega (arith, fits)) (ap (λ (n : ℕ). 5 + n) same)

-- and no other one
pub reads_other : (p : Published) (table at : ℕ) → table < 4 → (p.root.term ≡ table → ⊥) → reads_in_block p (5 + table) at ≡ false
reads_other p table at fits differ = reads_none p (5 + table) at (omega (arith)) (omega (arith, fits)) (λ same. differ (omega (arith, same)))

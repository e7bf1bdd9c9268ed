-- The three code indices and where their words stand.
use Rattle.std.proofs.Common.{◌≡◌, ℕ, ◌+◌, ◌%◌, ◌<◌, sym, ap, ◌∙◌, arith}
use Rattle.area_core.specs.declared.map.WordKind.TheVariants.{InBlock}
use Rattle.area_core.specs.Map.{kind_at, block_place}
use Rattle.area_core.proofs.Places.{kind_block}
use Rattle.area_core.proofs.Frames.{big_room}
use Rattle.area_core.proofs.BlockStores.{block_within, same_block}

-- the index behind another one, going round, is one of the three
pub behind_fits : (code : ℕ) → (code + 1) % 3 < 3
behind_fits code = omega (arith)

-- and another one
pub behind_differs : (code : ℕ) → (code + 1) % 3 ≡ code → ⊥
behind_differs code same = omega (arith, same)

-- the one behind that is a third one
pub third_differs : (code : ℕ) → code < 3 → code ≡ ((code + 1) % 3 + 1) % 3 → ⊥
third_differs code fits same = omega (arith, fits, same)

-- a word of an index is one of its block
pub index_kind : (block entry : ℕ) → block < 3 → entry < 1024 → kind_at (block_place block entry) ≡ InBlock block entry
index_kind block entry fits few = kind_block block entry (omega (arith, fits)) (big_room block entry (omega (arith, fits)) few)

-- and stands in the table
pub index_within : (block entry : ℕ) → block < 3 → entry < 1024 → block_place block entry < 83413
index_within block entry fits few = block_within (block_place block entry) block entry (index_kind block entry fits few)

-- two words of indices in one place are one word of one index
pub index_apart : (a i b j : ℕ) → a < 3 → i < 1024 → b < 3 → j < 1024 → block_place a i ≡ block_place b j → (a ≡ b) × (i ≡ j)
index_apart a i b j fits few also fewer same = same_block a i b j (sym (index_kind a i fits few) ∙ ap kind_at same ∙ index_kind b j also fewer)

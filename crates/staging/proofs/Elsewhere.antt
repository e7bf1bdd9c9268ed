-- A write into the block of an area leaves code indices and term tables as they are.
use Rattle.std.proofs.Common.{◌≡◌, ℕ, ◌+◌, ◌<◌, ◌≤◌, length, refl, sym, subst, ◌∙◌, arith}
use Rattle.std.proofs.lemmas.Bool.{lt-ltb, le-ltb}
use Rattle.area_core.specs.Map.{room_of}
use Rattle.shared_words.specs.declared.view.WriterView.{WriterView}
use Rattle.literal_areas.specs.declared.areas.Areas.{Areas}
use Rattle.literal_areas.specs.declared.blocks.Pool.{Pool}
use Rattle.literal_areas.specs.declared.blocks.Pool.TheVariants.{Big, Small}
use Rattle.literal_areas.specs.Blocks.{IsFreeIn, first_of}
use Rattle.literal_areas.specs.Written.{KeepsOtherBlocks}
use Rattle.code_index.specs.Laws as indices
use Rattle.term_table.specs.Laws as terms

-- ---- blocks of a pool

pub big_room : (block : ℕ) → block < 64 → room_of block ≡ 1024
big_room block low = rw (lt-ltb block 64 low) refl

pub small_room : (block : ℕ) → 64 ≤ block → room_of block ≡ 64
small_room block high = rw (le-ltb block 64 high) refl

-- they stand behind those of indices and tables
pub block_high : (pool : Pool) (s : Areas) (block : ℕ) → IsFreeIn pool s block → 9 ≤ block
block_high Big s block free = free.first
block_high Small s block free = let first = free.first in omega (arith, first)

-- and have as much room as the first one
pub room_same : (pool : Pool) (s : Areas) (block n : ℕ) → IsFreeIn pool s block → n ≤ room_of (first_of pool) → n ≤ room_of block
room_same Big s block n free few = let last = free.last in subst (λ (room : ℕ). n ≤ room) (sym (big_room block (omega (arith, last)))) few
room_same Small s block n free few = subst (λ (room : ℕ). n ≤ room) (sym (small_room block free.first)) few

-- ---- what a write leaves

module _ (block : ℕ) (old new : WriterView) (high : 9 ≤ block) (was : length old.words ≡ 83413) (long : length new.words ≡ 83413) (same : new ≡ record old { words = new.words }) (others : KeepsOtherBlocks block old new) where
  low_place : (other at : ℕ) → other < 9 → at < 1024 → at < room_of other
  low_place other at low few = subst (λ (room : ℕ). at < room) (sym (big_room other (omega (arith, low)))) few

  pub index_elsewhere : indices.HasStoredElsewhere old new
  index_elsewhere = record {
    long = long ∙ sym was;
    others = λ other entry low few. others other entry (λ is. absurd (omega (arith, is, low, high))) (omega (arith, low)) (low_place other entry (omega (arith, low)) few);
    same = same;
  }

  pub terms_elsewhere : terms.HasStoredElsewhere old new
  terms_elsewhere = record {
    long = long ∙ sym was;
    others = λ table at fits few. others (5 + table) at (λ is. absurd (omega (arith, is, fits, high))) (omega (arith, fits)) (low_place (5 + table) at (omega (arith, fits)) few);
    same = same;
  }

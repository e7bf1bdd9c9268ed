-- Fewer generations that count ask for less of the words.
use Rattle.std.proofs.Common.{ℕ}
use Rattle.area_core.specs.Blocks.{Blocks, BlockInvariant}

-- what holds for the generations that count holds for fewer of them
pub fewer_count : (b : Blocks) (Counts Fewer : ℕ → Type 0) → BlockInvariant b Counts → ((g : ℕ) → Fewer g → Counts g) → BlockInvariant b Fewer
fewer_count b Counts Fewer h fewer = record {
  roots_fit = λ g p counts at. h.roots_fit g p (fewer g counts) at;
  instances_placed = λ g p counts at. h.instances_placed g p (fewer g counts) at;
  code_stands = λ g p counts at. h.code_stands g p (fewer g counts) at;
  breakpoints_stand = λ g p counts at. h.breakpoints_stand g p (fewer g counts) at;
  terms_stand = λ g p counts at. h.terms_stand g p (fewer g counts) at;
  used_kept = λ g p counts at. h.used_kept g p (fewer g counts) at;
  areas_stand = λ g p counts at. h.areas_stand g p (fewer g counts) at;
  images_stand = h.images_stand;
  kept_fit = h.kept_fit;
  kept_apart = h.kept_apart;
  named_kept = h.named_kept;
  anchors_apart = h.anchors_apart;
}

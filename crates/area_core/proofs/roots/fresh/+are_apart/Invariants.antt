use Rattle.std.proofs.Common.{length}
use Rattle.area_core.proofs.roots.fresh.+are_apart.Given as goal

-- the areas behind are fewer
abbrev pub decreases-are_apart : goal.decreases-are_apart
decreases-are_apart l = length l.fresh.now

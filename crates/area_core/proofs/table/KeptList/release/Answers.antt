-- What is not released stays.
use Rattle.std.proofs.Common.{ap, ◌∙◌, rules, not, filter}
use Rattle.std.specs.Prelude.{◌==◌, ◌&&◌, slice_get}
use Rattle.std.proofs.lemmas.Fn.{filter_same}
use Rattle.area_core.specs.declared.table.KeptArea.{KeptArea}
use Rattle.area_core.specs.Stores.{is_released_at}
use Rattle.area_core.proofs.table.KeptList.release.Goals as goal

pub returns : goal.returns
returns c =
    filter_same _ (λ (k : KeptArea). not ((k.area.block == c.args.block) && is_released_at (slice_get c.args.published.now c.args.generation) c.args.value k)) _ (λ x b q k. search rules) _ _ c.retain.ensures.filtered
    ∙ ap (filter (λ (k : KeptArea). not ((k.area.block == c.args.block) && is_released_at (slice_get c.args.published.now c.args.generation) c.args.value k))) c.self.view_is

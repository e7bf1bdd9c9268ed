-- Where no frame names the area, it is one of these or none.
use Rattle.std.proofs.Common.{◌∙◌, ◌||◌, ap, sym}
use Rattle.machine_core.specs.Holds.{is_among}
use Rattle.machine_core.specs.Process.{area_serials}
use Rattle.machine_core.proofs.AreaLists.{among-areas}
use Rattle.machine_core.proofs.dropping.is_still_named.Goals as goal

pub returns-else-is_named : goal.returns-else-is_named
returns-else-is_named c =
    c.has_area.ensures ∙ sym (among-areas c.args.areas.now c.args.area.serial)
    ∙ ap (λ b. b || is_among (area_serials c.args.areas.now) c.args.area.serial) (sym c.if-is_named.false ∙ c.is_named.ensures)

-- What an event that is refused says.
use Rattle.std.proofs.Common.{◌≡◌, None, ap, ◌∙◌}
use Rattle.area_core.specs.declared.event.AreaEvent.{AreaEvent}
use Rattle.area_core.specs.declared.table.Table.{Table}
use Rattle.area_core.specs.Step.{after}

-- what is refused for one event is refused for the same event
pub refused_as : {Refused : Type 0} (s : Table) (event same : AreaEvent) → event ≡ same → (Refused → after s same ≡ None) → Refused → after s event ≡ None
refused_as s event same e refused is = ap (after s) e ∙ refused is

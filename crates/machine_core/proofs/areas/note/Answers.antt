-- The area is named with the others, whether it was there or not.
use Rattle.std.proofs.Common.{◌∙◌, ◌==◌, sym, ap}
use Rattle.std.specs.List.{list_any}
use Rattle.machine_core.proofs.AreaLists.{named_there, noted, stand_noted}
use Rattle.machine_core.proofs.areas.note.Goals as goal

pub returns-then-has_area-clause-named : goal.returns-then-has_area-clause-named
returns-then-has_area-clause-named c = named_there c.args.areas.now c.args.area.serial
    (ap (list_any (λ a. a.serial == c.args.area.serial)) (sym c.as_slice.ensures) ∙ sym c.has_area.ensures ∙ c.if-has_area.true)

pub returns-clause-named : goal.returns-clause-named
returns-clause-named c = noted c.push.result c.args.areas.now c.push.new.self c.args.area c.push.ensures.ok

pub returns-clause-stand : goal.returns-clause-stand
returns-clause-stand c = λ shown stand one. stand_noted shown c.push.result c.args.areas.now c.push.new.self c.args.area c.push.ensures.ok stand one

-- A generation with one instance, of serial 1 in block 9, which has no words, and of which the area of serial 2 was dropped.
use Rattle.std.specs.Prelude.{[], ◌∷◌}
use Rattle.term_core.specs.declared.area.AreaRef.{AreaRef}
use Rattle.area_core.specs.declared.table.Published.{Published}
use Rattle.area_core.specs.Step.{empty_generation, to_publish}

-- the area of the instance
abbrev pub used_area : AreaRef
used_area = record { serial = 1; block = 9 }

-- the generation
abbrev pub used_published : Published
used_published = to_publish 0 0 0 (record empty_generation { current = 1 ∷ []; retired = 2 ∷ []; areas = record { serial = 1; words = [] } ∷ [] }) (used_area ∷ [])

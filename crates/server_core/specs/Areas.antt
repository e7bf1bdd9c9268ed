-- What contracts see of the table of areas: what stands in each, in the order of their serials.
use Rattle.std.specs.Prelude.{ℕ, ◌+◌, ◌-◌, ◌==◌, List, [], ◌∷◌, Option, None, option_map, slice_get, if◌then◌else◌}
use Rattle.term_core.specs.Image.{image_of}
use Rattle.mod_core.specs.declared.code.Module.{Module}
use Rattle.server_core.specs.declared.areas.Area.{Area}
use Rattle.server_core.specs.declared.areas.Area.TheVariants.{Loaded, Stored}
use Rattle.server_core.specs.ServerState.{Instance, TermArea, code_among, first_words, instance_image, term_among}

-- modules as instances, with serials in order
abbrev pub numbered : ℕ → List Module → List Instance
numbered serial [] = []
numbered serial (m ∷ ms) = record { serial = serial; code = m } ∷ numbered (serial + 1) ms

-- the instances among areas, the first of which has this serial
abbrev pub instances_in : ℕ → List Area → List Instance
instances_in serial [] = []
instances_in serial (Loaded m ∷ areas) = record { serial = serial; code = m } ∷ instances_in (serial + 1) areas
instances_in serial (Stored t ∷ areas) = instances_in (serial + 1) areas

-- the complex terms among areas, the first of which has this serial
abbrev pub terms_in : ℕ → List Area → List TermArea
terms_in serial [] = []
terms_in serial (Loaded m ∷ areas) = terms_in (serial + 1) areas
terms_in serial (Stored t ∷ areas) = record { serial = serial; term = t } ∷ terms_in (serial + 1) areas

-- the words of the area with a serial among these, the first of which has serial 1
abbrev pub words_among : List Area → ℕ → Option (List ℕ)
words_among areas serial =
    first_words (option_map (instance_image serial) (code_among (instances_in 1 areas) serial)) (option_map image_of (term_among (terms_in 1 areas) serial))

-- what stands in the area with a serial
abbrev pub area_at : List Area → ℕ → Option Area
area_at areas serial = if serial == 0 then None else slice_get areas (serial - 1)

-- What a process holds by the anchors of its slot.
-- Source: this project's profile, after hazard pointers; the words are this project's own.
use Rattle.std.specs.Prelude.{ℕ, List, [], ◌∷◌, if◌then◌else◌}
use Rattle.term_core.specs.declared.hold.Kind.{Kind}
use Rattle.term_core.specs.declared.hold.Kind.TheVariants.{Frame, Literal}
use Rattle.area_core.specs.Generations.{serial_in}
use Rattle.anchors.specs.Holds.{names_for}
use Rattle.machine_core.specs.Holds.{Holds, serials_of}

-- the serials of the areas that anchors name for this, in the order of the anchors
abbrev pub named_for : Kind → List ℕ → List ℕ
named_for kind [] = []
named_for kind (word ∷ words) = if names_for kind word (serial_in word) then serial_in word ∷ named_for kind words else named_for kind words

-- what is held by anchors: for frames and for literals, each area once
abbrev pub holds_by : List ℕ → Holds
holds_by anchors = record { frames = serials_of (named_for Frame anchors); literals = serials_of (named_for Literal anchors) }

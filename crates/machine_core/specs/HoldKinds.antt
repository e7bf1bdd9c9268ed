-- What is held, by what it is held for. Source: this project's profile, after hazard pointers.
use Rattle.std.specs.Prelude.{ℕ, List}
use Rattle.term_core.specs.declared.hold.Kind.{Kind}
use Rattle.term_core.specs.declared.hold.Kind.TheVariants.{Frame, Literal}
use Rattle.machine_core.specs.Holds.{Holds}

-- the areas that are held for this
abbrev pub held_for : Holds → Kind → List ℕ
held_for held Frame = held.frames
held_for held Literal = held.literals

-- what is held where just these areas are held for this, and all else stays
abbrev pub holding : Holds → Kind → List ℕ → Holds
holding held Frame serials = record held { frames = serials }
holding held Literal serials = record held { literals = serials }

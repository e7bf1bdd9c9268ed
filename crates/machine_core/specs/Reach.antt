-- What a turn may newly hold, and which areas it may read.
-- Source: this project's profile, after hazard pointers.
use Rattle.std.specs.Prelude.{◌≡◌, ℕ, IsTrue, Some, ◌⊎◌}
use Rattle.term_core.specs.declared.hold.Kind.{Kind}
use Rattle.term_core.specs.declared.hold.Kind.TheVariants.{Frame, Literal}
use Rattle.machine_core.specs.Holds.{Holds, is_held}
use Rattle.machine_core.specs.Reads.{IsCurrent, Reads, key_area_read}

-- a key holds the complex term with this area
abbrev pub IsKeyArea : Reads → ℕ → Type 0
IsKeyArea r serial = (key : ℕ) × (key_area_read r key ≡ Some serial)

-- what a turn may newly hold: current instances for frames, and for literals the areas of keys and the instances of frames
abbrev pub Reach : Reads → Holds → ℕ → Kind → Type 0
Reach r held serial Frame = IsCurrent r serial
Reach r held serial Literal = IsKeyArea r serial ⊎ IsTrue (is_held held serial Frame)

-- what may be held: what is held already, and what may newly be
abbrev pub MayHold : Reads → Holds → ℕ → Kind → Type 0
MayHold r held serial kind = IsTrue (is_held held serial kind) ⊎ Reach r held serial kind

-- an area may be held for frames or for literals, so that its words may be read
abbrev pub MayRead : Reads → Holds → ℕ → Type 0
MayRead r held serial = MayHold r held serial Frame ⊎ MayHold r held serial Literal

-- What a turn holds: areas by their serials, each for frames that run its code or for literals among its words.
-- Source: this project's profile, after hazard pointers. Serials stand once and in increasing order, so that equal sets are equal lists.
use Rattle.std.specs.Prelude.{ℕ, ◌+◌, ◌<◌, ◌≤◌, Bool, not, ◌&&◌, ◌||◌, ◌==◌, nat_lt, nat_le, List, [], ◌∷◌, length, filter, if◌then◌else◌}
use Rattle.std.specs.List.{list_any}
use Rattle.term_core.specs.declared.hold.TheConstants.{MOST_AREAS}
use Rattle.term_core.specs.declared.hold.Kind.{Kind}
use Rattle.term_core.specs.declared.hold.Kind.TheVariants.{Frame, Literal}

-- whether a serial is one of these
abbrev pub is_among : List ℕ → ℕ → Bool
is_among serials serial = list_any (λ n. n == serial) serials

-- increasing serials, and one more where it is not among them
abbrev pub with_serial : List ℕ → ℕ → List ℕ
with_serial [] serial = serial ∷ []
with_serial (n ∷ ns) serial = if nat_lt serial n then serial ∷ n ∷ ns else if serial == n then n ∷ ns else n ∷ with_serial ns serial

-- serials without one
abbrev pub without_serial : List ℕ → ℕ → List ℕ
without_serial serials serial = filter (λ n. not (n == serial)) serials

-- each of these serials is above that one
abbrev pub AllAbove : ℕ → List ℕ → Type 0
AllAbove n [] = Unit {0}
AllAbove n (m ∷ ms) = (n < m) × AllAbove n ms

-- each serial is above the one before it
abbrev pub IsIncreasing : List ℕ → Type 0
IsIncreasing [] = Unit {0}
IsIncreasing (n ∷ ns) = AllAbove n ns × IsIncreasing ns

-- any serials, each once and in increasing order
abbrev pub serials_of : List ℕ → List ℕ
serials_of [] = []
serials_of (n ∷ ns) = with_serial (serials_of ns) n

-- the areas that are held: instances for their frames, and areas for their literals
pub record Holds : Type 0 where
  pub frames : List ℕ
  pub literals : List ℕ

-- whether an area is held for this
abbrev pub is_held : Holds → ℕ → Kind → Bool
is_held held serial Frame = is_among held.frames serial
is_held held serial Literal = is_among held.literals serial

-- whether an area is held for anything
abbrev pub is_area_held : Holds → ℕ → Bool
is_area_held held serial = is_held held serial Frame || is_held held serial Literal

-- the area is held for this too
abbrev pub with_hold : Holds → ℕ → Kind → Holds
with_hold held serial Frame = record held { frames = with_serial held.frames serial }
with_hold held serial Literal = record held { literals = with_serial held.literals serial }

-- the area is held for this no more
abbrev pub without_hold : Holds → ℕ → Kind → Holds
without_hold held serial Frame = record held { frames = without_serial held.frames serial }
without_hold held serial Literal = record held { literals = without_serial held.literals serial }

-- how many other areas are held: those of frames, and those of literals alone
abbrev pub other_areas : Holds → ℕ → ℕ
other_areas held serial =
    length (without_serial held.frames serial)
    + length (filter (λ n. not (n == serial) && not (is_among held.frames n)) held.literals)

-- whether as many other areas are held as can be
abbrev pub is_full : Holds → ℕ → Bool
is_full held serial = nat_le MOST_AREAS (other_areas held serial)

-- how many areas are held, in either way
abbrev pub area_count : Holds → ℕ
area_count held = length held.frames + length (filter (λ n. not (is_among held.frames n)) held.literals)

-- increasing serials of at most 16 areas, in a vector with room for so many
pub record HasRoom (serials : List ℕ) (capacity : ℕ) : Type 0 where
  pub increasing : IsIncreasing serials
  pub few : length serials ≤ MOST_AREAS
  pub room : MOST_AREAS ≤ capacity

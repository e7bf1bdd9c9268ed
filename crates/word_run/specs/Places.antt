-- Lists whose elements changed, each at its place.
-- Source: this project's own.
use Rattle.std.specs.Prelude.{◌≡◌, ℕ, List, length, slice_get, Some}

-- each element became the one at its place
pub record EachBecame {X : Type 0} (Became : X → X → Type 0) (before after : List X) : Type 0 where
  pub many : length after ≡ length before
  pub each : (place : ℕ) (x y : X) → slice_get before place ≡ Some x → slice_get after place ≡ Some y → Became x y

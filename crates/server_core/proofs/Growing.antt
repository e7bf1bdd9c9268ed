-- The room of a list that only grows: it goes up to a power of two, and follows from the length.
use Rattle.std.proofs.Common.{◌≡◌, ℕ, ◌+◌, ◌/◌, ◌^◌, ◌*◌, ◌<◌, ◌≤◌, Bool, true, false, nat_le, refl, arith}
use Rattle.std.proofs.lemmas.Bool.Decides.{nat_tests}
use Rattle.std.proofs.lemmas.Nat.{pow-add}
use Rattle.std.proofs.Math.Pow.{pow_mono}
use Rattle.server_core.specs.Rooms.{HasRoomAhead}

-- a power of two whose half is below another one is at most that one
pub near_power : (a b : ℕ) → 2 ^ a / 2 < 2 ^ b → 2 ^ a ≤ 2 ^ b
near_power a b near = by (nat_le a b) refl
  where
    by : (t : Bool) → nat_le a b ≡ t → 2 ^ a ≤ 2 ^ b
    by true e = let h : a ≤ b = grind (arith, nat_tests) in pow_mono h
    by false e =
        let h : b + 1 ≤ a = grind (arith, nat_tests) in
        let doubled : 2 ^ (b + 1) ≡ 2 ^ b * 2 = omega (arith, pow-add 2 b 1) in
        omega (arith, pow_mono h, doubled, near)

-- a block of a power of two has room ahead for what fits in it
pub room_ahead : (len power capacity : ℕ) → len ≤ 2 ^ power → 2 ^ power ≤ capacity → HasRoomAhead len capacity
room_ahead len power capacity fits within = λ k near. let at = near_power k power (omega (arith, near, fits)) in omega (arith, at, within)

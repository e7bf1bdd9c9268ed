-- The linear congruential generator that picks the commands of a made script.
-- Source: this project's generator of scripts; the numbers are those of the C standard's example of `rand`, with 31 bits.
use Rattle.std.specs.Prelude.{ℕ, zero, suc, ◌+◌, ◌*◌, ◌/◌, ◌%◌}
use Rattle.script_maker.specs.declared.generator.TheConstants.{MODULUS, MULTIPLIER, INCREMENT, LOW_PART, KINDS}

-- the number at which a loader starts: so each has numbers of its own
abbrev pub first_number : ℕ → ℕ → ℕ
first_number seed loader = (seed + loader) % MODULUS

-- the number behind this one
abbrev pub next_number : ℕ → ℕ
next_number number = (number * MULTIPLIER + INCREMENT) % MODULUS

-- the number of a loader after so many steps
abbrev pub number_after : ℕ → ℕ → ℕ → ℕ
number_after seed loader zero = first_number seed loader
number_after seed loader (suc steps) = next_number (number_after seed loader steps)

-- the kind of command that a number picks, from 0 to 6
abbrev pub picked : ℕ → ℕ
picked number = (number / LOW_PART) % KINDS

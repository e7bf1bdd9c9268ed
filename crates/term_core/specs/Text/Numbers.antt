-- The numbers that digits write.
use Rattle.std.specs.Prelude.{ℕ, ◌||◌, ◌^◌, nat_lt, Bool, List, Option, Some, None, codes, bytes_eq, if◌then◌else◌}
use Rattle.std.specs.Str.Parse.{digits_value}
use Rattle.term_core.specs.Written.{is_positive_text}

-- a number's digits: `0`, or digits with no zero in front
abbrev pub is_number_text : List ℕ → Bool
is_number_text text = bytes_eq text (codes "0") || is_positive_text text

-- the number that digits write
abbrev pub number_value : List ℕ → ℕ
number_value digits = digits_value 10 digits

-- the number that digits write, unless it is 2 ^ 32 or more
abbrev pub small_number : List ℕ → Option ℕ
small_number digits = if nat_lt (number_value digits) (2 ^ 32) then Some (number_value digits) else None

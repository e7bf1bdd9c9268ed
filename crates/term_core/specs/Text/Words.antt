-- Words that texts share: `on` and `off`, and numbers of 64 and of 32 bits.
use Rattle.std.specs.Prelude.{ℕ, ◌^◌, nat_lt, Bool, true, false, List, Option, Some, None, bytes_eq, codes, if◌then◌else◌}
use Rattle.term_core.specs.Text.Numbers.{is_number_text, number_value, small_number}

-- `on`, where a breakpoint is set, or `off`
abbrev pub switch_word : Bool → List ℕ
switch_word true = codes "on"
switch_word false = codes "off"

-- whether a breakpoint is set, by its word
abbrev pub switch_reading : List ℕ → Option Bool
switch_reading text = if bytes_eq text (codes "on") then Some true else (if bytes_eq text (codes "off") then Some false else None)

-- the number that digits write, unless it is 2 ^ 64 or more
abbrev pub wide_number : List ℕ → Option ℕ
wide_number digits = if nat_lt (number_value digits) (2 ^ 64) then Some (number_value digits) else None

-- the number of 64 bits that a text is
abbrev pub number_reading : List ℕ → Option ℕ
number_reading text = if is_number_text text then wide_number text else None

-- the same of 32 bits
abbrev pub narrow_reading : List ℕ → Option ℕ
narrow_reading text = if is_number_text text then small_number text else None

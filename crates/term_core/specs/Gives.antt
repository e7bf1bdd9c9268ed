-- What a call answers where one cause of refusal is free, as want of memory is.
use Rattle.std.specs.Prelude.{◌≡◌, ◌⊎◌, Result, Ok, Err}

-- the result is this value, or else this fault
abbrev pub GivesUnless : {T E : Type 0} → E → Result T E → T → Type 0
GivesUnless fault (Ok x) value = x ≡ value
GivesUnless fault (Err e) value = e ≡ fault

-- the result is a refusal, with this fault or else the free one
abbrev pub RefusesUnless : {T E : Type 0} → E → Result T E → E → Type 0
RefusesUnless free (Ok x) fault = ⊥
RefusesUnless free (Err e) fault = (e ≡ fault) ⊎ (e ≡ free)

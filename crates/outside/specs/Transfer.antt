-- What is read whole.
use Rattle.std.specs.Prelude.{ℕ, List}
use Rattle.outside.specs.declared.transfer.Input.{Input}
use Rattle.outside.specs.declared.transfer.Input.TheVariants.{Whole, TooLong}

-- of a whole input, this holds of its bytes
abbrev pub IfWhole : Input → (List ℕ → Type 0) → Type 0
IfWhole (Whole bytes) P = P bytes
IfWhole TooLong P = Unit {0}

-- where the input was too long, this holds
abbrev pub OnTooLong : Input → Type 0 → Type 0
OnTooLong (Whole bytes) P = Unit {0}
OnTooLong TooLong P = P

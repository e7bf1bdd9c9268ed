-- Ends that no doomed code makes, and that a computation refuses with no other.
use Rattle.std.proofs.Common.{ℤ, ◌+ℤ◌, ◌-ℤ◌, int_lt, Bool, true, false, Option, Some, None, Result, Ok, Err, if◌then◌else◌}
use Rattle.term_core.specs.declared.term.Term.{Term}
use Rattle.term_core.specs.declared.term.Term.TheVariants.{Int}
use Rattle.machine_core.specs.declared.process.End.{End}
use Rattle.machine_core.specs.declared.process.End.TheVariants.{Badarg, Badarith, SystemLimit, Killed}
use Rattle.machine_core.specs.declared.process.TurnEnd.{TurnEnd}
use Rattle.machine_core.specs.declared.process.TurnEnd.TheVariants.{Again, Ended}
use Rattle.machine_core.specs.Values.{difference_of, fits, fitting, integer_of, less_of, of_integers, sum_of}

-- an end that is none of a doomed instance
abbrev pub IsOwnEnd : End → Type 0
IsOwnEnd (Killed serial) = ⊥
IsOwnEnd end = Unit {0}

abbrev pub IsOwnTurnEnd : TurnEnd → Type 0
IsOwnTurnEnd Again = Unit {0}
IsOwnTurnEnd (Ended end) = IsOwnEnd end

-- so is each refusal
abbrev pub IsOwnFault : {A : Type 0} → Result A End → Type 0
IsOwnFault (Ok value) = Unit {0}
IsOwnFault (Err end) = IsOwnEnd end

fitting_own : (z : ℤ) (b : Bool) → IsOwnFault {A = Term} (if b then Ok (Int z) else Err SystemLimit)
fitting_own z true = tt
fitting_own z false = tt

integers_own : {A : Type 0} (give : ℤ → ℤ → Result A End) (end : End) (a b : Option ℤ) → ((x y : ℤ) → IsOwnFault (give x y)) → IsOwnEnd end → IsOwnFault (of_integers give end a b)
integers_own give end (Some x) (Some y) h e = h x y
integers_own give end (Some x) None h e = e
integers_own give end None y h e = e

pub sum_own : (a b : Term) → IsOwnFault (sum_of a b)
sum_own a b = integers_own {A = Term} (λ x y. fitting (x +ℤ y)) Badarith (integer_of a) (integer_of b) (λ x y. fitting_own (x +ℤ y) (fits (x +ℤ y))) tt

pub difference_own : (a b : Term) → IsOwnFault (difference_of a b)
difference_own a b = integers_own {A = Term} (λ x y. fitting (x -ℤ y)) Badarith (integer_of a) (integer_of b) (λ x y. fitting_own (x -ℤ y) (fits (x -ℤ y))) tt

pub less_own : (a b : Term) → IsOwnFault (less_of a b)
less_own a b = integers_own {A = Bool} (λ x y. Ok (int_lt x y)) Badarg (integer_of a) (integer_of b) (λ x y. tt {0}) tt

-- What values are worth to instructions: terms, integers of 60 bits, and the elements of tuples and lists.
-- Source: this project's call machine; the manual page `persistent_term` for terms that are read without a copy.
use Rattle.std.specs.Prelude.{ℕ, zero, suc, Bool, ◌&&◌, ℤ, pos, negsuc, ◌+ℤ◌, ◌-ℤ◌, int_le, int_lt, List, [], Option, Some, None, Result, Ok, Err, option_map, slice_get, if◌then◌else◌}
use Rattle.term_core.specs.declared.term.Term.{Term}
use Rattle.term_core.specs.declared.term.Term.TheVariants.{Int, Atom, Tuple, List as ListOf}
use Rattle.term_core.specs.Image.{is_immediate}
use Rattle.term_core.specs.Plain.{plain, term_of as plain_to_term}
use Rattle.term_core.specs.PlainTerm.{PlainTerm}
use Rattle.term_core.specs.Same as plain_terms
use Rattle.mod_core.specs.declared.code.Operand.{Operand}
use Rattle.mod_core.specs.declared.code.Operand.TheVariants.{Reg, Const}
use Rattle.machine_core.specs.declared.process.End.{End}
use Rattle.machine_core.specs.declared.process.End.TheVariants.{Badarg, Badarith, SystemLimit}
use Rattle.machine_core.specs.Process.{PlainFrame, PlainValue, literal, owned, register_of}

-- the term that a value is
abbrev pub term_of : PlainValue → Term
term_of (owned term) = term
term_of (literal serial term) = term

-- a term that stands in an area, as a value: an integer or an atom is copied
abbrev pub value_in : ℕ → Term → PlainValue
value_in serial term = if is_immediate (plain term) then owned term else literal serial term

-- what an operand is in a frame: a constant stands in the frame's instance
abbrev pub value_of : PlainFrame → Operand → PlainValue
value_of f (Reg register) = register_of f.registers register
value_of f (Const term) = value_in f.serial term

-- the term of an operand in a frame
abbrev pub operand_term : PlainFrame → Operand → Term
operand_term f operand = term_of (value_of f operand)

-- whether an integer is one of 60 bits
abbrev pub fits : ℤ → Bool
fits z = int_le (negsuc 576460752303423487) z && int_le z (pos 576460752303423487)

-- the term of an integer, or the end where it is none of 60 bits
abbrev pub fitting : ℤ → Result Term End
fitting z = if fits z then Ok (Int z) else Err SystemLimit

-- the integer that a term is, if it is one
abbrev pub integer_of : Term → Option ℤ
integer_of (Int z) = Some z
integer_of (Atom a) = None
integer_of (Tuple ts) = None
integer_of (ListOf ts) = None

-- what two integers give; where a term is no integer, the end of the process that asks for it
abbrev pub of_integers : {A : Type 0} → (ℤ → ℤ → Result A End) → End → Option ℤ → Option ℤ → Result A End
of_integers give end (Some x) (Some y) = give x y
of_integers give end (Some x) None = Err end
of_integers give end None y = Err end

-- the sum of two terms, or the end of the process that asks for it
abbrev pub sum_of : Term → Term → Result Term End
sum_of a b = of_integers (λ x y. fitting (x +ℤ y)) Badarith (integer_of a) (integer_of b)

-- the first term less the second, or the end of the process that asks for it
abbrev pub difference_of : Term → Term → Result Term End
difference_of a b = of_integers (λ x y. fitting (x -ℤ y)) Badarith (integer_of a) (integer_of b)

-- whether the first integer is less than the second, or the end of the process that asks for it
abbrev pub less_of : Term → Term → Result Bool End
less_of a b = of_integers (λ x y. Ok (int_lt x y)) Badarg (integer_of a) (integer_of b)

-- the terms of a tuple or a list
abbrev pub parts_of : Term → List PlainTerm
parts_of (Int z) = []
parts_of (Atom a) = []
parts_of (Tuple ts) = ts
parts_of (ListOf ts) = ts

-- the element with a number, counted from 1
abbrev pub element_at : List PlainTerm → Option ℤ → Option PlainTerm
element_at ts (Some (pos (suc n))) = slice_get ts n
element_at ts (Some (pos zero)) = None
element_at ts (Some (negsuc n)) = None
element_at ts None = None

-- an element of a value: of a literal it is a literal of the same area, or an integer or an atom that is copied
abbrev pub part_value : PlainValue → PlainTerm → PlainValue
part_value (owned term) part = owned (plain_to_term part)
part_value (literal serial term) part = value_in serial (plain_to_term part)

-- the element of a value with the number that a term is, if there is one
abbrev pub element_of : Term → PlainValue → Option PlainValue
element_of index value = option_map (part_value value) (element_at (parts_of (term_of value)) (integer_of index))

-- whether two terms are equal
abbrev pub is_same : Term → Term → Bool
is_same a b = plain_terms.is_same (plain a) (plain b)

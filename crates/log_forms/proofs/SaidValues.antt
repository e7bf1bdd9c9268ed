-- Values of a process that a text can say: those of registers, of parts, and of sums.
use Rattle.std.proofs.Common.{◌≡◌, ℕ, zero, suc, ◌+◌, ◌≤◌, ◌<◌, ◌-◌, min, ℤ, pos, negsuc, ◌+ℤ◌, ◌-ℤ◌, int_le, Bool, true, false, ◌&&◌, List, [], ◌∷◌, ◌++◌, length, take, drop, replicate, slice_get, slice_set, Option, Some, None, IfSome, unwrap_or, option_map, Result, Ok, Err, IfOk, T, if◌then◌else◌, refl, sym, ap, subst, ◌∙◌, arith}
use Rattle.std.proofs.lemmas.List.{length-append, length-drop, length-replicate, length-take}
use Rattle.std.specs.List.{AllByRecursion}
use Rattle.std.specs.Int.Signed.{le_z_yes}
use Rattle.term_core.specs.declared.term.Term.{Term}
use Rattle.term_core.specs.declared.term.Term.TheVariants.{Int, Atom, Tuple, List as ListOf}
use Rattle.term_core.specs.declared.term_text.TheConstants.{MOST_WORDS}
use Rattle.term_core.specs.Image.{is_immediate}
use Rattle.term_core.specs.Plain.{plain, term_of as plain_to_term}
use Rattle.term_core.specs.PlainTerm.{PlainTerm, EachInRow, integer_leaf, row_of, row_words}
use Rattle.term_core.specs.Written.{IsTermInteger}
use Rattle.term_core.proofs.PlainTerms.{plain-term_of}
use Rattle.mod_core.specs.declared.code.Operand.{Operand}
use Rattle.mod_core.specs.declared.code.Operand.TheVariants.{Reg, Const}
use Rattle.mod_core.specs.declared.code.TheConstants.{REGISTERS}
use Rattle.machine_core.specs.declared.process.End.{End}
use Rattle.machine_core.specs.declared.process.End.TheVariants.{Badarith, SystemLimit}
use Rattle.machine_core.specs.Process.{PlainFrame, PlainValue, arguments_at, first_registers, literal, no_value, owned, owned_values}
use Rattle.machine_core.specs.Turn.{terms_of}
use Rattle.machine_core.specs.Values.{difference_of, element_at, element_of, fits, fitting, integer_of, of_integers, part_value, parts_of, sum_of, term_of, value_in, value_of}
use Rattle.script_core.specs.Sound.{IsTermOf}

-- ---- lists

module _ {X : Type 0} (P : X → Type 0) where
  pub said_take : (n : ℕ) (xs : List X) → AllByRecursion P xs → AllByRecursion P (take n xs)
  said_take zero xs h = tt
  said_take (suc n) [] h = tt
  said_take (suc n) (x ∷ xs) h = (h.0, said_take n xs h.1)

  pub said_drop : (n : ℕ) (xs : List X) → AllByRecursion P xs → AllByRecursion P (drop n xs)
  said_drop zero xs h = h
  said_drop (suc n) [] h = tt
  said_drop (suc n) (x ∷ xs) h = said_drop n xs h.1

  pub said_join : (xs ys : List X) → AllByRecursion P xs → AllByRecursion P ys → AllByRecursion P (xs ++ ys)
  said_join [] ys h k = k
  said_join (x ∷ xs) ys h k = (h.0, said_join xs ys h.1 k)

  pub said_copies : (n : ℕ) (x : X) → P x → AllByRecursion P (replicate n x)
  said_copies zero x h = tt
  said_copies (suc n) x h = (h, said_copies n x h)

  pub said_set : (xs : List X) (i : ℕ) (x : X) → P x → AllByRecursion P xs → AllByRecursion P (slice_set xs i x)
  said_set [] i x p h = tt
  said_set (y ∷ xs) zero x p h = (p, h.1)
  said_set (y ∷ xs) (suc i) x p h = (h.0, said_set xs i x p h.1)

  pub said_get : (xs : List X) (i : ℕ) (d : X) → P d → AllByRecursion P xs → P (unwrap_or (slice_get xs i) d)
  said_get [] i d p h = p
  said_get (x ∷ xs) zero d p h = h.0
  said_get (x ∷ xs) (suc i) d p h = said_get xs i d p h.1

  pub said_at : (xs : List X) (i : ℕ) → AllByRecursion P xs → IfSome (slice_get xs i) P
  said_at [] i h = tt
  said_at (x ∷ xs) zero h = h.0
  said_at (x ∷ xs) (suc i) h = said_at xs i h.1

pub length_set : {X : Type 0} (xs : List X) (i : ℕ) (x : X) → length (slice_set xs i x) ≡ length xs
length_set [] i x = refl
length_set (y ∷ xs) zero x = refl
length_set (y ∷ xs) (suc i) x = ap suc (length_set xs i x)

pub length_filled : {X : Type 0} (n : ℕ) (xs : List X) (x : X) → length (take n (xs ++ replicate n x)) ≡ n
length_filled n xs x = length-take n (xs ++ replicate n x) ∙ ap (min n) (length-append xs (replicate n x) ∙ ap (λ m. length xs + m) (length-replicate n x)) ∙ (let low : min n (length xs + n) ≡ n = omega arith in low)

pub length_arguments : {X : Type 0} (xs : List X) (at count : ℕ) → at + count ≤ length xs → length (take count (drop at xs)) ≡ count
length_arguments xs at count h = length-take count (drop at xs) ∙ ap (min count) (length-drop at xs) ∙ (let low : min count (length xs - at) ≡ count = omega (arith, h) in low)

-- ---- terms

module _ (names : List (List ℕ)) where
  -- a value whose term a text can say
  abbrev pub IsSaid : PlainValue → Type 0
  IsSaid value = IsTermOf names (plain (term_of value))

  -- so is a constant
  abbrev pub IsSaidOperand : Operand → Type 0
  IsSaidOperand (Reg register) = Unit {0}
  IsSaidOperand (Const term) = IsTermOf names (plain term)

  -- registers, as many as a frame has, whose values are so
  pub record AreSaid (registers : List PlainValue) : Type 0 where
    pub count : length registers ≡ REGISTERS
    pub values : AllByRecursion IsSaid registers

  pub said_integer : (z : ℤ) → IsTermInteger z → IsTermOf names (integer_leaf z)
  said_integer z h = record { leaves = h; short = omega arith }

  pub said_none : IsSaid no_value
  said_none = said_integer (pos 0) (record { low = le_z_yes tt; high = le_z_yes tt })

  -- a term as it is
  pub said_plain : (term : PlainTerm) → IsTermOf names term → IsTermOf names (plain (plain_to_term term))
  said_plain term h = subst (IsTermOf names) (sym (plain-term_of term)) h

  said_choice : (serial : ℕ) (term : Term) (b : Bool) → IsTermOf names (plain term) → IsSaid (if b then owned term else literal serial term)
  said_choice serial term true h = h
  said_choice serial term false h = h

  pub said_in : (serial : ℕ) (term : Term) → IsTermOf names (plain term) → IsSaid (value_in serial term)
  said_in serial term h = said_choice serial term (is_immediate (plain term)) h

  -- what an operand is
  pub said_operand : (f : PlainFrame) (operand : Operand) → AreSaid f.registers → IsSaidOperand operand → IsSaid (value_of f operand)
  said_operand f (Reg register) h o = said_get IsSaid f.registers register no_value said_none h.values
  said_operand f (Const term) h o = said_in f.serial term o

  -- a register that is set
  pub said_stored : (registers : List PlainValue) (to : ℕ) (value : PlainValue) → AreSaid registers → IsSaid value → AreSaid (slice_set registers to value)
  said_stored registers to value h v = record { count = length_set registers to value ∙ h.count; values = said_set IsSaid registers to value v h.values }

  -- the registers of a function that is entered
  pub said_first : (args : List PlainValue) → AllByRecursion IsSaid args → AreSaid (first_registers args)
  said_first args h = record {
    count = length_filled REGISTERS args no_value;
    values = said_take IsSaid REGISTERS (args ++ replicate REGISTERS no_value) (said_join IsSaid args (replicate REGISTERS no_value) h (said_copies IsSaid REGISTERS no_value said_none));
  }

  pub said_arguments : (registers : List PlainValue) (at count : ℕ) → AreSaid registers → AllByRecursion IsSaid (arguments_at registers at count)
  said_arguments registers at count h = said_take IsSaid count (drop at registers) (said_drop IsSaid at registers h.values)

  pub said_owned : (args : List PlainTerm) → AllByRecursion (IsTermOf names) args → AllByRecursion IsSaid (owned_values args)
  said_owned [] h = tt
  said_owned (term ∷ args) h = (said_plain term h.0, said_owned args h.1)

  pub said_terms : (values : List PlainValue) → AllByRecursion IsSaid values → AllByRecursion (IsTermOf names) (terms_of values)
  said_terms [] h = tt
  said_terms (value ∷ values) h = (h.0, said_terms values h.1)

  -- ---- parts

  row_parts : (ts : List PlainTerm) → EachInRow IsTermInteger (λ atom. atom < length names) (row_of ts) → row_words (row_of ts) ≤ MOST_WORDS → AllByRecursion (IsTermOf names) ts
  row_parts [] h short = tt
  row_parts (t ∷ ts) h short = (record { leaves = h.0; short = omega (arith, short) }, row_parts ts h.1 (omega (arith, short)))

  pub said_parts : (term : Term) → IsTermOf names (plain term) → AllByRecursion (IsTermOf names) (parts_of term)
  said_parts (Int z) h = tt
  said_parts (Atom a) h = tt
  said_parts (Tuple ts) h = let short = h.short in row_parts ts h.leaves (omega (arith, short))
  said_parts (ListOf ts) h = let short = h.short in row_parts ts h.leaves (omega (arith, short))

  said_element : (ts : List PlainTerm) (index : Option ℤ) → AllByRecursion (IsTermOf names) ts → IfSome (element_at ts index) (IsTermOf names)
  said_element ts (Some (pos (suc n))) h = said_at (IsTermOf names) ts n h
  said_element ts (Some (pos zero)) h = tt
  said_element ts (Some (negsuc n)) h = tt
  said_element ts None h = tt

  said_part : (value : PlainValue) (part : PlainTerm) → IsTermOf names part → IsSaid (part_value value part)
  said_part (owned term) part h = said_plain part h
  said_part (literal serial term) part h = said_in serial (plain_to_term part) (said_plain part h)

  part_found : (value : PlainValue) (o : Option PlainTerm) → IfSome o (IsTermOf names) → IfSome (option_map (part_value value) o) IsSaid
  part_found value None h = tt
  part_found value (Some part) h = said_part value part h

  pub said_found : (index : Term) (value : PlainValue) → IsSaid value → IfSome (element_of index value) IsSaid
  said_found index value h = part_found value (element_at (parts_of (term_of value)) (integer_of index)) (said_element (parts_of (term_of value)) (integer_of index) (said_parts (term_of value) h))

  -- ---- sums

  both_true : (a b : Bool) → (a && b) ≡ true → (a ≡ true) × (b ≡ true)
  both_true true true h = (refl, refl)
  both_true true false h = absurd cc
  both_true false b h = absurd cc

  passed : (b : Bool) → b ≡ true → T b
  passed b h = subst T (sym h) tt

  fitting_said : (z : ℤ) (b : Bool) → fits z ≡ b → IfOk (if b then Ok (Int z) else Err SystemLimit) (λ term. IsTermOf names (plain term))
  fitting_said z true h =
      let both = both_true (int_le (negsuc 576460752303423487) z) (int_le z (pos 576460752303423487)) h in
      said_integer z (record { low = le_z_yes (passed _ both.0); high = le_z_yes (passed _ both.1) })
  fitting_said z false h = tt

  of_said : (give : ℤ → ℤ → Result Term End) (end : End) (a b : Option ℤ) → ((x y : ℤ) → IfOk (give x y) (λ term. IsTermOf names (plain term))) → IfOk (of_integers give end a b) (λ term. IsTermOf names (plain term))
  of_said give end (Some x) (Some y) h = h x y
  of_said give end (Some x) None h = tt
  of_said give end None y h = tt

  pub said_sum : (a b : Term) → IfOk (sum_of a b) (λ term. IsTermOf names (plain term))
  said_sum a b = of_said (λ x y. fitting (x +ℤ y)) Badarith (integer_of a) (integer_of b) (λ x y. fitting_said (x +ℤ y) (fits (x +ℤ y)) refl)

  pub said_difference : (a b : Term) → IfOk (difference_of a b) (λ term. IsTermOf names (plain term))
  said_difference a b = of_said (λ x y. fitting (x -ℤ y)) Badarith (integer_of a) (integer_of b) (λ x y. fitting_said (x -ℤ y) (fits (x -ℤ y)) refl)

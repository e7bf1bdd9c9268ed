-- The words of an instruction tell its operands and the instruction.
use Rattle.std.proofs.Common.{◌≡◌, ℕ, ◌+◌, ◌*◌, ◌/◌, ◌%◌, ◌<◌, ◌≤◌, List, ◌++◌, length, get_or, refl, ap, ◌∙◌, subst, arith, Option, None, Some, slice_get, slice_index, IsTrue, IsSomeAnd, false, lit<}
use Rattle.std.proofs.lemmas.Bool.{false≢true}
use Rattle.std.proofs.lemmas.List.{get_or-append-add, get_or_append_left}
use Rattle.std.proofs.lemmas.Option.{slice_get_within}
use Rattle.term_core.specs.declared.term.Term.TheVariants.{Int, Atom, Tuple, List as ListOf}
use Rattle.term_core.specs.declared.atom.AtomId.{AtomId}
use Rattle.term_core.specs.declared.atom.Mfa.{Mfa}
use Rattle.term_core.specs.Image.{IsImageAt}
use Rattle.term_core.specs.Plain.{plain}
use Rattle.mod_core.specs.declared.code.Operand.{Operand}
use Rattle.mod_core.specs.declared.code.Operand.TheVariants.{Reg, Const}
use Rattle.mod_core.specs.declared.code.Instr.{Instr}
use Rattle.mod_core.specs.declared.code.Instr.TheVariants.{Move, Add, Sub, Eq, Less, Jump, Call, CallExt, Ret, Pget, PgetOr, Elem, Print, Yield}
use Rattle.mod_core.specs.declared.code.Function.{Function}
use Rattle.mod_core.specs.Module.{IsCallPlace, IsFunctionName, IsInstr, IsOperand}
use Rattle.mod_core.specs.ModuleImage.{constants_len, instr_constants, instr_words, name_word, operand_constants, operand_word}
use Rattle.mod_core.specs.Decoding.{AreOperandsAt, IsWordOf, atom_from, has_first, has_second, instr_decoded, instr_read_of, name_from, number_from}
use Rattle.mod_core.proofs.Constants.{ConstantsStand, stand_behind, stand_front}
use Rattle.mod_core.proofs.Places.{StandsAt}

-- a word of those that stand at a place
pub stands_word : (these whole : List ℕ) (place j at : ℕ) → StandsAt these whole place → j < length these → at ≡ place + j → slice_index whole at ≡ slice_index these j
stands_word these whole place j at stands below here =
    let e : at ≡ length stands.before + j = omega (arith, here, stands.place_is) in
    (λ t. get_or (stands.whole_is t) (e t) 0) ∙ get_or-append-add stands.before (these ++ stands.rest) j 0 ∙ get_or_append_left these stands.rest 0 j below

-- the word of an operand stands for it
pub operand_stands : (words : List ℕ) (constants word : ℕ) (o : Operand) → IsOperand o → ConstantsStand words constants (operand_constants o) → word ≡ operand_word constants o → IsWordOf words word o
operand_stands words constants word (Reg register) is stand e = (e, omega (arith, is))
operand_stands words constants word (Const (Int z)) is stand e = (e, is)
operand_stands words constants word (Const (Atom a)) is stand e = (e, is)
operand_stands words constants word (Const (Tuple ts)) is stand e =
    let place : constants ≡ word / 16 = omega (arith, e) in (omega (arith, e), subst (λ p. IsImageAt words p (plain (Tuple ts))) place stand.0)
operand_stands words constants word (Const (ListOf ts)) is stand e =
    let place : constants ≡ word / 16 = omega (arith, e) in (omega (arith, e), subst (λ p. IsImageAt words p (plain (ListOf ts))) place stand.0)

-- the instruction that these words tell, and its operands
pub record HasOperands (words : List ℕ) (at : ℕ) (i : Instr) : Type 0 where
  pub a : Operand
  pub b : Operand
  pub are : AreOperandsAt words at a b
  pub is : instr_decoded words at a b ≡ i

with_operands : (words : List ℕ) (at number : ℕ) (a b : Operand) (i : Instr) → slice_index words at ≡ number → 0 < number → number < 15 → (IsTrue (has_first number) → IsWordOf words (slice_index words (at + 1)) a) → (IsTrue (has_second number) → IsWordOf words (slice_index words (at + 2)) b) →
    instr_read_of number a b (slice_index words (at + 1)) (slice_index words (at + 2)) (slice_index words (at + 3)) ≡ i → HasOperands words at i
with_operands words at number a b i told some known first second is = record {
  a = a;
  b = b;
  are = record {
    some = omega arith;
    known = omega arith;
    first = λ h. first (subst (λ n. IsTrue (has_first n)) told h);
    second = λ h. second (subst (λ n. IsTrue (has_second n)) told h);
  };
  is = ap (λ n. instr_read_of n a b (slice_index words (at + 1)) (slice_index words (at + 2)) (slice_index words (at + 3))) told ∙ is;
}

register_back : (word register : ℕ) → word ≡ register * 16 + 6 → register < 16 → number_from (word / 16) ≡ register
register_back word register e small = omega arith

number_back : (word number : ℕ) → word ≡ number → number < 4294967296 → number_from word ≡ number
number_back word number e small = omega arith

atom_back : (word : ℕ) (atom : AtomId) → word ≡ atom.0 * 16 + 2 → atom.0 < 4096 → atom_from word ≡ atom
atom_back word atom e small = let back : number_from (word / 16) ≡ atom.0 = omega arith in ap (λ n. record { 0 = n }) back

name_back : (word : ℕ) (to : Mfa) → word ≡ name_word to → IsFunctionName to → name_from word ≡ to
name_back word to e is =
    let m : number_from (word / 16 / 4096) ≡ to.«module».0 = omega (arith, e, is.module_named, is.name_named, is.arity) in
    let f : word / 16 % 4096 ≡ to.name.0 = omega (arith, e, is.module_named, is.name_named, is.arity) in
    let a : word % 16 ≡ to.arity = omega (arith, e, is.module_named, is.name_named, is.arity) in
    λ t. record { «module» = record { 0 = m t }; name = record { 0 = f t }; arity = a t }

called : (o : Option Function) (at : ℕ) → IsSomeAnd o (λ f. IsCallPlace at f.arity) → (f : Function) × ((o ≡ Some f) × IsCallPlace at f.arity)
called None at h = absurd h
called (Some f) at h = (f, (refl, h))

local_place : (fs : List Function) (function at : ℕ) → IsSomeAnd (slice_get fs function) (λ f. IsCallPlace at f.arity) → at < 16
local_place fs function at h = let found = called (slice_get fs function) at h in found.1.1.back

local_small : (fs : List Function) → length fs ≤ 16 → (function at : ℕ) → IsSomeAnd (slice_get fs function) (λ f. IsCallPlace at f.arity) → function < 4294967296
local_small fs few function at h = let found = called (slice_get fs function) at h in omega (arith, slice_get_within fs function found.0 found.1.0)

-- an operand that an instruction does not have
abbrev nothing : Operand
nothing = Reg 0

none : {A : Type 0} → IsTrue false → A
none h = absurd (false≢true h)

module _ (words : List ℕ) (at constants : ℕ) (fs : List Function) (few : length fs ≤ 16) where
  module _ (a b : Operand) (first : IsOperand a) (second : IsOperand b) (images : ConstantsStand words constants (operand_constants a ++ operand_constants b)) where
    first_stands : slice_index words (at + 1) ≡ operand_word constants a → IsWordOf words (slice_index words (at + 1)) a
    first_stands e = operand_stands words constants (slice_index words (at + 1)) a first (stand_front words constants (operand_constants a) (operand_constants b) images) e

    second_stands : slice_index words (at + 2) ≡ operand_word (constants + constants_len (operand_constants a)) b → IsWordOf words (slice_index words (at + 2)) b
    second_stands e = operand_stands words (constants + constants_len (operand_constants a)) (slice_index words (at + 2)) b second (stand_behind words constants (operand_constants a) (operand_constants b) images) e

  number_told : (i : Instr) → StandsAt (instr_words constants i) words at → 0 < length (instr_words constants i) → slice_index words at ≡ slice_index (instr_words constants i) 0
  number_told i stands some = stands_word (instr_words constants i) words at 0 at stands some (omega arith)

  word_told : (i : Instr) (j : ℕ) → StandsAt (instr_words constants i) words at → j < length (instr_words constants i) → slice_index words (at + j) ≡ slice_index (instr_words constants i) j
  word_told i j stands below = stands_word (instr_words constants i) words at j (at + j) stands below refl

  -- an instruction with its constants is what its words tell
  pub instr_told : (i : Instr) → IsInstr fs 1024 i → StandsAt (instr_words constants i) words at → ConstantsStand words constants (instr_constants i) → HasOperands words at i
  instr_told (Move from to) is stands images =
      with_operands words at 1 from nothing (Move from to) (number_told (Move from to) stands (lit< tt)) (lit< tt) (lit< tt)
      (λ _. operand_stands words constants (slice_index words (at + 1)) from is.0 images (word_told (Move from to) 1 stands (lit< tt))) (none)
      (ap (Move from) (register_back (slice_index words (at + 2)) to (word_told (Move from to) 2 stands (lit< tt)) is.1))
  instr_told (Add a b to) is stands images =
      with_operands words at 2 a b (Add a b to) (number_told (Add a b to) stands (lit< tt)) (lit< tt) (lit< tt)
      (λ _. first_stands a b is.0 is.1 images (word_told (Add a b to) 1 stands (lit< tt))) (λ _. second_stands a b is.0 is.1 images (word_told (Add a b to) 2 stands (lit< tt)))
      (ap (Add a b) (register_back (slice_index words (at + 3)) to (word_told (Add a b to) 3 stands (lit< tt)) is.2))
  instr_told (Sub a b to) is stands images =
      with_operands words at 3 a b (Sub a b to) (number_told (Sub a b to) stands (lit< tt)) (lit< tt) (lit< tt)
      (λ _. first_stands a b is.0 is.1 images (word_told (Sub a b to) 1 stands (lit< tt))) (λ _. second_stands a b is.0 is.1 images (word_told (Sub a b to) 2 stands (lit< tt)))
      (ap (Sub a b) (register_back (slice_index words (at + 3)) to (word_told (Sub a b to) 3 stands (lit< tt)) is.2))
  instr_told (Eq a b target) is stands images =
      with_operands words at 4 a b (Eq a b target) (number_told (Eq a b target) stands (lit< tt)) (lit< tt) (lit< tt)
      (λ _. first_stands a b is.0 is.1 images (word_told (Eq a b target) 1 stands (lit< tt))) (λ _. second_stands a b is.0 is.1 images (word_told (Eq a b target) 2 stands (lit< tt)))
      (ap (Eq a b) (number_back (slice_index words (at + 3)) target (word_told (Eq a b target) 3 stands (lit< tt)) (omega (arith, is.2))))
  instr_told (Less a b target) is stands images =
      with_operands words at 5 a b (Less a b target) (number_told (Less a b target) stands (lit< tt)) (lit< tt) (lit< tt)
      (λ _. first_stands a b is.0 is.1 images (word_told (Less a b target) 1 stands (lit< tt))) (λ _. second_stands a b is.0 is.1 images (word_told (Less a b target) 2 stands (lit< tt)))
      (ap (Less a b) (number_back (slice_index words (at + 3)) target (word_told (Less a b target) 3 stands (lit< tt)) (omega (arith, is.2))))
  instr_told (Jump target) is stands images =
      with_operands words at 6 nothing nothing (Jump target) (number_told (Jump target) stands (lit< tt)) (lit< tt) (lit< tt)
      (none) (none)
      (ap Jump (number_back (slice_index words (at + 1)) target (word_told (Jump target) 1 stands (lit< tt)) (omega (arith, is))))
  instr_told (Call function at_place) is stands images =
      with_operands words at 7 nothing nothing (Call function at_place) (number_told (Call function at_place) stands (lit< tt)) (lit< tt) (lit< tt)
      (none) (none)
      (λ t. Call ((number_back (slice_index words (at + 1)) function (word_told (Call function at_place) 1 stands (lit< tt)) (local_small fs few function at_place is)) t) ((register_back (slice_index words (at + 2)) at_place (word_told (Call function at_place) 2 stands (lit< tt)) (local_place fs function at_place is)) t))
  instr_told (CallExt to at_place) is stands images =
      with_operands words at 8 nothing nothing (CallExt to at_place) (number_told (CallExt to at_place) stands (lit< tt)) (lit< tt) (lit< tt)
      (none) (none)
      (λ t. CallExt (name_back (slice_index words (at + 1)) to (word_told (CallExt to at_place) 1 stands (lit< tt)) is.0 t) ((register_back (slice_index words (at + 2)) at_place (word_told (CallExt to at_place) 2 stands (lit< tt)) is.1.back) t))
  instr_told (Ret value) is stands images =
      with_operands words at 9 value nothing (Ret value) (number_told (Ret value) stands (lit< tt)) (lit< tt) (lit< tt)
      (λ _. operand_stands words constants (slice_index words (at + 1)) value is images (word_told (Ret value) 1 stands (lit< tt))) (none)
      (refl)
  instr_told (Pget key to) is stands images =
      with_operands words at 10 nothing nothing (Pget key to) (number_told (Pget key to) stands (lit< tt)) (lit< tt) (lit< tt)
      (none) (none)
      (λ t. Pget (atom_back (slice_index words (at + 1)) key (word_told (Pget key to) 1 stands (lit< tt)) is.0 t) ((register_back (slice_index words (at + 2)) to (word_told (Pget key to) 2 stands (lit< tt)) is.1) t))
  instr_told (PgetOr key other to) is stands images =
      with_operands words at 11 nothing other (PgetOr key other to) (number_told (PgetOr key other to) stands (lit< tt)) (lit< tt) (lit< tt)
      (none) (λ _. operand_stands words constants (slice_index words (at + 2)) other is.1 images (word_told (PgetOr key other to) 2 stands (lit< tt)))
      (λ t. PgetOr (atom_back (slice_index words (at + 1)) key (word_told (PgetOr key other to) 1 stands (lit< tt)) is.0 t) other ((register_back (slice_index words (at + 3)) to (word_told (PgetOr key other to) 3 stands (lit< tt)) is.2) t))
  instr_told (Elem index from to) is stands images =
      with_operands words at 12 index from (Elem index from to) (number_told (Elem index from to) stands (lit< tt)) (lit< tt) (lit< tt)
      (λ _. first_stands index from is.0 is.1 images (word_told (Elem index from to) 1 stands (lit< tt))) (λ _. second_stands index from is.0 is.1 images (word_told (Elem index from to) 2 stands (lit< tt)))
      (ap (Elem index from) (register_back (slice_index words (at + 3)) to (word_told (Elem index from to) 3 stands (lit< tt)) is.2))
  instr_told (Print value) is stands images =
      with_operands words at 13 value nothing (Print value) (number_told (Print value) stands (lit< tt)) (lit< tt) (lit< tt)
      (λ _. operand_stands words constants (slice_index words (at + 1)) value is images (word_told (Print value) 1 stands (lit< tt))) (none)
      (refl)
  instr_told Yield is stands images = with_operands words at 14 nothing nothing Yield (number_told Yield stands (lit< tt)) (lit< tt) (lit< tt) none none refl

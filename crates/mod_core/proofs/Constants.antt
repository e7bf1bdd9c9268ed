-- The images of a module's complex constants: which constants are before those of an instruction, and that each image stands where it is said.
use Rattle.std.proofs.Common.{◌≡◌, ℕ, zero, suc, ◌+◌, ◌<◌, ◌≤◌, Some, List, [], ◌∷◌, ◌++◌, length, take, drop, slice_get, sym, ap, ◌∙◌, subst, arith, All, append_assoc}
use Rattle.std.proofs.Math.Seq.{drop-append_seam}
use Rattle.std.proofs.lemmas.List.{append-nil, drop-drop}
use Rattle.std.proofs.lemmas.List.Concat.{flat_map-append}
use Rattle.std.proofs.lemmas.List.Elements.{All-head, All-tail}
use Rattle.std.proofs.lemmas.Option.{same_Some}
use Rattle.term_core.specs.declared.names.TheConstants.{MOST_NAMES}
use Rattle.term_core.specs.declared.term_text.TheConstants.{MOST_WORDS}
use Rattle.term_core.specs.declared.term.Term.{Term}
use Rattle.term_core.specs.declared.term.Term.TheVariants.{Tuple, List as ListOf}
use Rattle.term_core.specs.Image.{HasTermIntegers, IsImageAt, IsPlainTerm, image_of}
use Rattle.term_core.specs.PlainTerm.{PlainTerm, term_words}
use Rattle.term_core.specs.Plain.{plain}
use Rattle.term_core.specs.Written.{IsTermInteger}
use Rattle.term_core.proofs.ImageTerms.{length-image}
use Rattle.term_core.proofs.LeafFacts.{EachLeaf-weaker, EachOf, EachOf-append}
use Rattle.mod_core.specs.declared.code.Operand.{Operand}
use Rattle.mod_core.specs.declared.code.Operand.TheVariants.{Const}
use Rattle.mod_core.specs.declared.code.Instr.{Instr}
use Rattle.mod_core.specs.declared.code.Instr.TheVariants.{Move, Add, Sub, Eq, Less, Ret, PgetOr, Elem, Print}
use Rattle.mod_core.specs.declared.code.Function.{Function}
use Rattle.mod_core.specs.declared.code.Module.{Module}
use Rattle.mod_core.specs.Module.{IsConstant, IsFunction, IsInstr, IsModule, IsOperand}
use Rattle.mod_core.specs.ModuleImage.{code_constants, constants_len, constants_of, constants_start, constants_words, instr_constants, module_image, operand_constants}
use Rattle.mod_core.proofs.Lengths.{front_and_constants, front_words, front_words_len}

-- ---- what is before

-- a list is what is before an element, the element, and what is behind it
pub split_at : {X : Type 0} (xs : List X) (k : ℕ) (x : X) → slice_get xs k ≡ Some x → xs ≡ take k xs ++ x ∷ drop (suc k) xs
split_at [] k x found = absurd (grind arith)
split_at (y ∷ xs) zero x found = ap (λ z. z ∷ xs) (same_Some y x found)
split_at (y ∷ xs) (suc k) x found = ap (λ zs. y ∷ zs) (split_at xs k x found)

-- the place of the first complex constant of a function's code
abbrev pub constants_place : Module → ℕ → ℕ
constants_place m n = constants_start m.functions + constants_len (constants_of (take n m.functions))

-- the place of the first complex constant of an instruction, where those of its code begin at a place
abbrev pub constants_in : ℕ → List Instr → ℕ → ℕ
constants_in place code k = place + constants_len (code_constants (take k code))

-- the constants of code are those before an instruction, its own and those behind it
pub code_constants_split : (is : List Instr) (k : ℕ) (i : Instr) → slice_get is k ≡ Some i → code_constants is ≡ code_constants (take k is) ++ (instr_constants i ++ code_constants (drop (suc k) is))
code_constants_split is k i found = ap code_constants (split_at is k i found) ∙ flat_map-append instr_constants (take k is) (i ∷ drop (suc k) is)

-- and those of functions likewise
pub constants_of_split : (fs : List Function) (n : ℕ) (f : Function) → slice_get fs n ≡ Some f → constants_of fs ≡ constants_of (take n fs) ++ (code_constants f.code ++ constants_of (drop (suc n) fs))
constants_of_split fs n f found = ap constants_of (split_at fs n f found) ∙ flat_map-append (λ g. code_constants g.code) (take n fs) (f ∷ drop (suc n) fs)

-- ---- each has an image

-- a term that has an image
pub record HasImage (t : PlainTerm) : Type 0 where
  pub fits : IsPlainTerm t
  pub short : term_words t ≤ MOST_WORDS

-- a constant has one
pub constant_has : (term : Term) → IsConstant term → HasImage (plain term)
constant_has term is = record {
  fits = EachLeaf-weaker IsTermInteger IsTermInteger (λ (a : ℕ). a < MOST_NAMES) (λ a. a < 4294967296) (λ z h. h) (λ a h. omega arith) (plain term) is.leaves;
  short = is.short;
}

-- its integers are those of terms
pub constant_integers : (term : Term) → IsConstant term → HasTermIntegers (plain term)
constant_integers term is = EachLeaf-weaker IsTermInteger IsTermInteger (λ (a : ℕ). a < MOST_NAMES) (λ _. Unit {0}) (λ z h. h) (λ a h. tt) (plain term) is.leaves

operand_has : (o : Operand) → IsOperand o → EachOf HasImage (operand_constants o)
operand_has (Const (Tuple ts)) is = (constant_has (Tuple ts) is, tt)
operand_has (Const (ListOf ts)) is = (constant_has (ListOf ts) is, tt)
operand_has o is = tt

both_have : (a b : Operand) → IsOperand a → IsOperand b → EachOf HasImage (operand_constants a ++ operand_constants b)
both_have a b first second = EachOf-append HasImage (operand_constants a) (operand_constants b) (operand_has a first) (operand_has b second)

-- so have the constants of an instruction
pub instr_has : (fs : List Function) (len : ℕ) (i : Instr) → IsInstr fs len i → EachOf HasImage (instr_constants i)
instr_has fs len (Move from to) is = operand_has from is.0
instr_has fs len (Add a b to) is = both_have a b is.0 is.1
instr_has fs len (Sub a b to) is = both_have a b is.0 is.1
instr_has fs len (Eq a b target) is = both_have a b is.0 is.1
instr_has fs len (Less a b target) is = both_have a b is.0 is.1
instr_has fs len (Ret value) is = operand_has value is
instr_has fs len (PgetOr key other to) is = operand_has other is.1
instr_has fs len (Elem index from to) is = both_have index from is.0 is.1
instr_has fs len (Print value) is = operand_has value is
instr_has fs len i is = tt

code_has : (fs : List Function) (len : ℕ) (is : List Instr) → All (IsInstr fs len) is → EachOf HasImage (code_constants is)
code_has fs len [] all = tt
code_has fs len (i ∷ is) all =
    EachOf-append HasImage (instr_constants i) (code_constants is) (instr_has fs len i (All-head (IsInstr fs len) i is all)) (code_has fs len is (All-tail (IsInstr fs len) i is all))

functions_have : (gs fs : List Function) → All (IsFunction gs) fs → EachOf HasImage (constants_of fs)
functions_have gs [] all = tt
functions_have gs (f ∷ fs) all =
    EachOf-append HasImage (code_constants f.code) (constants_of fs) (code_has gs (length f.code) f.code (All-head (IsFunction gs) f fs all).code) (functions_have gs fs (All-tail (IsFunction gs) f fs all))

-- ---- and it stands there

-- the images of these constants stand in words from a place on, one behind another
abbrev pub ConstantsStand : List ℕ → ℕ → List PlainTerm → Type 0
ConstantsStand words place [] = Unit {0}
ConstantsStand words place (t ∷ ts) = IsImageAt words place t × ConstantsStand words (place + term_words t) ts

-- what is left behind an image
next_left : (words ws rest : List ℕ) (place len : ℕ) → drop place words ≡ ws ++ rest → length ws ≡ len → drop (place + len) words ≡ rest
next_left words ws rest place len e l = sym (drop-drop len place words) ∙ (λ j. drop (sym l j) (e j)) ∙ drop-append_seam ws rest

pub images_stand : (words rest : List ℕ) (place : ℕ) (ts : List PlainTerm) → drop place words ≡ constants_words ts ++ rest → EachOf HasImage ts → ConstantsStand words place ts
images_stand words rest place [] e each = tt
images_stand words rest place (t ∷ ts) e each =
    let whole : drop place words ≡ image_of t ++ (constants_words ts ++ rest) = e ∙ append_assoc (image_of t) (constants_words ts) rest in (
      record { rest = constants_words ts ++ rest; whole = whole; fits = each.0.fits; short = each.0.short },
      images_stand words rest (place + term_words t) ts (next_left words (image_of t) (constants_words ts ++ rest) place (term_words t) whole (length-image t)) each.1,
    )

-- those in front
pub stand_front : (words : List ℕ) (place : ℕ) (ts us : List PlainTerm) → ConstantsStand words place (ts ++ us) → ConstantsStand words place ts
stand_front words place [] us h = tt
stand_front words place (t ∷ ts) us h = (h.0, stand_front words (place + term_words t) ts us h.1)

-- and those behind
pub stand_behind : (words : List ℕ) (place : ℕ) (ts us : List PlainTerm) → ConstantsStand words place (ts ++ us) → ConstantsStand words (place + constants_len ts) us
stand_behind words place [] us h = let e : place ≡ place + 0 = omega arith in subst (λ p. ConstantsStand words p us) e h
stand_behind words place (t ∷ ts) us h =
    let e : place + term_words t + constants_len ts ≡ place + (term_words t + constants_len ts) = omega arith in
    subst (λ p. ConstantsStand words p us) e (stand_behind words (place + term_words t) ts us h.1)

-- the images of a module's constants stand behind its code
pub module_constants_stand : (m : Module) → IsModule m → ConstantsStand (module_image m) (constants_start m.functions) (constants_of m.functions)
module_constants_stand m is =
    let left : drop (constants_start m.functions) (module_image m) ≡ constants_words (constants_of m.functions) ++ [] =
    (λ j. drop (sym (front_words_len m) j) (front_and_constants m j)) ∙ drop-append_seam (front_words m) (constants_words (constants_of m.functions)) ∙ sym (append-nil (constants_words (constants_of m.functions))) in
    images_stand (module_image m) [] (constants_start m.functions) (constants_of m.functions) left (functions_have m.functions m.functions is.functions)

-- The image of a module is that of no other.
use Rattle.std.proofs.Common.{◌≡◌, ◌≢◌, ℕ, zero, suc, ◌+◌, ◌*◌, ◌/◌, ◌%◌, ◌<◌, ◌≤◌, List, [], ◌∷◌, ◌++◌, length, map, take, get_or, refl, sym, ap, ◌∙◌, subst, arith, Bool, true, false, cond, nat_eq, IsTrue, slice_index, add-one}
use Rattle.std.specs.List.{range_with_len, take-map}
use Rattle.std.proofs.lemmas.Bool.{eqb-true}
use Rattle.std.proofs.lemmas.List.{length-map, take_all, take_more, get_or-map}
use Rattle.term_core.specs.declared.term.Term.TheVariants.{Int, Atom, Tuple, List as ListOf}
use Rattle.term_core.specs.Image.{term_of_word}
use Rattle.term_core.specs.Plain.{term_of}
use Rattle.term_core.proofs.ImagePlaces.{IsImageAt-unique}
use Rattle.term_core.proofs.Words.{term_of_word-immediate_word}
use Rattle.mod_core.specs.declared.code.Operand.{Operand}
use Rattle.mod_core.specs.declared.code.Operand.TheVariants.{Reg, Const}
use Rattle.mod_core.specs.declared.code.Instr.{Instr}
use Rattle.mod_core.specs.declared.code.Instr.TheVariants.{Move, Add, Sub, Eq, Less, Ret, PgetOr, Elem, Print}
use Rattle.mod_core.specs.declared.code.Function.{Function}
use Rattle.mod_core.specs.declared.code.Module.{Module}
use Rattle.mod_core.specs.Module.{IsModule}
use Rattle.mod_core.specs.ModuleImage.{IsImageOfModule, code_constants, code_len, constants_len, constants_of, function_place, module_image, place_in, placed, placed_code, return_ok}
use Rattle.mod_core.specs.Decoding.{IsFunctionIn, IsWordOf, atom_from, has_first, has_second, instr_read_of, number_at, number_from}
use Rattle.mod_core.proofs.Heads.{first_function, function_told, module_told, next_is}
use Rattle.mod_core.proofs.Marks.{same_image}
use Rattle.mod_core.proofs.Lengths.{placed_code_constants, placed_code_len}
use Rattle.mod_core.proofs.ReadInstrs.{HasOperands}
use Rattle.mod_core.proofs.ReadOperands.{constant_word}
use Rattle.mod_core.proofs.ReadRows.{few_in, function_is, goes_on, left_at, told_at, told_place}
use Rattle.mod_core.proofs.Targets.{code_again}

-- ---- operands

-- a word with a register's tag is a register's
register_only : (words : List ℕ) (word : ℕ) (o : Operand) → word % 16 ≡ 6 → IsWordOf words word o → o ≡ Reg (word / 16)
register_only words word (Reg register) tag is = ap Reg (let e : register ≡ word / 16 = omega (arith, is.0) in e)
register_only words word (Const (Int z)) tag is = absurd (omega (arith, is.0))
register_only words word o tag is = absurd (omega (arith, is.0))

-- the word of an integer or an atom tells it
immediate_only : (words : List ℕ) (word : ℕ) (o : Operand) → word % 16 ≢ 5 → word % 16 ≢ 6 → IsWordOf words word o → o ≡ Const (term_of_word word)
immediate_only words word (Reg register) not_constant not_register is = absurd (not_register (omega (arith, is.0)))
immediate_only words word (Const (Int z)) not_constant not_register is = ap Const (sym (ap term_of_word is.0 ∙ term_of_word-immediate_word (Int z) is.1.leaves tt))
immediate_only words word (Const (Atom a)) not_constant not_register is = ap Const (sym (ap term_of_word is.0 ∙ term_of_word-immediate_word (Atom a) tt (omega (arith, is.1.leaves))))
immediate_only words word (Const (Tuple ts)) not_constant not_register is = absurd (not_constant is.0)
immediate_only words word (Const (ListOf ts)) not_constant not_register is = absurd (not_constant is.0)

constant_only : (words : List ℕ) (word : ℕ) (o p : Operand) → word % 16 ≡ 5 → IsWordOf words word o → IsWordOf words word p → o ≡ p
constant_only words word o p tag is other =
    let a = constant_word words word o tag is in
    let b = constant_word words word p tag other in
    sym a.operand_is ∙ ap (λ t. Const (term_of t)) (IsImageAt-unique words (word / 16) a.term b.term a.image b.image) ∙ b.operand_is

-- a word stands for one operand
pub operand_only : (words : List ℕ) (word : ℕ) (o p : Operand) → IsWordOf words word o → IsWordOf words word p → o ≡ p
operand_only words word (Reg register) p is other = let tag : word % 16 ≡ 6 = omega (arith, is.0) in register_only words word (Reg register) tag is ∙ sym (register_only words word p tag other)
operand_only words word (Const (Int z)) p is other =
    let tag : word % 16 ≡ 1 = omega (arith, is.0) in
    immediate_only words word (Const (Int z)) (λ e. omega arith) (λ e. omega arith) is ∙ sym (immediate_only words word p (λ e. omega arith) (λ e. omega arith) other)
operand_only words word (Const (Atom a)) p is other =
    let tag : word % 16 ≡ 2 = omega (arith, is.0) in
    immediate_only words word (Const (Atom a)) (λ e. omega arith) (λ e. omega arith) is ∙ sym (immediate_only words word p (λ e. omega arith) (λ e. omega arith) other)
operand_only words word (Const (Tuple ts)) p is other = constant_only words word (Const (Tuple ts)) p is.0 is other
operand_only words word (Const (ListOf ts)) p is other = constant_only words word (Const (ListOf ts)) p is.0 is other

-- ---- instructions

either : (t : Bool) (x y x' y' : Instr) → (t ≡ true → x ≡ x') → (t ≡ false → y ≡ y') → cond t x y ≡ cond t x' y'
either true x y x' y' then_same else_same = then_same refl
either false x y x' y' then_same else_same = else_same refl

module _ (n first second third : ℕ) (a b c d : Operand) (same_first : IsTrue (has_first n) → a ≡ c) (same_second : IsTrue (has_second n) → b ≡ d) where
  first_at : (k : ℕ) → IsTrue (has_first k) → nat_eq n k ≡ true → a ≡ c
  first_at k has e = same_first (subst (λ j. IsTrue (has_first j)) (sym (eqb-true n k e)) has)

  second_at : (k : ℕ) → IsTrue (has_second k) → nat_eq n k ≡ true → b ≡ d
  second_at k has e = same_second (subst (λ j. IsTrue (has_second j)) (sym (eqb-true n k e)) has)

  -- what an instruction has no operand for does not matter
  pub same_instr : instr_read_of n a b first second third ≡ instr_read_of n c d first second third
  same_instr =
      either (nat_eq n 1) _ _ _ _ (λ e. ap (λ o. Move o (number_from (second / 16))) (first_at 1 refl e)) (λ _.
      either (nat_eq n 2) _ _ _ _ (λ e. λ t. Add (first_at 2 refl e t) (second_at 2 refl e t) (number_from (third / 16))) (λ _.
      either (nat_eq n 3) _ _ _ _ (λ e. λ t. Sub (first_at 3 refl e t) (second_at 3 refl e t) (number_from (third / 16))) (λ _.
      either (nat_eq n 4) _ _ _ _ (λ e. λ t. Eq (first_at 4 refl e t) (second_at 4 refl e t) (number_from third)) (λ _.
      either (nat_eq n 5) _ _ _ _ (λ e. λ t. Less (first_at 5 refl e t) (second_at 5 refl e t) (number_from third)) (λ _.
      either (nat_eq n 6) _ _ _ _ (λ _. refl) (λ _.
      either (nat_eq n 7) _ _ _ _ (λ _. refl) (λ _.
      either (nat_eq n 8) _ _ _ _ (λ _. refl) (λ _.
      either (nat_eq n 9) _ _ _ _ (λ e. ap Ret (first_at 9 refl e)) (λ _.
      either (nat_eq n 10) _ _ _ _ (λ _. refl) (λ _.
      either (nat_eq n 11) _ _ _ _ (λ e. ap (λ o. PgetOr (atom_from first) o (number_from (third / 16))) (second_at 11 refl e)) (λ _.
      either (nat_eq n 12) _ _ _ _ (λ e. λ t. Elem (first_at 12 refl e t) (second_at 12 refl e t) (number_from (third / 16))) (λ _.
      either (nat_eq n 13) _ _ _ _ (λ e. ap Print (first_at 13 refl e)) (λ _. refl)))))))))))))

-- words tell one instruction
pub told_only : (words : List ℕ) (at : ℕ) (i j : Instr) → HasOperands words at i → HasOperands words at j → i ≡ j
told_only words at i j told other =
    sym told.is
    ∙ same_instr (slice_index words at) (slice_index words (at + 1)) (slice_index words (at + 2)) (slice_index words (at + 3)) told.a told.b other.a other.b
    (λ has. operand_only words (slice_index words (at + 1)) told.a other.a (told.are.first has) (other.are.first has))
    (λ has. operand_only words (slice_index words (at + 2)) told.b other.b (told.are.second has) (other.are.second has))
    ∙ other.is

-- ---- code

-- the first instructions with places have the words of those with numbers
placed_front_len : (start : ℕ) (is : List Instr) (k : ℕ) → code_len (take k (placed_code start is)) ≡ code_len (take k is)
placed_front_len start is k = ap code_len (take-map (placed (place_in start is)) k is) ∙ placed_code_len (place_in start is) (take k is)

placed_front_constants : (start : ℕ) (is : List Instr) (k : ℕ) → code_constants (take k (placed_code start is)) ≡ code_constants (take k is)
placed_front_constants start is k = ap code_constants (take-map (placed (place_in start is)) k is) ∙ placed_code_constants (place_in start is) (take k is)

-- the instruction with a number among those with places
placed_at : (start : ℕ) (is : List Instr) (k : ℕ) → k < length is → get_or (placed_code start is) k return_ok ≡ placed (place_in start is) (get_or is k return_ok)
placed_at start is k below = get_or-map (placed (place_in start is)) is k return_ok return_ok below

-- one more of those with places
placed_more : (start : ℕ) (is : List Instr) (k : ℕ) → k < length is → take (k + 1) (placed_code start is) ≡ take k (placed_code start is) ++ placed (place_in start is) (get_or is k return_ok) ∷ []
placed_more start is k below =
    let long : k < length (placed_code start is) = omega (arith, length-map is (placed (place_in start is))) in
    take_more (placed_code start is) k return_ok long ∙ ap (λ i. take k (placed_code start is) ++ i ∷ []) (placed_at start is k below)

-- as far as two functions with the same words were gone over, they are the same
pub record SameFront (f g : Function) (s t k : ℕ) : Type 0 where
  pub within : k ≤ length g.code
  pub front : take k (placed_code s f.code) ≡ take k (placed_code t g.code)

module _ (words : List ℕ) (m o : Module) (n : ℕ) (f g : Function) (h : IsFunctionIn words m n f) (i : IsFunctionIn words o n g) (before : take n m.functions ≡ take n o.functions) where
  start_same : function_place m n ≡ function_place o n
  start_same = sym (told_place words m n f h) ∙ told_place words o n g i

  place_same : (k : ℕ) → take k (placed_code (function_place m n) f.code) ≡ take k (placed_code (function_place o n) g.code) → place_in (function_place m n) f.code k ≡ place_in (function_place o n) g.code k
  place_same k front = omega (arith, start_same, placed_front_len (function_place m n) f.code k, placed_front_len (function_place o n) g.code k, ap code_len front)

  next_same : (k : ℕ) → k < length f.code → SameFront f g (function_place m n) (function_place o n) k → SameFront f g (function_place m n) (function_place o n) (k + 1)
  next_same k below same =
      let s : ℕ = function_place m n in
      let t : ℕ = function_place o n in
      let places = place_same k same.front in
      let left = left_at words m n f h k in
      let left_is : left.0 + (constants_len (constants_of (take n o.functions)) + constants_len (code_constants (take k g.code))) ≡ length (module_image o) =
      omega (arith, left.1, ap (λ fs. constants_len (constants_of fs)) before, ap length (sym h.image ∙ i.image), ap constants_len (placed_front_constants s f.code k), ap constants_len (placed_front_constants t g.code k), ap (λ is. constants_len (code_constants is)) same.front) in
      let ahead = (goes_on words m n f h k left.0 (omega arith) left.1).1 below in
      let below_too : k < length g.code = (goes_on words o n g i k left.0 same.within left_is).0 (omega (arith, ahead, places)) in
      let one = placed (place_in s f.code) (get_or f.code k return_ok) in
      let other = placed (place_in t g.code) (get_or g.code k return_ok) in
      let told : HasOperands words (place_in s f.code k) other = subst (λ p. HasOperands words p other) (sym places) (told_at words o n g i k below_too) in
      let instr_same : one ≡ other = told_only words (place_in s f.code k) one other (told_at words m n f h k below) told in
      record {
        within = omega (arith, below_too);
        front = placed_more s f.code k below ∙ (λ u. same.front u ++ instr_same u ∷ []) ∙ sym (placed_more t g.code k below_too);
      }

  pub front_same : (k : ℕ) → k ≤ length f.code → SameFront f g (function_place m n) (function_place o n) k
  front_same zero within = record { within = omega arith; front = refl }
  front_same (suc k) within = subst (SameFront f g (function_place m n) (function_place o n)) (add-one k) (next_same k (omega arith) (front_same k (omega arith)))

-- the code of two functions with the same words is the same
code_same : (words : List ℕ) (m o : Module) (n : ℕ) (f g : Function) → IsFunctionIn words m n f → IsFunctionIn words o n g → take n m.functions ≡ take n o.functions → f.code ≡ g.code
code_same words m o n f g h i before =
    let s : ℕ = function_place m n in
    let t : ℕ = function_place o n in
    let all = front_same words m o n f g h i before (length f.code) (omega arith) in
    let back = front_same words o m n g f i h (sym before) (length g.code) (omega arith) in
    let long : length f.code ≡ length g.code = omega (arith, all.within, back.within) in
    let whole : placed_code s f.code ≡ placed_code t g.code =
    sym (take_all (length f.code) (placed_code s f.code) (omega (arith, length-map f.code (placed (place_in s f.code))))) ∙ all.front ∙ take_all (length f.code) (placed_code t g.code) (omega (arith, long, length-map g.code (placed (place_in t g.code)))) in
    let places : (k : ℕ) → place_in s f.code k ≡ place_in t g.code k = λ k. place_same words m o n f g h i before k (ap (take k) whole) in
    let tables : map (place_in s f.code) (range_with_len 0 (length f.code + 1)) ≡ map (place_in t g.code) (range_with_len 0 (length g.code + 1)) = λ u. map (λ k. places k u) (range_with_len 0 (long u + 1)) in
    let table : List ℕ = map (place_in s f.code) (range_with_len 0 (length f.code + 1)) in
    sym (code_again m.functions s f.code table refl (few_in words m n f h) (function_is words m n f h).code)
    ∙ ap (map (placed (number_at table))) whole
    ∙ code_again o.functions t g.code table tables (few_in words o n g i) (function_is words o n g i).code

-- ---- modules

function_same : (words : List ℕ) (m o : Module) (n : ℕ) (f g : Function) → IsFunctionIn words m n f → IsFunctionIn words o n g → take n m.functions ≡ take n o.functions → f ≡ g
function_same words m o n f g h i before =
    let name : ℕ = number_from (slice_index words (4 + 4 * n)) in
    let second : ℕ = slice_index words (4 + 4 * n + 1) in
    let arity : ℕ = number_from (second / 2) in
    sym (function_told words m n f h name second refl refl arity refl f.code refl) ∙ function_told words o n g i name second refl refl arity refl f.code (code_same words m o n f g h i before)

-- two modules with the same image are one
module _ (words : List ℕ) (m o : Module) (is_module : IsModule m) (is_other : IsModule o) (image : words ≡ module_image m) (image_too : words ≡ module_image o) where
  counted : slice_index words 3 ≡ length m.functions
  counted = λ t. get_or (image t) 3 0

  counted_too : slice_index words 3 ≡ length o.functions
  counted_too = λ t. get_or (image_too t) 3 0

  next_function_same : (n : ℕ) → n < length m.functions → take n m.functions ≡ take n o.functions → take (n + 1) m.functions ≡ take (n + 1) o.functions
  next_function_same n below before =
      let f : Function = get_or m.functions n first_function in
      let g : Function = get_or o.functions n first_function in
      let one : f ≡ g = function_same words m o n f g (next_is words m is_module image n (omega (arith, counted))) (next_is words o is_other image_too n (omega (arith, counted))) before in
      take_more m.functions n first_function below ∙ (λ t. before t ++ one t ∷ []) ∙ sym (take_more o.functions n first_function (omega (arith, counted, counted_too)))

  functions_same : (n : ℕ) → n ≤ length m.functions → take n m.functions ≡ take n o.functions
  functions_same zero within = refl
  functions_same (suc n) within = subst (λ k. take k m.functions ≡ take k o.functions) (add-one n) (next_function_same n (omega arith) (functions_same n (omega arith)))

  pub modules_same : m ≡ o
  modules_same =
      let all : m.functions ≡ o.functions = sym (take_all (length m.functions) m.functions (omega arith)) ∙ functions_same (length m.functions) (omega arith) ∙ take_all (length m.functions) o.functions (omega (arith, counted, counted_too)) in
      let name : ℕ = number_from (slice_index words 1) in
      let version : ℕ = number_from (slice_index words 2) in
      sym (module_told words m is_module image name version m.functions refl refl refl) ∙ module_told words o is_other image_too name version m.functions refl refl all

-- words are the image of one module alone, whatever marks they carry
pub one_module : (words : List ℕ) (m o : Module) → IsModule m → IsModule o → IsImageOfModule m words → IsImageOfModule o words → m ≡ o
one_module words m o is_module is_other one other = modules_same (module_image m) m o is_module is_other refl (same_image words m o one other)

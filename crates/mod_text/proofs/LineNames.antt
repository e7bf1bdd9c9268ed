-- The atoms of a line, the names after them, and how many words the image of its module has.
use Rattle.std.proofs.Common.{◌≡◌, ℕ, ◌≤◌, Bool, true, false, cond, ◌&&◌, nat_lt, List, [], ◌∷◌, ◌++◌, length, Option, Some, None, is_some}
use Rattle.std.proofs.Common.{Result, Ok, Err, refl, sym, ap, ◌∙◌, subst, arith, length-append, ◌+◌, ◌*◌, All, not, nat_le, map, sum_by}
use Rattle.mod_text.proofs.Common.{list_all, and_parts, and_from, nat_tests, list_all-append, All-nil}
use Rattle.mod_text.proofs.Common.{All-cons, All-head, All-tail, All-weaker, sum_by-cons, Texts}
use Rattle.mod_text.proofs.Texts.{is_atom_text, names_with, number_of, names_with_all, is_number_text}
use Rattle.mod_text.proofs.Types.{LineFault}
use Rattle.mod_text.specs.ModuleLine.{OperandForm, constant, InstrForm, move, add, sub, eq, less, call, call_ext, ret, pget}
use Rattle.mod_text.specs.ModuleLine.{pget_or, elem, print, LineForm, title, header, instr, is_operand_form}
use Rattle.mod_text.specs.ModuleLine.{is_instr_form, is_line_form, is_arity_text, label, end}
use Rattle.mod_text.specs.declared.fault.LineFault.TheVariants as faults
use Rattle.mod_text.proofs.Forms.{operand_atoms, instr_atoms, line_atoms, is_in_function, ends_too_long, naming}
use Rattle.mod_text.proofs.Forms.{RowFrom, IsKept, operand_form_words, instr_form_words, line_words}
use Rattle.mod_text.proofs.Forms.{lines_words, Fails, Gives, FunctionForm, HeaderForm, body_of, functions_in}
use Rattle.mod_text.proofs.Forms.{headers_in, instrs_in, operand_in, instr_in, function_in, module_of}
use Rattle.mod_text.specs.LineFaults.{operands_atoms}
use Rattle.mod_text.proofs.LineReaders.{operands_form}
use Rattle.mod_text.proofs.Forms.{operands_of, each_operand}
use Rattle.mod_text.proofs.CanonicalParts.{IsSound, operand_constant_words}
use Rattle.mod_text.specs.ModuleLine.{is_term_form, is_row_form}
use Rattle.term_core.specs.PlainTerm.{TermOf, RowOf, integer_leaf, atom_leaf, tuple_of, list_of, no_terms, term_then, atoms_of, row_atoms}
use Rattle.mod_core.proofs.ImageWords.{image_len}
use Rattle.mod_core.specs.ModuleImage.{code_len, instr_len, function_len, operand_constants, instr_constants}
use Rattle.mod_core.specs.ModuleImage.{code_constants, constants_of, constants_len, module_image}
use Rattle.mod_core.proofs.Lengths.{constants_len-append}

-- ---- the atoms of a line are atom texts

-- each text is an atom's
abbrev pub are_atoms : Texts → Bool
are_atoms texts = list_all is_atom_text texts

pub both_atoms : (xs ys : Texts) → are_atoms xs ≡ true → are_atoms ys ≡ true → are_atoms (xs ++ ys) ≡ true
both_atoms xs ys h k = list_all-append _ xs ys ∙ and_from _ _ h k

one_atom : (text : List ℕ) → is_atom_text text ≡ true → are_atoms (text ∷ []) ≡ true
one_atom text h = and_from _ true h refl

mutual
  -- the atoms of a form are texts of atoms
  pub term_atoms_are : (t : TermOf (List ℕ) (List ℕ)) → is_term_form t ≡ true → are_atoms (atoms_of t) ≡ true
  term_atoms_are (integer_leaf text) h = refl
  term_atoms_are (atom_leaf text) h = one_atom text h
  term_atoms_are (tuple_of row) h = row_atoms_are row h
  term_atoms_are (list_of row) h = row_atoms_are row h

  row_atoms_are : (row : RowOf (List ℕ) (List ℕ)) → is_row_form row ≡ true → are_atoms (row_atoms row) ≡ true
  row_atoms_are no_terms h = refl
  row_atoms_are (term_then t row) h =
      let p = and_parts (is_term_form t) (is_row_form row) h in
      both_atoms (atoms_of t) (row_atoms row) (term_atoms_are t p.0) (row_atoms_are row p.1)

operand_atoms_are : (o : OperandForm) → is_operand_form o ≡ true → are_atoms (operand_atoms o) ≡ true
operand_atoms_are (constant term) h = term_atoms_are term h
operand_atoms_are o h = refl

operands_are : (os : List OperandForm) → each_operand is_operand_form os ≡ true → are_atoms (operands_atoms os) ≡ true
operands_are [] h = refl
operands_are (o ∷ []) h = operand_atoms_are o h
operands_are (o ∷ p ∷ os) h =
    let both = and_parts (is_operand_form o) (each_operand is_operand_form (p ∷ os)) h in
    both_atoms (operand_atoms o) (operands_atoms (p ∷ os)) (operand_atoms_are o both.0) (operands_are (p ∷ os) both.1)

instr_atoms_are : (i : InstrForm) → is_instr_form i ≡ true → are_atoms (instr_atoms i) ≡ true
instr_atoms_are (call name arity at) h = one_atom name (and_parts _ _ (and_parts _ _ h).0).0
instr_atoms_are (call_ext name function arity at) h =
    let first = and_parts _ _ h in
    let second = and_parts _ (is_number_text at) first.1 in
    both_atoms (name ∷ []) (function ∷ []) (one_atom name first.0) (one_atom function (and_parts _ (is_arity_text arity) second.0).0)
instr_atoms_are (pget key to) h = one_atom key (and_parts _ _ h).0
instr_atoms_are (pget_or key other to) h =
    both_atoms (key ∷ []) (operand_atoms other) (one_atom key (and_parts _ _ h).0) (operand_atoms_are other (operands_form (pget_or key other to) h))
instr_atoms_are i h = operands_are (operands_of i) (operands_form i h)

-- the atoms of a line are texts of atoms
pub line_atoms_are : (line : LineForm) → is_line_form line ≡ true → are_atoms (line_atoms line) ≡ true
line_atoms_are (title name version) h = one_atom name (and_parts _ _ h).0
line_atoms_are (header exported name arity) h = one_atom name (and_parts _ _ h).0
line_atoms_are (instr i) h = instr_atoms_are i h
line_atoms_are line h = refl

-- ---- names

pub names_with_all-append : (names xs ys : Texts) → names_with_all names (xs ++ ys) ≡ names_with_all (names_with_all names xs) ys
names_with_all-append names [] ys = refl
names_with_all-append names (x ∷ xs) ys = names_with_all-append (names_with names x) xs ys

-- a text more does not make them fewer
more_names : (names : Texts) (text : List ℕ) → length names ≤ length (names_with names text)
more_names names text = elim (number_of names text) as (λ (o : Option ℕ). length names ≤ length (cond (is_some o) names (names ++ text ∷ []))) [
  | None ↦ omega (arith, length-append names (text ∷ []))
  | Some n ↦ omega arith
]

pub more_names_all : (names texts : Texts) → length names ≤ length (names_with_all names texts)
more_names_all names [] = omega arith
more_names_all names (text ∷ texts) = omega (arith, more_names names text, more_names_all (names_with names text) texts)

-- ---- naming in two parts

naming_over : (names xs ys : Texts) → nat_lt 4096 (length (names_with_all names xs)) ≡ true → naming names (xs ++ ys) ≡ naming names xs
naming_over names xs ys over =
    let more = more_names_all (names_with_all names xs) ys in
    let whole = ap length (names_with_all-append names xs ys) in
    let all : nat_lt 4096 (length (names_with_all names (xs ++ ys))) ≡ true = grind (arith, nat_tests) in
    ap (λ t. cond {A = Result Texts LineFault} t (Err faults.Names) (Ok (names_with_all names (xs ++ ys)))) all
    ∙ sym (ap (λ t. cond {A = Result Texts LineFault} t (Err faults.Names) (Ok (names_with_all names xs))) over)

pub ok_fails : {A : Type 0} (x : A) (fault : LineFault) → Fails (Ok x) fault → fault ≡ faults.NoMemory
ok_fails x faults.NoMemory h = refl
ok_fails x fault h = absurd cc

module _ (names xs ys : Texts) (fault : LineFault) where
  first_fails_by : (t : Bool) → nat_lt 4096 (length (names_with_all names xs)) ≡ t → Fails (cond {A = Result Texts LineFault} t (Err faults.Names) (Ok (names_with_all names xs))) fault → Fails (naming names (xs ++ ys)) fault
  first_fails_by true over h =
      let is : naming names (xs ++ ys) ≡ Err faults.Names = naming_over names xs ys over ∙ ap (λ t. cond {A = Result Texts LineFault} t (Err faults.Names) (Ok (names_with_all names xs))) over in
      subst (λ (step : Result Texts LineFault). Fails step fault) (sym is) h
  first_fails_by false over h = subst (λ f. Fails (naming names (xs ++ ys)) f) (sym (ok_fails (names_with_all names xs) fault h)) tt

  -- where the first part is refused, so is the whole
  pub first_fails : Fails (naming names xs) fault → Fails (naming names (xs ++ ys)) fault
  first_fails h = first_fails_by _ refl h

named_is_by : (names after : Texts) (t : Bool) → cond {A = Result Texts LineFault} t (Err faults.Names) (Ok names) ≡ Ok after → names ≡ after
named_is_by names after true h = absurd cc
named_is_by names after false h = cc

-- the names after a part that was named
pub named_is : (names texts after : Texts) → naming names texts ≡ Ok after → names_with_all names texts ≡ after
named_is names texts after h = named_is_by _ after _ h

-- where the first part was named, the whole is as the second
pub second_goes_on : (names xs ys between : Texts) → naming names xs ≡ Ok between → naming names (xs ++ ys) ≡ naming between ys
second_goes_on names xs ys between h =
    let same = names_with_all-append names xs ys ∙ ap (λ ns. names_with_all ns ys) (named_is names xs between h) in
    ap (λ ns. cond {A = Result Texts LineFault} (nat_lt 4096 (length ns)) (Err faults.Names) (Ok ns)) same

-- what was answered of the second part is the answer for the whole
pub goes_on : {X : Type 0} (view : X → Texts) (r : Result X LineFault) (names between xs ys : Texts) → naming names xs ≡ Ok between → Gives view r (naming between ys) → Gives view r (naming names (xs ++ ys))
goes_on view r names between xs ys first h = subst (Gives view r) (sym (second_goes_on names xs ys _ first)) h

-- ---- one atom

-- ---- how many words the image of the module has that lines say

-- ---- one instruction

one_words : (names : Texts) (o : OperandForm) (rest : Bool) (own : ℕ) → (is_operand_form o && rest) ≡ true → own + constants_len (operand_constants (operand_in names o)) ≡ own + operand_form_words o
one_words names o rest own h = ap (λ n. own + n) (operand_constant_words names o (and_parts _ rest h).0)

two_words : (names : Texts) (a b : OperandForm) (rest : Bool) → (is_operand_form a && (is_operand_form b && rest)) ≡ true → 4 + constants_len (operand_constants (operand_in names a) ++ operand_constants (operand_in names b)) ≡ 4 + (operand_form_words a + operand_form_words b)
two_words names a b rest h =
    let first = and_parts (is_operand_form a) (is_operand_form b && rest) h in
    let whole = constants_len-append (operand_constants (operand_in names a)) (operand_constants (operand_in names b)) in
    omega (arith, operand_constant_words names a first.0, operand_constant_words names b (and_parts (is_operand_form b) rest first.1).0)

module _ (names : Texts) (headers : List HeaderForm) (body : List LineForm) where
  -- an instruction's own words, and those of its constants
  instr_len_in : (i : InstrForm) → is_instr_form i ≡ true → instr_len (instr_in names headers body i) + constants_len (instr_constants (instr_in names headers body i)) ≡ instr_form_words i
  instr_len_in (move from to) h = one_words names from _ 3 h
  instr_len_in (add a b to) h = two_words names a b _ h
  instr_len_in (sub a b to) h = two_words names a b _ h
  instr_len_in (eq a b target) h = two_words names a b _ h
  instr_len_in (less a b target) h = two_words names a b _ h
  instr_len_in (ret value) h = ap (λ n. 2 + n) (operand_constant_words names value h)
  instr_len_in (pget_or key other to) h = one_words names other _ 4 (and_parts _ _ h).1
  instr_len_in (elem index from to) h = two_words names index from _ h
  instr_len_in (print value) h = ap (λ n. 2 + n) (operand_constant_words names value h)
  instr_len_in i h = refl

-- ---- code

-- an instruction whose parts are of their forms
abbrev pub IsSoundInstr : InstrForm → Type 0
IsSoundInstr i = is_instr_form i ≡ true

pub instrs_sound : (lines : List LineForm) → All IsSound lines → All IsSoundInstr (instrs_in lines)
instrs_sound [] h = All-nil IsSoundInstr
instrs_sound (instr i ∷ lines) h = All-cons IsSoundInstr i _ (All-head IsSound _ lines h) (instrs_sound lines (All-tail IsSound _ lines h))
instrs_sound (line ∷ lines) h = instrs_sound lines (All-tail IsSound line lines h)

body_sound : (lines : List LineForm) → All IsSound lines → All IsSound (body_of lines)
body_sound (label name ∷ lines) h = All-cons IsSound _ _ (All-head IsSound _ lines h) (body_sound lines (All-tail IsSound _ lines h))
body_sound (instr i ∷ lines) h = All-cons IsSound _ _ (All-head IsSound _ lines h) (body_sound lines (All-tail IsSound _ lines h))
body_sound lines h = All-nil IsSound

-- a function each of whose lines is of its form
abbrev pub IsSoundFunction : FunctionForm → Type 0
IsSoundFunction f = All IsSound f.body

pub functions_sound : (lines : List LineForm) → All IsSound lines → All IsSoundFunction (functions_in lines)
functions_sound [] h = All-nil IsSoundFunction
functions_sound (header exported name arity ∷ lines) h =
    let rest = All-tail IsSound _ lines h in
    All-cons IsSoundFunction _ _ (body_sound lines rest) (functions_sound lines rest)
functions_sound (line ∷ lines) h = functions_sound lines (All-tail IsSound line lines h)

-- the words of a function's own lines
own_words : FunctionForm → ℕ
own_words f = 6 + sum_by instr_form_words (instrs_in f.body)

module _ (names : Texts) (headers : List HeaderForm) where
  code_len_in : (body : List LineForm) (is : List InstrForm) → All IsSoundInstr is → code_len (map (instr_in names headers body) is) + constants_len (code_constants (map (instr_in names headers body) is)) ≡ sum_by instr_form_words is
  code_len_in body [] h = refl
  code_len_in body (i ∷ is) h =
      let more = constants_len-append (instr_constants (instr_in names headers body i)) (code_constants (map (instr_in names headers body) is)) in
      let first = instr_len_in names headers body i (All-head IsSoundInstr i is h) in
      omega (arith, code_len_in body is (All-tail IsSoundInstr i is h), sum_by-cons instr_form_words i is)

  functions_len : (fs : List FunctionForm) → All IsSoundFunction fs → 4 * length (map (function_in names headers) fs) + (sum_by function_len (map (function_in names headers) fs) + constants_len (constants_of (map (function_in names headers) fs))) ≡ sum_by own_words fs
  unfolding own_words
  functions_len [] h = refl
  functions_len (f ∷ fs) h =
      let rest = map (function_in names headers) fs in
      let first = sum_by-cons function_len (function_in names headers f) rest in
      let code = code_len_in f.body (instrs_in f.body) (instrs_sound f.body (All-head IsSoundFunction f fs h)) in
      let more = constants_len-append (code_constants (function_in names headers f).code) (constants_of rest) in
      omega (arith, functions_len fs (All-tail IsSoundFunction f fs h), sum_by-cons own_words f fs)

-- the words of the lines at the front that are a function's
front_words : Bool → List LineForm → ℕ
front_words is_in lines = cond is_in (sum_by instr_form_words (instrs_in (body_of lines))) 0

open_or_not : (before : Option LineForm) (line : LineForm) (t : Bool) → t ≡ true → (n : ℕ) → cond t n 0 ≡ n
open_or_not before line true e n = refl
open_or_not before line false e n = absurd cc

no_words : (t : Bool) → ◌≡◌ {A = ℕ} (cond t 0 0) 0
no_words true = refl
no_words false = refl

-- lines in a row have the words of the function that is open before them, and of the functions behind
words_of_row : (before : Option LineForm) (lines : List LineForm) → RowFrom before lines → sum_by line_words lines ≡ front_words (is_in_function before) lines + sum_by own_words (functions_in lines)
unfolding front_words own_words
words_of_row before [] row = elim (is_in_function before) as (λ t. ◌≡◌ {A = ℕ} 0 (cond t 0 0 + 0)) [ true ↦ refl | false ↦ refl ]
words_of_row None (title name version ∷ lines) row = sum_by-cons line_words (title name version) lines ∙ omega (arith, words_of_row (Some (title name version)) lines row.1)
words_of_row (Some before) (title name version ∷ lines) row = absurd (let no = row.0 in cc)
words_of_row before (header exported name arity ∷ lines) row =
    let first = sum_by-cons line_words (header exported name arity) lines in
    let rest = words_of_row (Some (header exported name arity)) lines row.1 in
    let own = sum_by-cons own_words (record { exported = exported; name = name; arity = arity; body = body_of lines }) (functions_in lines) in
    omega (arith, first, rest, own, no_words (is_in_function before))
words_of_row before (label name ∷ lines) row =
    let first = sum_by-cons line_words (label name) lines in
    let rest = words_of_row (Some (label name)) lines row.1 in
    omega (arith, first, rest, open_or_not before (label name) (is_in_function before) row.0 (sum_by instr_form_words (instrs_in (body_of lines))))
words_of_row before (instr i ∷ lines) row =
    let first = sum_by-cons line_words (instr i) lines in
    let rest = words_of_row (Some (instr i)) lines row.1 in
    let more = sum_by-cons instr_form_words i (instrs_in (body_of lines)) in
    omega (arith, first, rest, more, open_or_not before (instr i) (is_in_function before) row.0 (sum_by instr_form_words (i ∷ instrs_in (body_of lines))))
words_of_row before (end ∷ lines) row =
    let first = sum_by-cons line_words end lines in
    let rest = words_of_row (Some end) lines row.1 in
    omega (arith, first, rest, no_words (is_in_function before))

-- lines in a row from the title on have the words of the functions
row_words : (lines : List LineForm) → RowFrom None lines → sum_by own_words (functions_in lines) ≡ sum_by line_words lines
unfolding front_words
row_words lines row = omega (arith, words_of_row None lines row)

-- the image of the module that lines in a row say
pub image_words : (names : Texts) (lines : List LineForm) → RowFrom None lines → All IsSound lines → length (module_image (module_of names lines)) ≡ lines_words lines
image_words names lines row sound =
    image_len (module_of names lines) ∙ ap (λ n. 4 + n) (functions_len names _ _ (functions_sound lines sound) ∙ row_words lines row)

functions_in-end : (lines : List LineForm) → functions_in (lines ++ end ∷ []) ≡ functions_in lines
functions_in-end [] = refl
functions_in-end (header exported name arity ∷ lines) = λ i. record { exported = exported; name = name; arity = arity; body = body_of-end lines i } ∷ functions_in-end lines i
  where
    body_of-end : (ls : List LineForm) → body_of (ls ++ end ∷ []) ≡ body_of ls
    body_of-end [] = refl
    body_of-end (label n ∷ ls) = ap (λ l. label n ∷ l) (body_of-end ls)
    body_of-end (instr i ∷ ls) = ap (λ l. instr i ∷ l) (body_of-end ls)
    body_of-end (line ∷ ls) = refl
functions_in-end (line ∷ lines) = functions_in-end lines

module _ (names : Texts) (lines : List LineForm) (row : RowFrom None lines) (sound : All IsSound lines) where
  -- the end adds no words
  pub image_words-end : length (module_image (module_of names (lines ++ end ∷ []))) ≡ lines_words lines
  image_words-end =
      image_len (module_of names (lines ++ end ∷ []))
      ∙ ap (λ fs. 4 + (4 * length (map (function_in names (headers_in (lines ++ end ∷ []))) fs) + (sum_by function_len (map (function_in names (headers_in (lines ++ end ∷ []))) fs) + constants_len (constants_of (map (function_in names (headers_in (lines ++ end ∷ []))) fs))))) (functions_in-end lines)
      ∙ ap (λ n. 4 + n) (functions_len names (headers_in (lines ++ end ∷ [])) _ (functions_sound lines sound) ∙ row_words lines row)

  -- the test at the end
  pub too_long_is : ends_too_long names lines end ≡ not (nat_le (lines_words lines) 1024)
  too_long_is = ap (nat_lt 1024) image_words-end ∙ tests _
    where
      tests : (n : ℕ) → nat_lt 1024 n ≡ not (nat_le n 1024)
      tests n = grind (arith, nat_tests)

-- lines that were kept are of their forms
pub kept_sound : (lines : List LineForm) → All IsKept lines → All IsSound lines
kept_sound lines kept = All-weaker IsKept IsSound (λ line is. is.sound) lines kept

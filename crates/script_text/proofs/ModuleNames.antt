-- The module of lines whose atoms are held stays the same as the table of names grows.
use Rattle.script_text.proofs.Common.{◌≡◌, ℕ, List, [], ◌∷◌, ◌++◌, refl, ap, map, AllByRecursion, Texts}
use Rattle.script_text.proofs.Types.{AtomId}
use Rattle.script_text.proofs.Texts.{term_of, number_value, HasNumber}
use Rattle.mod_core.specs.declared.code.Operand.TheVariants.{Const}
use Rattle.mod_core.specs.declared.code.Instr.TheVariants.{Move, Add, Sub, Eq, Less, CallExt, Ret, Pget, PgetOr, Elem, Print}
use Rattle.script_text.proofs.Modules.{OperandForm, register, constant, InstrForm, move, add, sub, eq, less, call_ext, ret, pget, pget_or, elem}
use Rattle.script_text.proofs.Modules.{print, LineForm, title, header, label, instr, operand_atoms, instr_atoms, line_atoms, body_of, functions_in}
use Rattle.script_text.proofs.Modules.{HeaderForm, instrs_in, atom_in, operand_in, target_in, instr_in, function_in, title_of, IsTitled}
use Rattle.script_text.proofs.Modules.{module_of}
use Rattle.script_text.proofs.HeldNames.{number_in-more}
use Rattle.script_text.proofs.TermLines.{term_after}

-- each text is held
abbrev pub AreHeld : Texts → Texts → Type 0
AreHeld names texts = AllByRecursion (HasNumber names) texts

-- each atom of the lines is
abbrev pub HaveHeld : Texts → List LineForm → Type 0
HaveHeld names lines = AllByRecursion (λ line. AreHeld names (line_atoms line)) lines

module _ (names : Texts) where
  same_atom : (more : Texts) (text : List ℕ) → HasNumber names text → atom_in (names ++ more) text ≡ atom_in names text
  same_atom more text h = ap (λ (n : ℕ). let a : AtomId = record { 0 = n } in a) (number_in-more names more text h)

  pub held_first : (xs ys : Texts) → AreHeld names (xs ++ ys) → AreHeld names xs
  held_first [] ys h = tt
  held_first (x ∷ xs) ys h = (h.0, held_first xs ys h.1)

  pub held_second : (xs ys : Texts) → AreHeld names (xs ++ ys) → AreHeld names ys
  held_second [] ys h = h
  held_second (x ∷ xs) ys h = held_second xs ys h.1

  same_operand : (more : Texts) (o : OperandForm) → AreHeld names (operand_atoms o) → operand_in (names ++ more) o ≡ operand_in names o
  same_operand more (register digits) h = refl
  same_operand more (constant term) h = λ i. Const (term_of (term_after names _ term (record { more = more; whole = refl }) h i))

  two_same : (more : Texts) (a b : OperandForm) → AreHeld names (operand_atoms a ++ operand_atoms b) → (operand_in (names ++ more) a ≡ operand_in names a) × (operand_in (names ++ more) b ≡ operand_in names b)
  two_same more a b h =
      (same_operand more a (held_first (operand_atoms a) (operand_atoms b) h), same_operand more b (held_second (operand_atoms a) (operand_atoms b) h))

module _ (names more : Texts) (headers : List HeaderForm) (body : List LineForm) where
  same_instr : (i : InstrForm) → AreHeld names (instr_atoms i) → instr_in (names ++ more) headers body i ≡ instr_in names headers body i
  same_instr (move from to) h = λ k. Move (same_operand names more from h k) (number_value to)
  same_instr (add a b to) h = let both = two_same names more a b h in λ k. Add (both.0 k) (both.1 k) (number_value to)
  same_instr (sub a b to) h = let both = two_same names more a b h in λ k. Sub (both.0 k) (both.1 k) (number_value to)
  same_instr (eq a b target) h = let both = two_same names more a b h in λ k. Eq (both.0 k) (both.1 k) (target_in body target)
  same_instr (less a b target) h = let both = two_same names more a b h in λ k. Less (both.0 k) (both.1 k) (target_in body target)
  same_instr (call_ext m name arity at) h =
      let p = same_atom names more m h.0 in
      λ k. CallExt (record { «module» = p k; name = (same_atom names more name h.1.0) k; arity = number_value arity }) (number_value at)
  same_instr (ret value) h = λ k. Ret (same_operand names more value h k)
  same_instr (pget key to) h = λ k. Pget (same_atom names more key h.0 k) (number_value to)
  same_instr (pget_or key other to) h = λ k. PgetOr ((same_atom names more key h.0) k) ((same_operand names more other h.1) k) (number_value to)
  same_instr (elem index from to) h = let both = two_same names more index from h in λ k. Elem (both.0 k) (both.1 k) (number_value to)
  same_instr (print value) h = λ k. Print (same_operand names more value h k)
  same_instr i h = refl

  same_code : (lines : List LineForm) → HaveHeld names lines → map (instr_in (names ++ more) headers body) (instrs_in lines) ≡ map (instr_in names headers body) (instrs_in lines)
  same_code [] h = refl
  same_code (instr i ∷ lines) h = λ k. (same_instr i h.0) k ∷ (same_code lines h.1) k
  same_code (line ∷ lines) h = same_code lines h.1

pub held_body : (names : Texts) (lines : List LineForm) → HaveHeld names lines → HaveHeld names (body_of lines)
held_body names (label name ∷ lines) h = (h.0, held_body names lines h.1)
held_body names (instr i ∷ lines) h = (h.0, held_body names lines h.1)
held_body names lines h = tt

module _ (names more : Texts) where
  same_functions : (headers : List HeaderForm) (lines : List LineForm) → HaveHeld names lines → map (function_in (names ++ more) headers) (functions_in lines) ≡ map (function_in names headers) (functions_in lines)
  same_functions headers [] h = refl
  same_functions headers (header exported name arity ∷ lines) h =
      let n = same_atom names more name h.0.0 in
      let c = same_code names more headers (body_of lines) _ (held_body names lines h.1) in
      λ k. record { name = n k; arity = number_value arity; exported = exported; code = c k } ∷ (same_functions headers lines h.1) k
  same_functions headers (line ∷ lines) h = same_functions _ lines h.1

  same_title : (lines : List LineForm) → IsTitled lines → HaveHeld names lines → atom_in (names ++ more) (title_of lines).0 ≡ atom_in names (title_of lines).0
  same_title (title name version ∷ lines) t h = same_atom names more name h.0.0
  same_title lines t h = absurd t

  pub module_of-more : (lines : List LineForm) → IsTitled lines → HaveHeld names lines → module_of (names ++ more) lines ≡ module_of names lines
  module_of-more lines t h =
      let n = same_title lines t h in
      let fs = same_functions _ lines h in
      λ k. record { name = n k; version = number_value (title_of lines).1; functions = fs k }

-- An instruction of a module text is written as one that names the same.
use Rattle.std.proofs.Common.{◌≡◌, ℕ, ◌+◌, Bool, true, false, cond, ◌&&◌, ◌||◌, List, [], ◌∷◌, ◌++◌, map, Option, Some}
use Rattle.std.proofs.Common.{None, is_some, option_map, unwrap_or, slice_get, refl, sym, ap, ◌∙◌, add-one}
use Rattle.script_text.proofs.Common.{and_parts, or_parts, slice_get-map, Texts}
use Rattle.script_text.proofs.Texts.{atom_text, number_in, position-cons, plain-term_of, PlainTerm, WrittenTerm, atoms_of}
use Rattle.script_text.proofs.Texts.{number_value, map_some, some_is, bytes_are, HasNumber}
use Rattle.mod_core.specs.declared.code.Function.{Function}
use Rattle.script_text.proofs.Modules.{written_operand, written_call, written_instr, operand_atoms, instr_atoms, is_wide_operand, has_wide_instr}
use Rattle.script_text.proofs.Modules.{FunctionForm, HeaderForm, is_header, function_number, callee_in, operand_in, instr_in, function_in}
use Rattle.script_text.proofs.Modules.{is_settled, head_of}
use Rattle.mod_text.specs.ModuleLine.{OperandForm, register, constant, InstrForm, move, add, sub, eq, less, jump, call, call_ext, ret, pget, pget_or}
use Rattle.mod_text.specs.ModuleLine.{elem, print, yield, LineForm, is_arity_text, is_operand_form, is_instr_form}
use Rattle.script_text.proofs.ModuleNames.{AreHeld, held_first, held_second}
use Rattle.script_text.proofs.TermLines.{narrow_fits, term_again, atom_again, arity_again}
use Rattle.script_text.proofs.Forms.{term_form, argument_in}
use Rattle.script_text.proofs.FunctionNames.{instr_functions}

-- ---- a function that is called

-- the function at a place has this name
record HasName (forms : List FunctionForm) (k : ℕ) (name : List ℕ) : Type 0 where
  form : FunctionForm
  at : slice_get forms k ≡ Some form
  name_is : form.name ≡ name

named_by : (forms : List FunctionForm) (form : FunctionForm) (name arity : List ℕ) (k : ℕ) (t : Bool) → is_header name arity (head_of form) ≡ t → cond t (Some 0) (option_map (λ i. i + 1) (function_number name arity (map head_of forms))) ≡ Some k → ((j : ℕ) → function_number name arity (map head_of forms) ≡ Some j → HasName forms j name) → HasName (form ∷ forms) k name
named_by forms form name arity k true same is more =
    record {
      form = form;
      at = ap (slice_get (form ∷ forms)) (sym (some_is 0 k is));
      name_is = bytes_are _ name (and_parts _ _ same).0;
    }
named_by forms form name arity k false same is more =
    let later = map_some (λ i. i + 1) _ k is in
    let found = more later.0 later.1 in
    record { form = found.form; at = ap (slice_get (form ∷ forms)) (sym later.2 ∙ add-one later.0) ∙ found.at; name_is = found.name_is }

named_at : (forms : List FunctionForm) (name arity : List ℕ) (k : ℕ) → function_number name arity (map head_of forms) ≡ Some k → HasName forms k name
named_at [] name arity k is = absurd cc
named_at (form ∷ forms) name arity k is =
    named_by forms form name arity k _ refl (sym (position-cons (is_header name arity) (head_of form) (map head_of forms)) ∙ is) (named_at forms name arity)

-- ---- instructions

-- two instructions name the same
pub record IsInstrLike (x y : InstrForm) : Type 0 where
  pub atoms : instr_atoms x ≡ instr_atoms y
  pub functions : instr_functions x ≡ instr_functions y

-- what an instruction has that stands in a module's text
pub record IsGoodInstr (names : Texts) (hs : List HeaderForm) (body : List LineForm) (i : InstrForm) : Type 0 where
  pub sound : is_instr_form i ≡ true
  pub narrow : has_wide_instr i ≡ false
  pub held : AreHeld names (instr_atoms i)
  pub settled : is_settled hs body i ≡ true

-- the same of an operand
record IsGoodOperand (names : Texts) (o : OperandForm) : Type 0 where
  sound : is_operand_form o ≡ true
  narrow : is_wide_operand o ≡ false
  held : AreHeld names (operand_atoms o)

module _ (names : Texts) where
  called_by : (hs : List HeaderForm) (forms : List FunctionForm) (name arity : List ℕ) (at : ℕ) (o : Option ℕ) → function_number name arity (map head_of forms) ≡ o → is_some o ≡ true → HasNumber names name → instr_atoms (written_call names (slice_get (map (function_in names hs) forms) (unwrap_or o 0)) at) ≡ name ∷ []
  called_by hs forms name arity at None is some held = absurd cc
  called_by hs forms name arity at (Some k) is some held =
      let found = named_at forms name arity k is in
      ap (λ (f : Option Function). instr_atoms (written_call names f at)) (slice_get-map _ forms k ∙ ap (option_map (function_in names hs)) found.at)
      ∙ ap (λ (n : List ℕ). atom_text names (number_in names n) ∷ []) found.name_is ∙ ap (λ (t : List ℕ). t ∷ []) (atom_again names name held)

  no_functions : (o : Option Function) (at : ℕ) → instr_functions (written_call names o at) ≡ []
  no_functions None at = refl
  no_functions (Some f) at = refl

  operand_again : (o : OperandForm) → IsGoodOperand names o → operand_atoms (written_operand names (operand_in names o)) ≡ operand_atoms o
  operand_again (register digits) g = refl
  operand_again (constant term) g =
      ap (λ (t : PlainTerm). atoms_of (term_form names t)) (plain-term_of (argument_in names term)) ∙ ap (λ (t : WrittenTerm). atoms_of t) (term_again names term g.sound (narrow_fits term g.narrow) g.held)

  two_good : (a b : OperandForm) (rest : Bool) → (is_operand_form a && (is_operand_form b && rest)) ≡ true → (is_wide_operand a || is_wide_operand b) ≡ false → AreHeld names (operand_atoms a ++ operand_atoms b) → IsGoodOperand names a × IsGoodOperand names b
  two_good a b rest sound narrow held =
      let first = and_parts _ _ sound in
      let n = or_parts _ _ narrow in (
        record { sound = first.0; narrow = n.0; held = held_first names _ _ held },
        record { sound = (and_parts _ rest first.1).0; narrow = n.1; held = held_second names _ _ held },
      )

  two_again : (a b : OperandForm) → IsGoodOperand names a × IsGoodOperand names b → operand_atoms (written_operand names (operand_in names a)) ++ operand_atoms (written_operand names (operand_in names b)) ≡ operand_atoms a ++ operand_atoms b
  two_again a b g = λ k. (operand_again a g.0) k ++ (operand_again b g.1) k

external_arity : (name function arity at : List ℕ) → is_instr_form (call_ext name function arity at) ≡ true → is_arity_text arity ≡ true
external_arity name function arity at h = (and_parts _ _ (and_parts _ _ (and_parts _ _ h).1).0).1

module _ (names : Texts) (hs : List HeaderForm) (forms : List FunctionForm) (body : List LineForm) where
  -- an instruction is written as one that names the same
  pub instr_like : (i : InstrForm) → hs ≡ map head_of forms → IsGoodInstr names hs body i → IsInstrLike (written_instr names (map (function_in names hs) forms) (instr_in names hs body i)) i
  instr_like (move from to) are g = record { atoms = operand_again names from (record { sound = (and_parts _ _ g.sound).0; narrow = g.narrow; held = g.held }); functions = refl }
  instr_like (add a b to) are g = record { atoms = two_again names a b (two_good names a b _ g.sound g.narrow g.held); functions = refl }
  instr_like (sub a b to) are g = record { atoms = two_again names a b (two_good names a b _ g.sound g.narrow g.held); functions = refl }
  instr_like (eq a b target) are g = record { atoms = two_again names a b (two_good names a b _ g.sound g.narrow g.held); functions = refl }
  instr_like (less a b target) are g = record { atoms = two_again names a b (two_good names a b _ g.sound g.narrow g.held); functions = refl }
  instr_like (jump target) are g = record { atoms = refl; functions = refl }
  instr_like (call name arity at) are g = record {
    atoms = called_by names hs forms name arity (number_value at) (function_number name arity hs) (ap (function_number name arity) (sym are)) g.settled g.held.0;
    functions = no_functions names (slice_get (map (function_in names hs) forms) (callee_in hs name arity)) (number_value at);
  }
  instr_like (call_ext m function arity at) are g =
      let p = atom_again names m g.held.0 in
      let q = atom_again names _ g.held.1.0 in
      let n = ap number_value (arity_again arity (external_arity m function arity at g.sound)) in
      record { atoms = λ k. p k ∷ q k ∷ []; functions = λ k. record { «module» = p k; name = q k; arity = n k } ∷ [] }
  instr_like (ret value) are g = record { atoms = operand_again names value (record { sound = g.sound; narrow = g.narrow; held = g.held }); functions = refl }
  instr_like (pget key to) are g = record { atoms = ap (λ (t : List ℕ). t ∷ []) (atom_again names key g.held.0); functions = refl }
  instr_like (pget_or key other to) are g =
      let p = atom_again names key g.held.0 in
      let sound = and_parts _ _ (and_parts _ _ g.sound).1 in
      record { atoms = λ k. p k ∷ (operand_again names other (record { sound = sound.0; narrow = g.narrow; held = g.held.1 })) k; functions = refl }
  instr_like (elem index from to) are g = record { atoms = two_again names index from (two_good names index from _ g.sound g.narrow g.held); functions = refl }
  instr_like (print value) are g = record { atoms = operand_again names value (record { sound = g.sound; narrow = g.narrow; held = g.held }); functions = refl }
  instr_like yield are g = record { atoms = refl; functions = refl }

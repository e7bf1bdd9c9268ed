-- The atoms of the module that lines say are held by the names it was read with.
use Rattle.mod_text.proofs.Common.{◌≡◌, ℕ, ◌<◌, Bool, true, ◌&&◌, List, [], ◌∷◌, ◌++◌, length, map, Option}
use Rattle.mod_text.proofs.Common.{Some, None, unwrap_or, refl, ap, subst, sym, arith, All, IfOk, Texts}
use Rattle.mod_text.proofs.Common.{slice_get_within, length-take, and_parts, All-nil, All-cons, All-head, All-tail}
use Rattle.std.specs.Prelude.{Result}
use Rattle.mod_text.proofs.Texts.{IsNames, is_atom_text, number_of, given_names, number_in, slice_get-number_of, is_number_text}
use Rattle.mod_text.proofs.Types.{Module, ModFault}
use Rattle.mod_core.specs.HeldNames.{IsOperandAmong, HasAtomsAmong, IsFunctionHeld, IsModuleHeld}
use Rattle.mod_text.proofs.Forms.{Ends, read, OperandForm, constant, InstrForm, move, add, sub, eq, less}
use Rattle.mod_text.proofs.Forms.{call_ext, ret, pget, pget_or, elem, print, LineForm, is_operand_form}
use Rattle.mod_text.proofs.Forms.{is_instr_form, FunctionForm, HeaderForm, instrs_in}
use Rattle.mod_text.proofs.Forms.{operand_in, instr_in, function_in, module_of, names_after, FollowOn}
use Rattle.mod_text.proofs.CanonicalParts.{IsSound, constant_held}
use Rattle.mod_text.proofs.LineNames.{IsSoundInstr, IsSoundFunction, instrs_sound, functions_sound}
use Rattle.mod_text.proofs.TextLaws.{bytes_are_read}

-- a table of names is not empty
pub some_names : (names : Texts) → IsNames names → 0 < length names
some_names names sound = omega (arith, ap length sound.given, length-take (length given_names) names)

module _ (names : Texts) (some : 0 < length names) where
  number_by : (text : List ℕ) (o : Option ℕ) → number_of names text ≡ o → unwrap_or o 0 < length names
  number_by text None is = some
  number_by text (Some n) is = slice_get_within names n text (slice_get-number_of names text n is)

  -- each number is that of a name
  number_held : (text : List ℕ) → number_in names text < length names
  number_held text = number_by text _ refl

  operand_held : (o : OperandForm) → is_operand_form o ≡ true → IsOperandAmong (length names) (operand_in names o)
  operand_held (constant form) h = constant_held names form h _ number_held
  operand_held o h = tt

  two_held : (a b : OperandForm) (rest : Bool) → (is_operand_form a && (is_operand_form b && rest)) ≡ true → IsOperandAmong (length names) (operand_in names a) × IsOperandAmong (length names) (operand_in names b)
  two_held a b rest h =
      let first = and_parts (is_operand_form a) (is_operand_form b && rest) h in
      (operand_held a first.0, operand_held b (and_parts (is_operand_form b) rest first.1).0)

  instr_held : (headers : List HeaderForm) (body : List LineForm) (i : InstrForm) → is_instr_form i ≡ true → HasAtomsAmong (length names) (instr_in names headers body i)
  instr_held headers body (move from to) h = operand_held from (and_parts (is_operand_form from) (is_number_text to) h).0
  instr_held headers body (add a b to) h = two_held a b _ h
  instr_held headers body (sub a b to) h = two_held a b _ h
  instr_held headers body (eq a b target) h = two_held a b _ h
  instr_held headers body (less a b target) h = two_held a b _ h
  instr_held headers body (call_ext name function arity at) h = (number_held name, number_held _)
  instr_held headers body (ret value) h = operand_held value h
  instr_held headers body (pget key to) h = number_held key
  instr_held headers body (pget_or key other to) h = (number_held key, operand_held other (and_parts (is_operand_form other) (is_number_text to) (and_parts (is_atom_text key) (is_operand_form other && is_number_text to) h).1).0)
  instr_held headers body (elem index from to) h = two_held index from _ h
  instr_held headers body (print value) h = operand_held value h
  instr_held headers body i h = tt

  code_held : (headers : List HeaderForm) (body : List LineForm) (is : List InstrForm) → All IsSoundInstr is → All (HasAtomsAmong (length names)) (map (instr_in names headers body) is)
  code_held headers body [] h = All-nil _
  code_held headers body (i ∷ is) h =
      All-cons (HasAtomsAmong (length names)) (instr_in names headers body i) (map (instr_in names headers body) is)
      (instr_held headers body i (All-head IsSoundInstr i is h)) (code_held headers body is (All-tail IsSoundInstr i is h))

  functions_held : (headers : List HeaderForm) (fs : List FunctionForm) → All IsSoundFunction fs → All (IsFunctionHeld (length names)) (map (function_in names headers) fs)
  functions_held headers [] h = All-nil _
  functions_held headers (f ∷ fs) h =
      All-cons (IsFunctionHeld (length names)) (function_in names headers f) (map (function_in names headers) fs)
      (record { name = number_held f.name; code = code_held headers f.body (instrs_in f.body) (instrs_sound f.body (All-head IsSoundFunction f fs h)) })
      (functions_held headers fs (All-tail IsSoundFunction f fs h))

  -- the atoms of the module that lines say
  pub module_held : (lines : List LineForm) → All IsSound lines → IsModuleHeld names (module_of names lines)
  module_held lines sound = record { name = number_held _; functions = functions_held _ _ (functions_sound lines sound) }

-- lines that follow on are of their forms
pub sound_lines : (names : Texts) (before lines : List LineForm) → FollowOn names before lines → All IsSound lines
sound_lines names before [] follow = All-nil IsSound
sound_lines names before (line ∷ lines) follow = All-cons IsSound line lines follow.0.stands.is_text.sound (sound_lines (names_after names line) (before ++ line ∷ []) lines follow.1)

-- the atoms of a module that was read
pub held_is : (before : Texts) (bytes : List ℕ) (first : ℕ) (after : Texts) (r : Result Module ModFault) → IsNames after → Ends before bytes first after r → IfOk r (λ m. IsModuleHeld after m)
held_is before bytes first after _ sound (read forms m e value settled) =
    subst (IsModuleHeld after) (sym value) (module_held after (some_names after sound) forms (sound_lines before [] forms (bytes_are_read before bytes after forms e).faultless))
held_is before bytes first after _ sound _ = tt

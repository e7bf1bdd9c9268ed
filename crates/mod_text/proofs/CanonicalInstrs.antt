-- Canonical instructions: each has its form, passes no limit, adds no name, and is read as that instruction.
use Rattle.mod_text.proofs.Common.{◌≡◌, ℕ, ◌+◌, ◌<◌, ◌≤◌, ◌^◌, Bool, true, false, ◌&&◌, ◌||◌, ◌==◌, nat_le}
use Rattle.mod_text.proofs.Common.{List, [], ◌∷◌, ◌++◌, length, decimal, Option, Some, None, is_some, Texts}
use Rattle.mod_text.proofs.Common.{unwrap_or, slice_get, refl, ap, ◌∙◌, arith, IsSomeAnd}
use Rattle.mod_text.proofs.Common.{and_from, or_from, le-leb, not_from_true, Decides-eqb}
use Rattle.term_core.specs.declared.atom.Mfa.{Mfa}
use Rattle.mod_text.proofs.Texts.{is_atom_text, IsNames, atom_text, names_with_all, is_number_text, decimal-writes}
use Rattle.mod_text.proofs.Types.{Operand, Instr, Function}
use Rattle.mod_core.specs.declared.code.Instr.TheVariants.{Move, Add, Sub, Eq, Less, Jump, Call, CallExt}
use Rattle.mod_core.specs.declared.code.Instr.TheVariants.{Ret, Pget, PgetOr, Elem, Print, Yield}
use Rattle.mod_text.proofs.Forms.{label_text, written_operand, written_call, written_instr, goes_to, is_high}
use Rattle.mod_text.proofs.Forms.{has_high_operand, is_high_call, has_high_instr, is_wide_operand}
use Rattle.mod_text.proofs.Forms.{has_wide_instr, is_long_operand, has_long_instr, operand_atoms, instr_atoms, operands_of}
use Rattle.mod_text.proofs.Forms.{some_operand, OperandForm, InstrForm, LineForm, is_operand_form}
use Rattle.mod_text.proofs.Forms.{is_function_form, is_instr_form, HeaderForm, label_number, function_number, instr_in, is_settled}
use Rattle.mod_core.specs.HeldNames.{HasAtomsAmong}
use Rattle.mod_core.specs.Module.{IsInstr, IsFunctionName, IsCallPlace}
use Rattle.mod_text.proofs.LineNames.{names_with_all-append}
use Rattle.mod_text.proofs.CanonicalParts.{held_atom, atom_back, no_new_name, arity_writes}
use Rattle.mod_text.proofs.CanonicalParts.{register_writes, label_form, IsOperandBack, operand_back}

-- an instruction as it is written has its form, passes no limit, adds no name, is read as that instruction and lacks nothing
pub record IsInstrBack (names : Texts) (headers : List HeaderForm) (body : List LineForm) (form : InstrForm) (i : Instr) : Type 0 where
  pub sound : is_instr_form form ≡ true
  pub low : has_high_instr form ≡ false
  pub narrow : has_wide_instr form ≡ false
  pub short : has_long_instr form ≡ false
  pub known : names_with_all names (instr_atoms form) ≡ names
  pub value : instr_in names headers body form ≡ i
  pub settled : is_settled headers body form ≡ true

-- ---- two operands

both_known : (names xs ys : Texts) → names_with_all names xs ≡ names → names_with_all names ys ≡ names → names_with_all names (xs ++ ys) ≡ names
both_known names xs ys first second = names_with_all-append names xs ys ∙ ap (λ ns. names_with_all ns ys) first ∙ second

module _ (names : Texts) (headers : List HeaderForm) (body : List LineForm) (x y : OperandForm) (a b : Operand) (first : IsOperandBack names x a) (second : IsOperandBack names y b) where
  both_low : (rest : Bool) → rest ≡ false → (has_high_operand x || (has_high_operand y || rest)) ≡ false
  both_low rest h = or_from _ _ first.low (or_from _ rest second.low h)

  -- an instruction of two operands and one word more
  two_back : (form : InstrForm) (i : Instr) (last : Bool) → is_instr_form form ≡ (is_operand_form x && (is_operand_form y && last)) → last ≡ true → has_high_instr form ≡ false → operands_of form ≡ x ∷ y ∷ [] → instr_atoms form ≡ operand_atoms x ++ operand_atoms y → instr_in names headers body form ≡ i → is_settled headers body form ≡ true → IsInstrBack names headers body form i
  two_back form i last shape whole low operands atoms value settled = record {
    sound = shape ∙ and_from (is_operand_form x) (is_operand_form y && last) first.sound (and_from (is_operand_form y) last second.sound whole);
    low = low;
    narrow = ap (some_operand is_wide_operand) operands ∙ or_from (is_wide_operand x) (is_wide_operand y) first.narrow second.narrow;
    short = ap (some_operand is_long_operand) operands ∙ or_from (is_long_operand x) (is_long_operand y) first.short second.short;
    known = ap (names_with_all names) atoms ∙ both_known names (operand_atoms x) (operand_atoms y) first.known second.known;
    value = value;
    settled = settled;
  }

-- ---- calls

-- a function of the module is called by the text of its name and its arity
pub record IsCalled (names : Texts) (headers : List HeaderForm) (k : ℕ) (f : Function) : Type 0 where
  pub held : f.name.0 < length names
  pub arity : f.arity ≤ 15
  pub number : function_number (atom_text names f.name.0) (decimal f.arity) headers ≡ Some k

-- so is each of these
abbrev pub AreCalled : Texts → List HeaderForm → List Function → Type 0
AreCalled names headers fs = (k : ℕ) (f : Function) → slice_get fs k ≡ Some f → IsCalled names headers k f

-- the text of a function's name
pub name_form : (names : Texts) (atom arity : ℕ) → IsNames names → atom < length names → arity ≤ 15 → is_function_form (atom_text names atom) (decimal arity) ≡ true
name_form names atom arity sound held few = and_from _ _ (held_atom names atom sound held).form (arity_writes arity few)

call_low : (at arity : ℕ) → arity ≤ 15 → IsCallPlace at arity → is_high_call (decimal arity) (decimal at) ≡ false
call_low at arity few place =
    let w = register_writes at place.back in
    or_from _ _ w.low (not_from_true _ ((λ j. nat_le (w.value j + (decimal-writes arity (omega arith)).value j) 16) ∙ le-leb _ 16 place.arguments))

module _ (names : Texts) (headers : List HeaderForm) (body : List LineForm) (fs : List Function) where
  call_back : (k at : ℕ) (o : Option Function) → IsNames names → AreCalled names headers fs → slice_get fs k ≡ o → IsSomeAnd o (λ f. IsCallPlace at f.arity) → IsInstrBack names headers body (written_call names o at) (Call k at)
  call_back k at None sound called is place = absurd place
  call_back k at (Some f) sound called is place =
      let c = called k f is in
      let w = register_writes at place.back in
      record {
        sound = and_from _ _ (name_form names _ _ sound c.held c.arity) w.form;
        low = call_low at f.arity c.arity place;
        narrow = refl;
        short = refl;
        known = no_new_name names (atom_text names _) _ (held_atom names _ sound c.held);
        value = λ j. Call (ap (λ o. unwrap_or o 0) c.number j) (w.value j);
        settled = ap is_some c.number;
      }

  external_back : (to : Mfa) (at : ℕ) → IsNames names → to.«module».0 < length names → to.name.0 < length names → IsFunctionName to → IsCallPlace at to.arity → IsInstrBack names headers body (written_instr names fs (CallExt to at)) (CallExt to at)
  external_back to at sound outer inner is place =
      let few : to.arity ≤ 15 = is.arity in
      let w = register_writes at place.back in
      let v = decimal-writes _ (omega arith) in
      let name = atom_text names _ in
      let function = atom_text names to.name.0 in
      let first = held_atom names _ sound outer in
      record {
        sound = and_from _ _ first.form (and_from _ _ (name_form names _ _ sound inner few) w.form);
        low = call_low at to.arity few place;
        narrow = refl;
        short = refl;
        known = both_known names (name ∷ []) (function ∷ []) (no_new_name names name _ first) (no_new_name names _ _ (held_atom names _ sound inner));
        value = λ j. CallExt (record { «module» = atom_back names _ sound outer j; name = atom_back names _ sound inner j; arity = v.value j }) (w.value j);
        settled = refl;
      }

-- ---- instructions

itself : (n : ℕ) → (n == n) ≡ true
itself n = (Decides-eqb n n).1 refl

-- the labels of this body name the targets of an instruction, none of which is past the end
abbrev pub HasTargets : List LineForm → ℕ → Instr → Type 0
HasTargets body len i = (target : ℕ) → target ≤ len → goes_to target i ≡ true → label_number (label_text target) body ≡ Some target

module _ (names : Texts) (headers : List HeaderForm) (body : List LineForm) (fs : List Function) (len : ℕ) (sound : IsNames names) (short : len < 2 ^ 64) (called : AreCalled names headers fs) where
  -- each instruction of a module comes back from its line
  pub instr_back : (i : Instr) → IsInstr fs len i → HasAtomsAmong (length names) i → HasTargets body len i → IsInstrBack names headers body (written_instr names fs i) i
  instr_back (Move from to) is held targets =
      let a = operand_back names from sound is.0 held in
      let w = register_writes to is.1 in
      let x = written_operand names from in
      record {
        sound = and_from _ _ a.sound w.form;
        low = or_from _ _ a.low w.low;
        narrow = a.narrow;
        short = a.short;
        known = a.known;
        value = λ j. Move (a.value j) (w.value j);
        settled = refl;
      }
  instr_back (Add a b to) is held targets =
      let x = operand_back names a sound is.0 held.0 in
      let y = operand_back names b sound is.1 held.1 in
      let w = register_writes to is.2 in
      two_back names headers body (written_operand names a) (written_operand names b) a b x y (written_instr names fs (Add a b to)) (Add a b to) (is_number_text (decimal to)) refl w.form
      (both_low names headers body (written_operand names a) (written_operand names b) a b x y (is_high (decimal to)) w.low) refl refl (λ j. Add (x.value j) (y.value j) (w.value j)) refl
  instr_back (Sub a b to) is held targets =
      let x = operand_back names a sound is.0 held.0 in
      let y = operand_back names b sound is.1 held.1 in
      let w = register_writes to is.2 in
      two_back names headers body (written_operand names a) (written_operand names b) a b x y (written_instr names fs (Sub a b to)) (Sub a b to) (is_number_text (decimal to)) refl w.form
      (both_low names headers body (written_operand names a) (written_operand names b) a b x y (is_high (decimal to)) w.low) refl refl (λ j. Sub (x.value j) (y.value j) (w.value j)) refl
  instr_back (Eq a b target) is held targets =
      let x = operand_back names a sound is.0 held.0 in
      let y = operand_back names b sound is.1 held.1 in
      let t = targets target is.2 (itself target) in
      two_back names headers body (written_operand names a) (written_operand names b) a b x y (written_instr names fs (Eq a b target)) (Eq a b target) (is_atom_text (label_text target)) refl (label_form target (omega (arith, is.2)))
      (or_from (has_high_operand (written_operand names a)) (has_high_operand (written_operand names b)) x.low y.low) refl refl (λ j. Eq (x.value j) (y.value j) (ap (λ o. unwrap_or o 0) t j)) (ap is_some t)
  instr_back (Less a b target) is held targets =
      let x = operand_back names a sound is.0 held.0 in
      let y = operand_back names b sound is.1 held.1 in
      let t = targets target is.2 (itself target) in
      two_back names headers body (written_operand names a) (written_operand names b) a b x y (written_instr names fs (Less a b target)) (Less a b target) (is_atom_text (label_text target)) refl (label_form target (omega (arith, is.2)))
      (or_from (has_high_operand (written_operand names a)) (has_high_operand (written_operand names b)) x.low y.low) refl refl (λ j. Less (x.value j) (y.value j) (ap (λ o. unwrap_or o 0) t j)) (ap is_some t)
  instr_back (Jump target) is held targets =
      let t = targets target is (itself target) in
      record { sound = label_form target (omega (arith, is)); low = refl; narrow = refl; short = refl; known = refl; value = ap (λ o. Jump (unwrap_or o 0)) t; settled = ap is_some t }
  instr_back (Call k at) is held targets = call_back names _ body fs k at (slice_get fs k) sound called refl is
  instr_back (CallExt to at) is held targets = external_back names _ body fs to at sound held.0 held.1 is.0 is.1
  instr_back (Ret value) is held targets =
      let a = operand_back names value sound is held in
      record { sound = a.sound; low = a.low; narrow = a.narrow; short = a.short; known = a.known; value = ap (λ v. Ret v) a.value; settled = refl }
  instr_back (Pget key to) is held targets =
      let h = held_atom names key.0 sound held in
      let w = register_writes to is.1 in
      record {
        sound = and_from _ _ h.form w.form;
        low = w.low;
        narrow = refl;
        short = refl;
        known = no_new_name names _ key.0 h;
        value = λ j. Pget (atom_back names key sound held j) (w.value j);
        settled = refl;
      }
  instr_back (PgetOr key other to) is held targets =
      let h = held_atom names key.0 sound held.0 in
      let a = operand_back names other sound is.1 held.1 in
      let w = register_writes to is.2 in
      let x = written_operand names other in
      record {
        sound = and_from (is_atom_text (atom_text names key.0)) (is_operand_form x && is_number_text (decimal to)) h.form (and_from (is_operand_form x) (is_number_text (decimal to)) a.sound w.form);
        low = or_from (has_high_operand x) (is_high (decimal to)) a.low w.low;
        narrow = a.narrow;
        short = a.short;
        known = both_known names (atom_text names key.0 ∷ []) (operand_atoms x) (no_new_name names (atom_text names key.0) key.0 h) a.known;
        value = λ j. PgetOr (atom_back names key sound held.0 j) (a.value j) (w.value j);
        settled = refl;
      }
  instr_back (Elem a b to) is held targets =
      let x = operand_back names a sound is.0 held.0 in
      let y = operand_back names b sound is.1 held.1 in
      let w = register_writes to is.2 in
      two_back names headers body (written_operand names a) (written_operand names b) a b x y (written_instr names fs (Elem a b to)) (Elem a b to) (is_number_text (decimal to)) refl w.form
      (both_low names headers body (written_operand names a) (written_operand names b) a b x y (is_high (decimal to)) w.low) refl refl (λ j. Elem (x.value j) (y.value j) (w.value j)) refl
  instr_back (Print value) is held targets =
      let a = operand_back names value sound is held in
      record { sound = a.sound; low = a.low; narrow = a.narrow; short = a.short; known = a.known; value = ap (λ v. Print v) a.value; settled = refl }
  instr_back Yield is held targets = record { sound = refl; low = refl; narrow = refl; short = refl; known = refl; value = refl; settled = refl }

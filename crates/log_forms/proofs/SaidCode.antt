-- What a turn reads of a state can be said: its code is of the script's texts, and its keys hold what was put.
use Rattle.std.proofs.Common.{◌≡◌, ℕ, ◌+◌, ◌<◌, ◌≤◌, ◌^◌, ◌==◌, Bool, true, false, ◌||◌, List, [], ◌∷◌, length, Option, Some, None, IfSome, IsSomeAnd, Contains, slice_get, unwrap_or, option_and_then, option_map, if◌then◌else◌, refl, subst, arith}
use Rattle.std.specs.List.{AllByRecursion, list_any}
use Rattle.std.proofs.lemmas.Bool.{eqb-true}
use Rattle.std.proofs.lemmas.List.Elements.{All-contains, All-from_recursion, recursion_from_All}
use Rattle.term_core.specs.declared.term.Term.{Term}
use Rattle.term_core.specs.Plain.{plain}
use Rattle.term_core.specs.PlainTerm.{PlainTerm}
use Rattle.term_core.specs.Written.{IsTermInteger}
use Rattle.term_core.proofs.LeafFacts.{EachLeaf-both, EachLeaf-weaker}
use Rattle.mod_core.specs.declared.code.Function.{Function}
use Rattle.mod_core.specs.declared.code.Instr.{Instr}
use Rattle.mod_core.specs.declared.code.Instr.TheVariants as instrs
use Rattle.mod_core.specs.declared.code.Module.{Module}
use Rattle.mod_core.specs.declared.code.Operand.{Operand}
use Rattle.mod_core.specs.declared.code.Operand.TheVariants.{Reg, Const}
use Rattle.mod_core.specs.declared.code.TheConstants.{REGISTERS}
use Rattle.mod_core.specs.HeldNames.{HasAtomsAmong, IsFunctionHeld, IsModuleHeld, IsOperandAmong}
use Rattle.mod_core.specs.Module.{IsCallPlace, IsFunction, IsInstr, IsModule, IsOperand}
use Rattle.mod_core.specs.ModuleImage.{function_place, instr_len, place_in, placed, return_ok}
use Rattle.server_core.specs.ServerState.{Persistent, ServerState, code_of, persistent_of}
use Rattle.machine_core.specs.ServerReads.{code_at, instr_from, module_instr, no_name, persistent_value, reads_of}
use Rattle.script_core.specs.Sound.{IsTermOf}
use Rattle.run_log.specs.InstanceTexts.{AreOfTexts}
use Rattle.run_log.specs.WellFormed.{IsFunctionOf}
use Rattle.log_forms.proofs.SaidValues.{IsSaid, IsSaidOperand, said_at, said_plain}
use Rattle.log_forms.proofs.SaidSteps.{IsSaidCode, IsSaidInstr}
use Rattle.log_forms.proofs.SaidStates.{IsKnownTerm, IsSaidState, said_key}

-- two facts of each element give a third
pub both_give : {X : Type 0} (P Q R : X → Type 0) → ((x : X) → P x → Q x → R x) → (xs : List X) → AllByRecursion P xs → AllByRecursion Q xs → AllByRecursion R xs
both_give P Q R f [] h k = tt
both_give P Q R f (x ∷ xs) h k = (f x h.0 k.0, both_give P Q R f xs h.1 k.1)

-- a serial among some of which something holds
pub any_of : (P : ℕ → Type 0) (ns : List ℕ) (serial : ℕ) → list_any (λ n. n == serial) ns ≡ true → AllByRecursion P ns → P serial
any_of P [] serial e h = absurd cc
any_of P (n ∷ ns) serial e h = by (n == serial) refl e h.0 (λ k. any_of P ns serial k h.1)
  where
    by : (b : Bool) → (n == serial) ≡ b → (b || list_any (λ n. n == serial) ns) ≡ true → P n → (list_any (λ n. n == serial) ns ≡ true → P serial) → P serial
    by true same k p later = subst P (eqb-true n serial same) p
    by false same k p later = later k

module _ (names : List (List ℕ)) where
  -- a constant whose atoms have names
  said_constant : (term : Term) → IsOperand (Const term) → IsOperandAmong (length names) (Const term) → IsTermOf names (plain term)
  said_constant term h k = record {
    leaves = EachLeaf-weaker (λ z. IsTermInteger z × Unit {0}) IsTermInteger (λ a. (a < 4096) × (a < length names)) (λ a. a < length names) (λ z p. p.0) (λ a p. p.1) (plain term)
        (EachLeaf-both IsTermInteger (λ z. Unit {0}) (λ a. a < 4096) (λ a. a < length names) (plain term) h.leaves k);
    short = h.short;
  }

  said_operand : (operand : Operand) → IsOperand operand → IsOperandAmong (length names) operand → IsSaidOperand names operand
  said_operand (Reg register) h k = tt
  said_operand (Const term) h k = said_constant term h k

  -- an instruction of a module whose atoms have names
  said_instr : (fs : List Function) (len : ℕ) (i : Instr) → IsInstr fs len i → HasAtomsAmong (length names) i → IsSaidInstr names i
  said_instr fs len (instrs.Move from to) h k = said_operand from h.0 k
  said_instr fs len (instrs.CallExt to at) h k = (record { module_named = k.0; name_named = k.1; few = h.0.arity }, h.1.arguments)
  said_instr fs len (instrs.Ret value) h k = said_operand value h k
  said_instr fs len (instrs.PgetOr key other to) h k = said_operand other h.1 k.1
  said_instr fs len (instrs.Elem index from to) h k = said_operand from h.1 k.1
  said_instr fs len (instrs.Print value) h k = said_operand value h k
  said_instr fs len i h k = tt

  placed_said : (place : ℕ → ℕ) (i : Instr) → IsSaidInstr names i → IsSaidInstr names (placed place i)
  placed_said place (instrs.Move from to) h = h
  placed_said place (instrs.CallExt to at) h = h
  placed_said place (instrs.Ret value) h = h
  placed_said place (instrs.PgetOr key other to) h = h
  placed_said place (instrs.Elem index from to) h = h
  placed_said place (instrs.Print value) h = h
  placed_said place i h = tt

  -- what stands at a place of code, or the return past its end
  from_code : (P : Instr → Type 0) → P return_ok → (start : ℕ) (code : List Instr) (place : ℕ) → AllByRecursion P code → P (instr_from start code place)
  from_code P last start [] place h = last
  from_code P last start (i ∷ code) place h = by (place == start) h.0 (from_code P last (start + instr_len i) code place h.1)
    where
      by : (b : Bool) → P i → P (instr_from (start + instr_len i) code place) → P (if b then i else instr_from (start + instr_len i) code place)
      by true p later = p
      by false p later = later

  -- a call of a function that the module has, with room for its arguments
  abbrev IsCallIn : List Function → Instr → Type 0
  IsCallIn fs (instrs.Call function at) = IsSomeAnd (slice_get fs function) (λ f. IsCallPlace at f.arity)
  IsCallIn fs i = Unit {0}

  call_in : (fs : List Function) (len : ℕ) (i : Instr) → IsInstr fs len i → IsCallIn fs i
  call_in fs len (instrs.Call function at) h = h
  call_in fs len i h = tt

  call_placed : (fs : List Function) (place : ℕ → ℕ) (i : Instr) → IsCallIn fs i → IsCallIn fs (placed place i)
  call_placed fs place (instrs.Call function at) h = h
  call_placed fs place i h = tt

  -- a module of a script
  pub record IsKnownModule (m : Module) : Type 0 where
    pub sound : IsModule m
    pub held : IsModuleHeld names m

  -- a function of such a module
  pub record IsKnownFunction (m : Module) (f : Function) : Type 0 where
    pub sound : IsFunction m.functions f
    pub held : IsFunctionHeld (length names) f

  pub functions_known : (m : Module) → IsKnownModule m → AllByRecursion (IsKnownFunction m) m.functions
  functions_known m h =
      let held = h.held in
      both_give (IsFunction m.functions) (IsFunctionHeld (length names)) (IsKnownFunction m) (λ f p q. record { sound = p; held = q }) m.functions
      (recursion_from_All (IsFunction m.functions) m.functions h.sound.functions) (recursion_from_All (IsFunctionHeld (length names)) m.functions held.functions)

  -- the instructions of a function, each of which can be said and calls what is there
  abbrev IsKnownInstr : List Function → Instr → Type 0
  IsKnownInstr fs i = IsSaidInstr names i × IsCallIn fs i

  function_code : (m : Module) (f : Function) → IsKnownFunction m f → AllByRecursion (IsKnownInstr m.functions) f.code
  function_code m f h =
      both_give (IsInstr m.functions (length f.code)) (HasAtomsAmong (length names)) (IsKnownInstr m.functions) (λ i p q. (said_instr m.functions (length f.code) i p q, call_in m.functions (length f.code) i p)) f.code
      (recursion_from_All (IsInstr m.functions (length f.code)) f.code h.sound.code) (recursion_from_All (HasAtomsAmong (length names)) f.code h.held.code)

  code_known : (m : Module) (o : Option Function) → IfSome o (IsKnownFunction m) → AllByRecursion (IsKnownInstr m.functions) (unwrap_or (option_map (λ f. f.code) o) [])
  code_known m None h = tt
  code_known m (Some f) h = function_code m f h

  module _ (given : 2 < length names) where
    last_said : IsSaidInstr names return_ok
    last_said = record { leaves = given; short = omega arith }

    instr_known : (m : Module) (function place : ℕ) → IsKnownModule m → IsKnownInstr m.functions (module_instr m function place)
    instr_known m function place h =
        let start = function_place m function in
        let code = code_known m (slice_get m.functions function) (said_at (IsKnownFunction m) m.functions function (functions_known m h)) in
        let at = from_code (IsKnownInstr m.functions) (last_said, tt) start (code_at m function) place code in
        (placed_said (place_in start (code_at m function)) (instr_from start (code_at m function) place) at.0, call_placed m.functions (place_in start (code_at m function)) (instr_from start (code_at m function) place) at.1)

    instr_by : (o : Option Module) (function place : ℕ) → IfSome o IsKnownModule → IsSaidInstr names (unwrap_or (option_map (λ m. module_instr m function place) o) return_ok)
    instr_by None function place h = last_said
    instr_by (Some m) function place h = (instr_known m function place h).0

    -- the name of a function that is there
    callee_by : (m : Module) (o : Option Function) (at : ℕ) → IsModuleHeld names m → IfSome o (IsKnownFunction m) → IsSomeAnd o (λ f. IsCallPlace at f.arity)
        → IsFunctionOf names (record { «module» = m.name; name = unwrap_or (option_map (λ f. f.name) o) no_name; arity = unwrap_or (option_map (λ f. f.arity) o) 0 }) × (at + unwrap_or (option_map (λ f. f.arity) o) 0 ≤ REGISTERS)
    callee_by m None at held h call = absurd call
    callee_by m (Some f) at held h call = (record { module_named = held.name; name_named = h.held.name; few = h.sound.arity }, call.arguments)

    local_by : (o : Option Module) (function place callee at : ℕ) → IfSome o IsKnownModule → unwrap_or (option_map (λ m. module_instr m function place) o) return_ok ≡ instrs.Call callee at
        → IsFunctionOf names (record { «module» = unwrap_or (option_map (λ m. m.name) o) no_name; name = unwrap_or (option_map (λ f. f.name) (option_and_then (λ m. slice_get m.functions callee) o)) no_name; arity = unwrap_or (option_map (λ f. f.arity) (option_and_then (λ m. slice_get m.functions callee) o)) 0 })
        × (at + unwrap_or (option_map (λ f. f.arity) (option_and_then (λ m. slice_get m.functions callee) o)) 0 ≤ REGISTERS)
    local_by None function place callee at h e = absurd cc
    local_by (Some m) function place callee at h e =
        callee_by m (slice_get m.functions callee) at h.held (said_at (IsKnownFunction m) m.functions callee (functions_known m h)) (subst (IsCallIn m.functions) e (instr_known m function place h).1)

    value_by : (term : PlainTerm) (area : Option ℕ) → IsTermOf names term → IsSaid names (persistent_value term area)
    value_by term None h = said_plain names term h
    value_by term (Some serial) h = said_plain names term h

    key_by : (next : ℕ) (o : Option Persistent) → IfSome o (IsKnownTerm names next) → IfSome (option_map (λ p. persistent_value p.term p.area) o) (IsSaid names)
    key_by next None h = tt
    key_by next (Some p) h = value_by p.term p.area h.term

    -- what a turn reads of a state whose code is of known modules
    pub said_code : (texts : List Module) (s : ServerState) → AllByRecursion IsKnownModule texts → AreOfTexts texts s → IsSaidState names s → s.next_serial ≤ 2 ^ 64 → IsSaidCode names (reads_of s)
    said_code texts s modules of_texts said few =
        let known : (serial : ℕ) → IfSome (code_of s serial) IsKnownModule = λ serial. known_at (code_of s serial) (of_texts serial) in
        record {
          instr = λ e place. instr_by (code_of s e.serial) e.function place (known e.serial);
          local = λ e place function at h. local_by (code_of s e.serial) e.function place function at (known e.serial) h;
          key = λ key. key_by s.next_serial (persistent_of s key) (said_key names s said key);
          doomed = λ serial h. let below = any_of (λ n. n < s.next_serial) s.doomed serial h said.doomed in omega (arith, below, few);
        }
      where
        known_at : (o : Option Module) → IfSome o (Contains texts) → IfSome o IsKnownModule
        known_at None h = tt
        known_at (Some m) h = All-contains IsKnownModule texts m (All-from_recursion IsKnownModule texts modules) h

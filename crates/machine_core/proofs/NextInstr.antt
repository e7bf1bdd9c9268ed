-- That each place at which a frame may stand is that of an instruction of its function, or of the return past its end.
use Rattle.std.proofs.Common.{◌≡◌, ◌<◌, ◌≤◌, ◌+◌, ◌∙◌, sym, ℕ, zero, suc, true, false, refl, arith, ap, List, [], ◌∷◌, length, slice_get, get_or, Some, All, subst}
use Rattle.std.proofs.lemmas.Option.{slice_get-get_or}
use Rattle.mod_core.specs.declared.code.Instr.{Instr}
use Rattle.mod_core.specs.declared.code.Instr.TheVariants as instrs
use Rattle.mod_core.specs.declared.code.Function.{Function}
use Rattle.mod_core.specs.declared.code.Module.{Module}
use Rattle.mod_core.specs.Module.{IsFunction, IsInstr}
use Rattle.mod_core.specs.ModuleImage.{function_place, instr_len, place_in, placed, placed_code}
use Rattle.mod_core.proofs.Lengths.{placed_len}
use Rattle.mod_core.proofs.Places.{InstrAt, numbered, target_at}
use Rattle.server_core.specs.ServerState.{Entry}
use Rattle.machine_core.specs.Process.{PlainFrame}
use Rattle.machine_core.specs.Reads.{entry_at, instr_at}
use Rattle.machine_core.specs.ServerReads.{code_at}
use Rattle.machine_core.specs.View.{IsLawful, IsOfModule, Shown}
use Rattle.machine_core.specs.Turn.{IsPlaceIn, IsPlaced, goes_past, stands_at, stands_behind, stands_first, target_of}
use Rattle.machine_core.proofs.Codes.{module_instr-place, numbered-placed}

-- the code of a function that is there
code_is : (m : Module) (function : ℕ) (f : Function) → slice_get m.functions function ≡ Some f → code_at m function ≡ f.code
code_is m function f e = rw e

-- each function of a module is one
pub sound_function : (fs all : List Function) (k : ℕ) (f : Function) → All (IsFunction all) fs → slice_get fs k ≡ Some f → IsFunction all f
sound_function [] all k f h e = absurd (cc)
sound_function (g ∷ fs) all zero f h e = let k : g ≡ f = cc in subst (IsFunction all) k (h 0 g (omega arith))
sound_function (g ∷ fs) all (suc k) f h e = sound_function fs all k f (λ j d l. h (suc j) d (omega arith)) e

sound_numbered : (fs : List Function) (len : ℕ) (code : List Instr) (number : ℕ) → All (IsInstr fs len) code → IsInstr fs len (numbered code number)
sound_numbered fs len [] zero h = omega arith
sound_numbered fs len [] (suc number) h = omega arith
sound_numbered fs len (i ∷ is) zero h = h 0 i (omega arith)
sound_numbered fs len (i ∷ is) (suc number) h = sound_numbered fs len is number (λ k d l. h (suc k) d (omega arith))

-- the place of the instruction with a number, or of the return past the last one
pub record IsNumbered (start : ℕ) (code : List Instr) (place : ℕ) : Type 0 where
  pub number : ℕ
  pub within : number ≤ length code
  pub is : place ≡ place_in start code number

-- an instruction behind which a frame stands is one of the code, not the return past its end
going_inside : (code : List Instr) (number : ℕ) → goes_past (numbered code number) ≡ true → number < length code
going_inside [] zero h = absurd (cc)
going_inside [] (suc number) h = absurd (cc)
going_inside (i ∷ is) zero h = omega arith
going_inside (i ∷ is) (suc number) h = let r = going_inside is number h in omega arith

-- the place behind an instruction
place_in-suc : (start : ℕ) (code : List Instr) (number : ℕ) → number < length code → place_in start code (number + 1) ≡ place_in start code number + instr_len (numbered code number)
place_in-suc start [] number h = absurd (omega arith)
place_in-suc start (i ∷ is) zero h = omega arith
place_in-suc start (i ∷ is) (suc number) h =
    let r = place_in-suc start is number (omega arith) in
    let e : suc number + 1 ≡ suc (number + 1) = omega arith in
    rw e (omega (arith, r))

placed_goes : (place : ℕ → ℕ) (i : Instr) → goes_past (placed place i) ≡ goes_past i
placed_goes place (instrs.Ret value) = refl
placed_goes place i = refl

-- a target of a sound instruction is one of its function's places
record IsTarget (place : ℕ → ℕ) (len target : ℕ) : Type 0 where
  number : ℕ
  within : number ≤ len
  is : target ≡ place number

placed_target : (fs : List Function) (len : ℕ) (place : ℕ → ℕ) (target : ℕ) (i : Instr) → IsInstr fs len i → target_of (placed place i) ≡ Some target → IsTarget place len target
placed_target fs len place target (instrs.Eq a b number) h e = let k : place number ≡ target = cc in record { number = number; within = h.2; is = sym k }
placed_target fs len place target (instrs.Less a b number) h e = let k : place number ≡ target = cc in record { number = number; within = h.2; is = sym k }
placed_target fs len place target (instrs.Jump number) h e = let k : place number ≡ target = cc in record { number = number; within = h; is = sym k }
placed_target fs len place target i h e = absurd (cc)

module _ (shown : Shown) (e : Entry) (m : Module) (g : Function) (loaded : IsOfModule shown e.serial m) (found : slice_get m.functions e.function ≡ Some g) where
  -- what is read at the place of a number is the instruction with it, its target a place
  pub instr_is : (number : ℕ) → number ≤ length g.code → shown.reads.instr e (place_in (function_place m e.function) g.code number) ≡ placed (place_in (function_place m e.function) g.code) (numbered g.code number)
  instr_is number within =
      let code = code_is m e.function g found in
      (loaded.functions e.function g found).instrs number within
      ∙ module_instr-place m e.function number (place_in (function_place m e.function) g.code number) (ap (λ is. place_in (function_place m e.function) is number) (sym code))
      ∙ ap (λ is. placed (place_in (function_place m e.function) is) (numbered is number)) code

  sound_at : (number : ℕ) → IsInstr m.functions (length g.code) (numbered g.code number)
  sound_at number = sound_numbered m.functions (length g.code) g.code number (sound_function m.functions m.functions e.function g loaded.sound.functions found).code

  pub there : (place : ℕ) (n : IsNumbered (function_place m e.function) g.code place) → shown.reads.instr e place ≡ placed (place_in (function_place m e.function) g.code) (numbered g.code n.number)
  there place n = ap (shown.reads.instr e) n.is ∙ instr_is n.number n.within

  behind : (place : ℕ) → IsNumbered (function_place m e.function) g.code place → goes_past (shown.reads.instr e place) ≡ true → IsNumbered (function_place m e.function) g.code (place + instr_len (shown.reads.instr e place))
  behind place n goes =
      let code = place_in (function_place m e.function) g.code in
      let i = numbered g.code n.number in
      let inside = going_inside g.code n.number (sym (placed_goes code i) ∙ sym (ap goes_past (there place n)) ∙ goes) in
      let len : instr_len (shown.reads.instr e place) ≡ instr_len i = ap instr_len (there place n) ∙ placed_len code i in
      record { number = n.number + 1; within = omega arith; is = omega (arith, n.is, len, place_in-suc (function_place m e.function) g.code n.number inside) }

  target : (place to : ℕ) → IsNumbered (function_place m e.function) g.code place → target_of (shown.reads.instr e place) ≡ Some to → IsNumbered (function_place m e.function) g.code to
  target place to n goes =
      let t = placed_target m.functions (length g.code) (place_in (function_place m e.function) g.code) to (numbered g.code n.number) (sound_at n.number) (sym (ap target_of (there place n)) ∙ goes) in
      record { number = t.number; within = t.within; is = t.is }

  pub numbered_place : (place : ℕ) → IsPlaceIn (shown.reads.first e) (shown.reads.instr e) place → IsNumbered (function_place m e.function) g.code place
  numbered_place place stands_first = record { number = 0; within = omega arith; is = omega (arith, (loaded.functions e.function g found).first) }
  numbered_place place (stands_behind before p goes) = behind before (numbered_place before p) goes
  numbered_place place (stands_at before to p goes) = target before place (numbered_place before p) goes

-- an instruction of a function, with its number, in the module of the instance
pub record IsNext (shown : Shown) (f : PlainFrame) : Type 0 where
  pub m : Module
  pub function : Function
  pub number : ℕ
  pub loaded : IsOfModule shown f.serial m
  pub found : slice_get m.functions f.function ≡ Some function
  pub within : number ≤ length function.code
  pub place : f.place ≡ place_in (function_place m f.function) function.code number
  pub instr : instr_at shown.reads f ≡ placed (place_in (function_place m f.function) function.code) (numbered function.code number)

is_next_of : (shown : Shown) (f : PlainFrame) (m : Module) (g : Function) → IsOfModule shown f.serial m → slice_get m.functions f.function ≡ Some g → IsPlaced shown.reads f → IsNext shown f
is_next_of shown f m g loaded found p =
    let n = numbered_place shown (entry_at f) m g loaded found f.place p.at in
    record { m = m; function = g; number = n.number; loaded = loaded; found = found; within = n.within; place = n.is; instr = there shown (entry_at f) m g loaded found f.place n }

-- a placed frame stands at such an instruction
pub is_next : (shown : Shown) (f : PlainFrame) → IsLawful shown → IsPlaced shown.reads f → IsNext shown f
is_next shown f lawful p =
    let l = lawful.instances f.serial (omega (arith, p.known)) in
    let none : Function = record { name = l.m.name; arity = 0; exported = false; code = [] } in
    is_next_of shown f l.m (get_or l.m.functions f.function none) l.is (slice_get-get_or l.m.functions f.function none (omega (arith, p.known, l.is.count))) p

-- it stands in its module's image, and so do its constants
pub instr_stands : (shown : Shown) (f : PlainFrame) (n : IsNext shown f) → InstrAt n.m f.place (instr_at shown.reads f)
instr_stands shown f n =
    let at = target_at n.m n.loaded.sound f.function n.function n.found n.number n.within in
    let i = numbered-placed (function_place n.m f.function) n.function.code n.number ∙ sym n.instr in
    subst (λ j. InstrAt n.m f.place j) i (subst (λ p. InstrAt n.m p (numbered (placed_code (function_place n.m f.function) n.function.code) n.number)) (sym n.place) at)

-- the next instruction is one of its function
pub is_instr : (shown : Shown) (f : PlainFrame) (n : IsNext shown f) → IsInstr n.m.functions (length n.function.code) (numbered n.function.code n.number)
is_instr shown f n = sound_at shown (entry_at f) n.m n.function n.loaded n.found n.number

-- Which instruction stands at a place of code: the one with the number that has this place.
use Rattle.std.proofs.Common.{◌≡◌, ◌≤◌, ◌+◌, ◌∙◌, ℕ, zero, suc, refl, arith, ap, List, [], ◌∷◌, slice_get, option_map, unwrap_or, Some, None, Option}
use Rattle.std.proofs.lemmas.Bool.Decides.{nat_tests}
use Rattle.std.proofs.lemmas.Option.{slice_get-map}
use Rattle.mod_core.specs.declared.code.Instr.{Instr}
use Rattle.mod_core.specs.declared.code.Module.{Module}
use Rattle.mod_core.specs.ModuleImage.{function_place, instr_len, place_in, placed, placed_code, return_ok}
use Rattle.mod_core.proofs.Places.{numbered}
use Rattle.machine_core.specs.ServerReads.{code_at, instr_from, module_instr}
use Rattle.mod_core.proofs.Lengths.{some_words}

-- the place of what stands behind the first instruction
pub place_in-cons : (start number : ℕ) (i : Instr) (is : List Instr) → place_in start (i ∷ is) (suc number) ≡ place_in (start + instr_len i) is number
place_in-cons start number i is = omega arith

first_at : (start : ℕ) (i : Instr) (is : List Instr) → instr_from start (i ∷ is) (start + 0) ≡ i
first_at start i is = grind (arith, nat_tests)

past_first : (start place : ℕ) (i : Instr) (is : List Instr) → 1 ≤ instr_len i → start + instr_len i ≤ place → instr_from start (i ∷ is) place ≡ instr_from (start + instr_len i) is place
past_first start place i is least past = grind (arith, nat_tests)

-- at the place of a number stands the instruction with it, or the return past the last one
pub instr_from-place : (start : ℕ) (code : List Instr) (number : ℕ) → instr_from start code (place_in start code number) ≡ numbered code number
instr_from-place start [] zero = refl
instr_from-place start [] (suc number) = refl
instr_from-place start (i ∷ is) zero = first_at start i is
instr_from-place start (i ∷ is) (suc number) =
    rw (place_in-cons start number i is)
    (past_first start (place_in (start + instr_len i) is number) i is (some_words i) (omega arith) ∙ instr_from-place (start + instr_len i) is number)

numbered_placed : (place : ℕ → ℕ) (o : Option Instr) → unwrap_or (option_map (placed place) o) return_ok ≡ placed place (unwrap_or o return_ok)
numbered_placed place None = refl
numbered_placed place (Some i) = refl

-- the instruction with a number, its target a place
pub numbered-placed : (start : ℕ) (code : List Instr) (number : ℕ) → numbered (placed_code start code) number ≡ placed (place_in start code) (numbered code number)
numbered-placed start code number =
    ap (λ o. unwrap_or o return_ok) (slice_get-map (placed (place_in start code)) code number) ∙ numbered_placed (place_in start code) (slice_get code number)

-- the instruction at the place of a number, in a module
pub module_instr-place : (m : Module) (function number place : ℕ) → place ≡ place_in (function_place m function) (code_at m function) number →
    module_instr m function place ≡ placed (place_in (function_place m function) (code_at m function)) (numbered (code_at m function) number)
module_instr-place m function number place e =
    rw e (ap (placed (place_in (function_place m function) (code_at m function))) (instr_from-place (function_place m function) (code_at m function) number))

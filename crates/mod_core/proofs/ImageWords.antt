-- How many instructions a module has room for.
use Rattle.std.proofs.Common.{ℕ, ◌≤◌, All, List, [], ◌∷◌, length, arith, sum_by}
use Rattle.std.proofs.lemmas.List.Elements.{All-nil, All-cons}
use Rattle.std.proofs.lemmas.List.Sums.{sum_by-cons}
use Rattle.mod_core.specs.declared.code.Instr.{Instr}
use Rattle.mod_core.specs.declared.code.Function.{Function}
use Rattle.mod_core.specs.declared.code.Module.{Module}
use Rattle.mod_core.specs.Module.{IsModule}
use Rattle.mod_core.specs.ModuleImage.{code_len, function_len, module_image}
use Rattle.mod_core.proofs.Lengths.{some_words}
pub use Rattle.mod_core.proofs.Lengths.{image_len}

-- code has no more instructions than words
pub code_within : (is : List Instr) → length is ≤ code_len is
code_within [] = omega arith
code_within (i ∷ is) = omega (arith, some_words i, code_within is)

-- code of a module has no more instructions than its image has words
codes_within : (fs : List Function) (words : ℕ) → sum_by function_len fs ≤ words → All (λ f. length f.code ≤ words) fs
codes_within [] words within = All-nil (λ f. length f.code ≤ words)
codes_within (f ∷ fs) words within =
    let whole = sum_by-cons function_len f fs in
    All-cons (λ g. length g.code ≤ words) f fs (omega (arith, whole, within, code_within f.code)) (codes_within fs words (omega (arith, whole, within)))

-- no function has more instructions than the image of its module has words
pub few_instrs : (m : Module) → IsModule m → All (λ f. length f.code ≤ 1024) m.functions
few_instrs m is =
    let short : length (module_image m) ≤ 1024 = is.short in
    codes_within m.functions 1024 (omega (arith, short, image_len m))

-- The module that the pushes make is one.
use Rattle.std.proofs.Common.{◌≡◌, ℕ, Bool, ◌<◌, ◌≤◌, List, [], ◌∷◌, ◌++◌, refl, sym, ap, ◌∙◌, subst, lit≤, lit<}
use Rattle.std.proofs.lemmas.List.Elements.{All-cons, All-nil}
use Rattle.mod_core.specs.declared.code.Operand.TheVariants.{Reg}
use Rattle.mod_core.specs.declared.code.Instr.{Instr}
use Rattle.mod_core.specs.declared.code.Instr.TheVariants.{Print}
use Rattle.mod_core.specs.declared.code.Function.{Function}
use Rattle.mod_core.specs.declared.code.Module.{Module}
use Rattle.mod_core.specs.Module.{IsInstr, IsModule}
use Rattle.mod_core.proofs.OneFunction.{is_module_of_one}
use Rattle.server_tests.proofs.steps.text.Goals as goal

abbrev main : Bool → List Instr → Function
main exported code = record { name = record { 0 = 900 }; arity = 1; exported = exported; code = code }

abbrev text : ℕ → ℕ → List Function → Module
text name version functions = record { name = record { 0 = name }; version = version; functions = functions }

made : (exported : Bool) (name version : ℕ) (empty code : List Instr) (nothing functions : List Function) → name < 4096 → 1 ≤ version → version ≤ 999999
    → empty ≡ [] → code ≡ empty ++ Print (Reg 0) ∷ [] → nothing ≡ [] → functions ≡ nothing ++ main exported code ∷ [] → IsModule (text name version functions)
made exported name version empty code nothing functions numbered least greatest none pushed no_function pushed_function =
    let is : code ≡ Print (Reg 0) ∷ [] = pushed ∙ ap (λ xs. xs ++ Print (Reg 0) ∷ []) none in
    let all : functions ≡ main exported (Print (Reg 0) ∷ []) ∷ [] = pushed_function ∙ (λ i. no_function i ++ main exported (is i) ∷ []) in
    subst (λ fs. IsModule (text name version fs)) (sym all)
    (is_module_of_one (text name version (main exported (Print (Reg 0) ∷ []) ∷ [])) (main exported (Print (Reg 0) ∷ [])) refl numbered least greatest
    (record { named = lit< tt; arity = lit≤ tt; code = All-cons (IsInstr (main exported (Print (Reg 0) ∷ []) ∷ []) 1) (Print (Reg 0)) [] (lit< tt) (All-nil (IsInstr (main exported (Print (Reg 0) ∷ []) ∷ []) 1)) }) (lit≤ tt))

pub returns-clause-sound : goal.returns-clause-sound
returns-clause-sound c =
    made c.args.exported c.args.name c.args.version c.new-code.result c.push.new.self c.new-functions.result c.push-2.new.self c.requires.numbered c.requires.least c.requires.greatest c.new-code.ensures c.in_ok-push.ensures.ok c.new-functions.ensures c.in_ok-push-2.ensures.ok

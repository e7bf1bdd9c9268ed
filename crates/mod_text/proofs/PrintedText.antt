-- How a text grows by the lines of a function's code, and what a text begins with.
use Rattle.std.proofs.Common.{◌≡◌, ℕ, ◌<◌, ◌≤◌, List, [], ◌∷◌, ◌++◌, length, drop, refl, Result}
use Rattle.std.proofs.Common.{OnOk, decimal, All, subst, sym, ap, ◌∙◌, arith, append_assoc}
use Rattle.std.proofs.lemmas.Grind.{flat_map-append}
use Rattle.mod_text.proofs.Common.{IfOk-equal, StartsWith, flat_map, All-weaker, Texts}
use Rattle.mod_text.proofs.Texts.{atom_text}
use Rattle.mod_text.proofs.Types.{Instr, Function, Module}
use Rattle.mod_core.specs.Module.{IsModule}
use Rattle.mod_core.proofs.ImageWords.{few_instrs}
use Rattle.mod_text.proofs.Forms.{title, end, line_bytes, lines_written, lines_from, function_lines, canonical}

-- what is written of a function's code, and what is left of it
pub record CodeWritten (names : Texts) (fs : List Function) (code : List Instr) (number : ℕ) (out start : List ℕ) : Type 0 where
  pub left : out ++ lines_written (lines_from names fs code number (drop number code)) ≡ start ++ lines_written (lines_from names fs code 0 code)
  pub kept : StartsWith out start

-- two parts more, and what is left
goes_on : (out labelled more a b rest : List ℕ) → labelled ≡ out ++ a → more ≡ labelled ++ b → more ++ rest ≡ out ++ (a ++ (b ++ rest))
goes_on out labelled more a b rest e f = rw (f, e) (simp append_assoc)

-- the text of the lines of some functions, function by function
lines_of_functions : (names : Texts) (fs gs : List Function) → lines_written (flat_map (function_lines names fs) gs) ≡ flat_map (λ f. lines_written (function_lines names fs f)) gs
lines_of_functions names fs [] = refl
lines_of_functions names fs (g ∷ gs) =
    flat_map-append line_bytes (function_lines names fs g) (flat_map (function_lines names fs) gs)
    ∙ ap (λ t. lines_written (function_lines names fs g) ++ t) (lines_of_functions names fs gs)

-- a module's text, part by part
pub module_written : {T E : Type 0} (r : Result T E) (names : Texts) (m : Module) (start titled functions whole : List ℕ) →
    titled ≡ start ++ line_bytes (title (atom_text names m.name.0) (decimal m.version)) →
    functions ≡ titled ++ flat_map (λ f. lines_written (function_lines names m.functions f)) m.functions →
    OnOk r (whole ≡ functions ++ line_bytes end) → OnOk r (whole ≡ start ++ lines_written (canonical names m))
module_written r names m start titled functions whole e f g =
    IfOk-equal r whole _ _ g (goes_on start _ _ _ (flat_map (λ h. lines_written (function_lines names m.functions h)) m.functions) _ e f
    ∙ ap (λ t. start ++ (line_bytes (title (atom_text names m.name.0) (decimal m.version)) ++ t))
    (ap (λ t. t ++ line_bytes end) (sym (lines_of_functions names m.functions m.functions)) ∙ sym (flat_map-append line_bytes (flat_map (function_lines names m.functions) m.functions) (end ∷ []))))

-- a module's functions have no more places than are marked
pub few_places : (m : Module) (fs : List Function) → fs ≡ m.functions → IsModule m → All (λ f. length f.code < 1025) fs
few_places m fs same is = subst (All (λ f. length f.code < 1025)) (sym same) (All-weaker (λ f. length f.code ≤ 1024) (λ f. length f.code < 1025) (λ f few. omega arith) _ (few_instrs m is))

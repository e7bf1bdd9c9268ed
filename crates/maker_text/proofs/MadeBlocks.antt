-- The loader blocks of a made script: how many functions their lines name.
use Rattle.std.proofs.Common.{◌≡◌, ℕ, ◌+◌, ◌≤◌, Bool, true, false, cond, List, [], ◌∷◌, ◌++◌, map, length, length-append, refl, ap, ◌∙◌, arith}
use Rattle.std.specs.Prelude.{fold}
use Rattle.std.specs.List.{list_any}
use Rattle.std.proofs.lemmas.List.Sums.{sum_by-cons}
use Rattle.term_core.specs.declared.atom.Mfa.{Mfa}
use Rattle.server_core.specs.Generations.{is_same_name}
use Rattle.script_core.specs.declared.script.ScriptCmd.{ScriptCmd}
use Rattle.script_core.specs.Processes.{spawn_count, spawns_in}
use Rattle.script_core.specs.declared.script.ScriptCmd.TheVariants.{Spawn}
use Rattle.script_text.specs.Canonical.{command_line}
use Rattle.script_text.specs.ScriptLine.{ScriptLine}
use Rattle.script_text.specs.Sets.{mfas_with}
use Rattle.script_text.proofs.FunctionNames.{functions_named, script_line_functions, home_after}

-- a command names a function where it is a spawn
one_counted : (home : List ℕ) (names : List (List ℕ)) (cmd : ScriptCmd) → length (script_line_functions home (command_line names cmd)) ≡ spawns_in cmd
one_counted home names (Spawn target args) = refl
one_counted home names cmd = refl

same_home : (home : List ℕ) (names : List (List ℕ)) (cmd : ScriptCmd) → home_after home (command_line names cmd) ≡ home
same_home home names (Spawn target args) = refl
same_home home names cmd = refl

pub functions_counted : (home : List ℕ) (names : List (List ℕ)) (cmds : List ScriptCmd) (more : List ScriptLine) → length (functions_named home (map (command_line names) cmds ++ more)) ≡ spawn_count cmds + length (functions_named home more)
functions_counted home names [] more = omega arith
functions_counted home names (cmd ∷ cmds) more =
    let line = command_line names cmd in
    let rest = map (command_line names) cmds ++ more in
    let behind = ap (λ (h : List ℕ). length (functions_named h rest)) (same_home home names cmd) ∙ functions_counted home names cmds more in
    omega (arith, length-append (script_line_functions home line) (functions_named (home_after home line) rest), one_counted home names cmd, behind, sum_by-cons spawns_in cmd cmds)

one_more : (fs : List Mfa) (f : Mfa) (t : Bool) → length (cond t fs (fs ++ f ∷ [])) ≤ length fs + 1
one_more fs f true = omega arith
one_more fs f false = omega (arith, length-append fs (f ∷ []))

-- there are no more different functions than functions
pub different : (fs gs : List Mfa) → length (fold mfas_with fs gs) ≤ length fs + length gs
different fs [] = omega arith
different fs (g ∷ gs) =
    let first = one_more fs g (list_any (is_same_name g) fs) in
    let rest = different (mfas_with fs g) gs in
    omega (arith, first, rest)

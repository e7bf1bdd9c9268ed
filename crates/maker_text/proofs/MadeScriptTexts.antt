-- The canonical text of a made script is a text of it: each command is told by its line, and few enough functions are named.
use Rattle.std.proofs.Common.{◌≡◌, ℕ, ◌+◌, ◌/◌, ◌≤◌, List, [], ◌∷◌, ◌++◌, map, length, length-append, ap, ◌∙◌, arith, lit≤, append_assoc, append-nil}
use Rattle.std.specs.List.{AllByRecursion, flat_map}
use Rattle.std.proofs.lemmas.List.{length-map}
use Rattle.mod_core.specs.declared.code.Module.{Module}
use Rattle.mod_text.specs.Canonical.{canonical as module_lines}
use Rattle.mod_text.specs.ModuleLine.{LineForm}
use Rattle.script_core.specs.declared.script.ScriptCmd.{ScriptCmd}
use Rattle.script_core.specs.Processes.{spawn_count}
use Rattle.script_maker.specs.MadeScript.{made_commands, made_names, made_script, made_versions, subject_of}
use Rattle.script_maker.proofs.MadeCommands.{at_most_32}
use Rattle.script_maker.proofs.MadeScripts.{made_script-IsScript}
use Rattle.script_text.specs.Canonical.{canonical, canonical_text, code_form, block_form, command_line}
use Rattle.script_text.specs.ScriptLine.{ScriptLine, go, head, loader}
use Rattle.script_text.specs.ScriptText.{ScriptText}
use Rattle.script_text.proofs.CanonicalScripts.{canonical_law}
use Rattle.script_text.proofs.Commands.{IsToldBy}
use Rattle.script_text.proofs.FunctionNames.{functions_named, functions_named-append, home_of, mfa_named, mfas_on}
use Rattle.maker_text.proofs.MadeBlocks.{different, functions_counted}
use Rattle.maker_text.proofs.MadeCommandLines.{IsSaidBy, commands_told}
use Rattle.maker_text.proofs.MadeLines.{IsBriefLine, block_brief, first_brief, second_brief}
use Rattle.maker_text.proofs.MadeNames.{names_in_order}
use Rattle.maker_text.proofs.MadeTexts.{made_text-within}
use Rattle.maker_text.proofs.MadeTitles.{first_told, made_refs, refs_apart, second_told}

-- the modules of each made script
abbrev made_modules : List Module
made_modules = made_versions (subject_of 0) ++ made_versions (subject_of 1)

-- their canonical lines
abbrev module_forms : List LineForm
module_forms = flat_map (module_lines made_names) made_modules

-- commands that are said by their lines, which are brief, are told
all_told : (cmds : List ScriptCmd) → AllByRecursion (IsSaidBy made_refs) cmds → AllByRecursion IsBriefLine (map (command_line made_names) cmds) → AllByRecursion (IsToldBy made_names made_modules) cmds
all_told [] said brief = tt
all_told (cmd ∷ cmds) said brief =
    let s = said.0 in (
      record { is = s.is; line = record { sound = s.sound; narrow = s.narrow; brief = s.brief; held = s.held; given = s.given }; says = s.again; lacks_feed = brief.0.lacks_feed },
      all_told cmds said.1 brief.1,
    )

module _ (seed size : ℕ) (fits : size ≤ 4000) where
  abbrev first : List ScriptCmd
  first = made_commands seed 0 ((size + 1) / 2)

  abbrev second : List ScriptCmd
  second = made_commands seed 1 (size / 2)

  first_are : AllByRecursion (IsToldBy made_names made_modules) first
  first_are = all_told first (commands_told made_refs seed 0 0 ((size + 1) / 2) first_told (omega (arith, fits))) (block_brief seed 0 ((size + 1) / 2) first_brief (omega (arith, fits))).each.1

  second_are : AllByRecursion (IsToldBy made_names made_modules) second
  second_are = all_told second (commands_told made_refs seed 1 0 (size / 2) second_told (omega (arith, fits))) (block_brief seed 1 (size / 2) second_brief (omega (arith, fits))).each.1

  -- the loader blocks up to the end
  behind_are : (block_form made_names first ++ (block_form made_names second ++ [])) ++ go ∷ [] ≡ loader ∷ (map (command_line made_names) first ++ (loader ∷ (map (command_line made_names) second ++ go ∷ [])))
  behind_are =
      append_assoc (block_form made_names first) (block_form made_names second ++ []) (go ∷ [])
      ∙ ap (λ (ls : List ScriptLine). block_form made_names first ++ (ls ++ go ∷ [])) (append-nil (block_form made_names second))

  few_functions : length (mfas_on made_names [] (functions_named [] (canonical (made_script seed size)))) ≤ 1024
  few_functions =
      let home = home_of [] (head ∷ code_form module_forms) in
      let front = functions_named [] (head ∷ code_form module_forms) in
      let blocks = (block_form made_names first ++ (block_form made_names second ++ [])) ++ go ∷ [] in
      let behind = functions_named home blocks in
      let parts : functions_named [] (canonical (made_script seed size)) ≡ front ++ behind = functions_named-append [] (head ∷ code_form module_forms) blocks in
      let told : length behind ≡ spawn_count first + (spawn_count second + 0) =
      ap (λ (ls : List ScriptLine). length (functions_named home ls)) behind_are
      ∙ functions_counted home made_names first (loader ∷ (map (command_line made_names) second ++ go ∷ []))
      ∙ ap (λ (n : ℕ). spawn_count first + n) (functions_counted home made_names second (go ∷ [])) in
      let of_modules : length front ≤ 48 = lit≤ tt in
      let all = functions_named [] (canonical (made_script seed size)) in
      omega (arith, different [] (map (mfa_named made_names) all), length-map all (mfa_named made_names), ap length parts, length-append front behind, of_modules, told, at_most_32 seed 0 ((size + 1) / 2), at_most_32 seed 1 (size / 2))

-- the canonical text of a made script is a text of it
pub made_text-reads : (seed size : ℕ) → size ≤ 4000 → ScriptText (canonical_text (made_script seed size)) (made_script seed size)
made_text-reads seed size fits =
    canonical_law (made_script seed size) (record { sound = made_script-IsScript seed size fits; told = (first_are seed size fits, (second_are seed size fits, tt)); apart = refs_apart })
    (names_in_order seed size) (few_functions seed size fits) (made_text-within seed size fits)

-- The canonical text of a made script first has its names in the order of the script's table.
use Rattle.std.proofs.Common.{◌≡◌, ℕ, zero, suc, ◌+◌, ◌/◌, ◌==◌, Bool, true, false, List, [], ◌∷◌, ◌++◌, map, refl, ap, ◌∙◌, codes}
use Rattle.std.proofs.lemmas.Grind.{flat_map-append}
use Rattle.std.specs.List.{flat_map, range_with_len}
use Rattle.term_core.specs.Names.{given_names, names_with}
use Rattle.term_core.specs.TermText.{atom_text, names_with_all}
use Rattle.mod_text.proofs.LineNames.{names_with_all-append}
use Rattle.mod_text.specs.Canonical.{canonical as module_lines}
use Rattle.script_core.specs.declared.script.ScriptCmd.{ScriptCmd}
use Rattle.script_core.specs.declared.script.ScriptCmd.TheVariants.{Trace}
use Rattle.script_maker.proofs.MadeCommands.{either}
use Rattle.script_maker.specs.declared.subject.Subject.{Subject}
use Rattle.script_maker.specs.Generator.{number_after, picked}
use Rattle.script_maker.specs.MadeScript.{command_at, made_command, made_commands, made_names, made_script, made_versions, spawns_at, subject_of, version_of}
use Rattle.script_text.specs.Canonical.{block_form, canonical, code_form, command_line}
use Rattle.script_text.specs.Counts.{counted_names, script_line_atoms}
use Rattle.script_text.specs.ScriptLine.{ScriptLine, go}

-- lines that name nothing new
abbrev NamesNothing : List ScriptLine → Type 0
NamesNothing lines = names_with_all made_names (flat_map script_line_atoms lines) ≡ made_names

-- lines behind others
nothing_joined : (xs ys : List ScriptLine) → NamesNothing xs → NamesNothing ys → NamesNothing (xs ++ ys)
nothing_joined xs ys p q =
    ap (names_with_all made_names) (flat_map-append script_line_atoms xs ys)
    ∙ names_with_all-append made_names (flat_map script_line_atoms xs) (flat_map script_line_atoms ys)
    ∙ ap (λ names. names_with_all names (flat_map script_line_atoms ys)) p ∙ q

-- a subject that is named
record IsNamedSubject (about : Subject) : Type 0 where
  module_known : names_with made_names (atom_text made_names about.«module».0) ≡ made_names
  key_known : names_with made_names (atom_text made_names about.key.0) ≡ made_names

first_named : IsNamedSubject (subject_of 0)
first_named = record { module_known = refl; key_known = refl }

second_named : IsNamedSubject (subject_of 1)
second_named = record { module_known = refl; key_known = refl }

abbrev IsKnown : ScriptCmd → Type 0
IsKnown cmd = names_with_all made_names (script_line_atoms (command_line made_names cmd)) ≡ made_names

-- a module and a function of it
called : (about : Subject) (name : List ℕ) → IsNamedSubject about → names_with made_names name ≡ made_names → names_with_all made_names (atom_text made_names about.«module».0 ∷ name ∷ []) ≡ made_names
called about name is known = ap (λ names. names_with names name) is.module_known ∙ known

command_known : (about : Subject) (place number : ℕ) → IsNamedSubject about → IsKnown (made_command about place number)
command_known about place number is =
    let traced : (on : Bool) → IsKnown (Trace (version_of about) on) = λ on. called about (codes "ver") is refl in
    either IsKnown (place == 0) _ _ is.module_known
    (either IsKnown (spawns_at place) _ _ (called about (codes "main") is refl)
    (either IsKnown (picked number == 0) _ _ is.module_known
    (either IsKnown (picked number == 1) _ _ is.module_known
    (either IsKnown (picked number == 2) _ _ is.module_known
    (either IsKnown (picked number == 3) _ _ is.key_known
    (either IsKnown (picked number == 4) _ _ is.key_known
    (either IsKnown (picked number == 5) _ _ (traced true) (traced false))))))))

-- the commands of a loader name nothing new
commands_known : (seed turn a n : ℕ) → IsNamedSubject (subject_of turn) → NamesNothing (map (command_line made_names) (map (command_at seed turn) (range_with_len a n)))
commands_known seed turn a zero is = refl
commands_known seed turn a (suc n) is =
    let cmd = command_at seed turn a in
    let rest = map (command_line made_names) (map (command_at seed turn) (range_with_len (a + 1) n)) in
    names_with_all-append made_names (script_line_atoms (command_line made_names cmd)) (flat_map script_line_atoms rest)
    ∙ ap (λ names. names_with_all names (flat_map script_line_atoms rest)) (command_known (subject_of turn) a (number_after seed turn (a + 1)) is)
    ∙ commands_known seed turn (a + 1) n is

-- the modules name all
modules_name : names_with_all given_names (flat_map script_line_atoms (code_form (flat_map (module_lines made_names) (made_versions (subject_of 0) ++ made_versions (subject_of 1))))) ≡ made_names
modules_name = refl

-- the names of the canonical text
pub names_in_order : (seed size : ℕ) → counted_names (canonical (made_script seed size)) ≡ made_names
names_in_order seed size =
    let first = block_form made_names (made_commands seed 0 ((size + 1) / 2)) in
    let second = block_form made_names (made_commands seed 1 (size / 2)) in
    let modules = code_form (flat_map (module_lines made_names) (made_versions (subject_of 0) ++ made_versions (subject_of 1))) in
    let none : NamesNothing [] = refl in
    let end : NamesNothing (go ∷ []) = refl in
    let one : NamesNothing first = commands_known seed 0 0 ((size + 1) / 2) first_named in
    let two : NamesNothing second = commands_known seed 1 0 (size / 2) second_named in
    let blocks = nothing_joined (first ++ (second ++ [])) (go ∷ []) (nothing_joined first (second ++ []) one (nothing_joined second [] two none)) end in
    let behind = (first ++ (second ++ [])) ++ go ∷ [] in
    ap (names_with_all given_names) (flat_map-append script_line_atoms modules behind)
    ∙ names_with_all-append given_names (flat_map script_line_atoms modules) (flat_map script_line_atoms behind)
    ∙ ap (λ names. names_with_all names (flat_map script_line_atoms behind)) modules_name ∙ blocks

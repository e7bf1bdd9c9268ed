-- The lines of a made script's canonical text: each is brief, and how many there are.
use Rattle.std.proofs.Common.{ℕ, zero, suc, ◌+◌, ◌*◌, ◌<◌, ◌≤◌, ◌==◌, Bool, true, false, List, [], ◌∷◌, ◌++◌, map, length, length-append, codes, refl, arith, lit<, lit≤}
use Rattle.std.proofs.lemmas.List.{length-map}
use Rattle.std.specs.Fmt.{decimal}
use Rattle.std.specs.List.{AllByRecursion, flat_map, range_with_len}
use Rattle.term_core.specs.TermText.{atom_text}
use Rattle.mod_text.specs.Canonical.{canonical as module_lines}
use Rattle.mod_text.specs.ModuleLine.{LineForm, line_written}
use Rattle.script_core.specs.declared.script.ScriptCmd.{ScriptCmd}
use Rattle.script_core.specs.declared.script.ScriptCmd.TheVariants.{Spawn, Trace}
use Rattle.term_core.proofs.Lists.{each_append}
use Rattle.script_maker.proofs.MadeCommands.{either}
use Rattle.script_maker.specs.declared.subject.Subject.{Subject}
use Rattle.script_maker.specs.Generator.{number_after, picked}
use Rattle.script_maker.specs.MadeScript.{command_at, made_command, command_of_kind, made_load, made_commands, made_module, made_names, main_of, put_by_maker, spawns_at, subject_of, version_at, version_of}
use Rattle.script_text.specs.Canonical.{block_form, code_form, command_line}
use Rattle.script_text.specs.ScriptLine.{ScriptLine, code, script_line_written}
use Rattle.maker_text.proofs.BriefTexts.{IsBrief, brief_behind, brief_both, brief_line, brief_number, brief_parted, brief_word}

-- a line of at most a hundred bytes
abbrev pub IsBriefLine : ScriptLine → Type 0
IsBriefLine line = IsBrief (script_line_written line) 100

abbrev IsBriefCode : LineForm → Type 0
IsBriefCode line = IsBrief (line_written line) 100

-- lines, each brief, and at most so many
pub record AreBrief {X : Type 0} (P : X → Type 0) (lines : List X) (most : ℕ) : Type 0 where
  pub each : AllByRecursion P lines
  pub few : length lines ≤ most

pub both_brief : {X : Type 0} (P : X → Type 0) (xs ys : List X) (m n : ℕ) → AreBrief P xs m → AreBrief P ys n → AreBrief P (xs ++ ys) (m + n)
both_brief P xs ys m n p q = record { each = each_append P xs ys p.each q.each; few = omega (arith, length-append xs ys, p.few, q.few) }

-- ---- modules

-- a subject whose texts are brief
pub record IsBriefSubject (about : Subject) : Type 0 where
  pub module_text : IsBrief (atom_text made_names about.«module».0) 2
  pub key_text : IsBrief (atom_text made_names about.key.0) 2

pub first_brief : IsBriefSubject (subject_of 0)
first_brief = record { module_text = record { short = lit≤ tt; lacks_feed = refl }; key_text = record { short = lit≤ tt; lacks_feed = refl } }

pub second_brief : IsBriefSubject (subject_of 1)
second_brief = record { module_text = record { short = lit≤ tt; lacks_feed = refl }; key_text = record { short = lit≤ tt; lacks_feed = refl } }

-- a small number
digits : (n : ℕ) → n < 1000 → IsBrief (decimal n) 6
digits n small = brief_number n (omega (arith, small))

-- `ver/0`, `$1`
version_text : IsBrief (codes "ver" ++ 47 ∷ decimal 0) 27
version_text = brief_parted (codes "ver") (decimal 0) 47 20 6 refl (brief_word (codes "ver") refl) (digits 0 (lit< tt))

-- the lines of a version
pub module_brief : (about : Subject) (version : ℕ) → IsBriefSubject about → version < 1000 → AreBrief IsBriefCode (module_lines made_names (made_module about version)) 12
module_brief about version is small =
    let name = atom_text made_names about.«module».0 in
    let key = atom_text made_names about.key.0 in
    let call = brief_parted name (codes "ver" ++ 47 ∷ decimal 0) 58 2 27 refl is.module_text version_text in
    let at = brief_behind 36 (decimal 1) 6 refl (digits 1 (lit< tt)) in
    let to = brief_behind 36 (decimal 2) 6 refl (digits 2 (lit< tt)) in
    let again = brief_behind 36 (decimal 0) 6 refl (digits 0 (lit< tt)) in
    let goal_label = brief_behind 108 (decimal 0) 6 refl (digits 0 (lit< tt)) in
    let look = brief_parted key (decimal 0 ++ 32 ∷ 36 ∷ decimal 2) 32 2 14 refl is.key_text (brief_parted (decimal 0) (36 ∷ decimal 2) 32 6 7 refl (digits 0 (lit< tt)) to) in
    let sum = brief_parted (decimal 0) (decimal 1 ++ 32 ∷ 36 ∷ decimal 0) 32 6 14 refl (digits 0 (lit< tt)) (brief_parted (decimal 1) (36 ∷ decimal 0) 32 6 7 refl (digits 1 (lit< tt)) again) in
    let test = brief_parted (decimal 0) (decimal 8 ++ 32 ∷ 108 ∷ decimal 0) 32 6 14 refl (digits 0 (lit< tt)) (brief_parted (decimal 8) (108 ∷ decimal 0) 32 6 7 refl (digits 8 (lit< tt)) goal_label) in
    record {
      each = (
        brief_line (codes "module ") (name ++ 46 ∷ decimal version) 9 refl (lit≤ tt) (brief_parted name (decimal version) 46 2 6 refl is.module_text (digits version small)),
        (
          brief_line (codes "export main/") (decimal 0) 6 refl (lit≤ tt) (digits 0 (lit< tt)),
          (
            brief_line (codes "label l") (decimal 0) 6 refl (lit≤ tt) (digits 0 (lit< tt)),
            (
              brief_line (codes "call_ext ") ((name ++ 58 ∷ (codes "ver" ++ 47 ∷ decimal 0)) ++ 32 ∷ 36 ∷ decimal 1) 38 refl (lit≤ tt) (brief_parted (name ++ 58 ∷ (codes "ver" ++ 47 ∷ decimal 0)) (36 ∷ decimal 1) 32 30 7 refl call at),
              (
                brief_line (codes "print $") (decimal 1) 6 refl (lit≤ tt) (digits 1 (lit< tt)),
                (
                  brief_line (codes "pget_or ") (key ++ 32 ∷ (decimal 0 ++ 32 ∷ 36 ∷ decimal 2)) 17 refl (lit≤ tt) look,
                  (
                    brief_line (codes "yield") [] 0 refl (lit≤ tt) (record { short = lit≤ tt; lacks_feed = refl }),
                    (
                      brief_line (codes "add $") (decimal 0 ++ 32 ∷ (decimal 1 ++ 32 ∷ 36 ∷ decimal 0)) 21 refl (lit≤ tt) sum,
                      (
                        brief_line (codes "less $") (decimal 0 ++ 32 ∷ (decimal 8 ++ 32 ∷ 108 ∷ decimal 0)) 21 refl (lit≤ tt) test,
                        (
                          brief_line (codes "export ver/") (decimal 0) 6 refl (lit≤ tt) (digits 0 (lit< tt)),
                          (
                            brief_line (codes "ret ") (decimal version) 6 refl (lit≤ tt) (digits version small),
                            (
                              brief_line (codes "end") [] 0 refl (lit≤ tt) (record { short = lit≤ tt; lacks_feed = refl }),
                              tt,
                            ),
                          ),
                        ),
                      ),
                    ),
                  ),
                ),
              ),
            ),
          ),
        ),
      );
      few = lit≤ tt;
    }

-- the lines of versions in a row
pub versions_brief : (about : Subject) (a n : ℕ) → IsBriefSubject about → a + n < 1000 → AreBrief IsBriefCode (flat_map (module_lines made_names) (map (made_module about) (range_with_len a n))) (n * 12)
versions_brief about a zero is fits = record { each = tt; few = lit≤ tt }
versions_brief about a (suc n) is fits =
    let both = both_brief IsBriefCode (module_lines made_names (made_module about a)) (flat_map (module_lines made_names) (map (made_module about) (range_with_len (a + 1) n))) 12 (n * 12) (module_brief about a is (omega (arith, fits))) (versions_brief about (a + 1) n is (omega (arith, fits))) in
    record { each = both.each; few = omega (arith, both.few) }

-- as lines of a script
pub code_brief : (lines : List LineForm) (most : ℕ) → AreBrief IsBriefCode lines most → AreBrief IsBriefLine (code_form lines) most
code_brief lines most brief = record { each = each_code lines brief.each; few = omega (arith, length-map lines code, brief.few) }
  where
    each_code : (ls : List LineForm) → AllByRecursion IsBriefCode ls → AllByRecursion IsBriefLine (code_form ls)
    each_code [] h = tt
    each_code (line ∷ ls) h = (h.0, each_code ls h.1)

-- ---- commands

abbrev IsBriefCommand : ScriptCmd → Type 0
IsBriefCommand cmd = IsBriefLine (command_line made_names cmd)

load_brief : (about : Subject) (version : ℕ) → IsBriefSubject about → version < 1000 → IsBriefCommand (made_load about version)
load_brief about version is small =
    let name = atom_text made_names about.«module».0 in
    brief_line (codes "load ") ((name ++ 46 ∷ decimal version) ++ []) 9 refl (lit≤ tt)
    (brief_both (name ++ 46 ∷ decimal version) [] 9 0 (brief_parted name (decimal version) 46 2 6 refl is.module_text (digits version small)) (record { short = lit≤ tt; lacks_feed = refl }))

trace_brief : (about : Subject) (on : Bool) → IsBriefSubject about → IsBriefCommand (Trace (version_of about) on)
trace_brief about true is =
    let name = atom_text made_names about.«module».0 in
    brief_line (codes "trace ") ((name ++ 58 ∷ (codes "ver" ++ 47 ∷ decimal 0)) ++ 32 ∷ codes "on") 51 refl (lit≤ tt)
    (brief_parted (name ++ 58 ∷ (codes "ver" ++ 47 ∷ decimal 0)) (codes "on") 32 30 20 refl (brief_parted name (codes "ver" ++ 47 ∷ decimal 0) 58 2 27 refl is.module_text version_text) (brief_word (codes "on") refl))
trace_brief about false is =
    let name = atom_text made_names about.«module».0 in
    brief_line (codes "trace ") ((name ++ 58 ∷ (codes "ver" ++ 47 ∷ decimal 0)) ++ 32 ∷ codes "off") 51 refl (lit≤ tt)
    (brief_parted (name ++ 58 ∷ (codes "ver" ++ 47 ∷ decimal 0)) (codes "off") 32 30 20 refl (brief_parted name (codes "ver" ++ 47 ∷ decimal 0) 58 2 27 refl is.module_text version_text) (brief_word (codes "off") refl))

spawn_brief : (about : Subject) → IsBriefSubject about → IsBriefCommand (Spawn (main_of about) [])
spawn_brief about is =
    let name = atom_text made_names about.«module».0 in
    brief_line (codes "spawn ") (name ++ 58 ∷ codes "main()") 23 refl (lit≤ tt) (brief_parted name (codes "main()") 58 2 20 refl is.module_text (brief_word (codes "main()") refl))

put_brief : (about : Subject) (place version : ℕ) → IsBriefSubject about → place < 4000 → version < 1000 → IsBriefCommand (put_by_maker about place version)
put_brief about place version is below small =
    let key = atom_text made_names about.key.0 in
    let none : IsBrief [] 0 = record { short = lit≤ tt; lacks_feed = refl } in
    let last = brief_behind 44 (decimal version ++ []) 6 refl (brief_both (decimal version) [] 6 0 (digits version small) none) in
    let parts = brief_both (decimal place) (44 ∷ (decimal version ++ [])) 6 7 (brief_number place (omega (arith, below))) last in
    let whole = brief_behind 123 ((decimal place ++ 44 ∷ (decimal version ++ [])) ++ 125 ∷ []) 14 refl (brief_parted (decimal place ++ 44 ∷ (decimal version ++ [])) [] 125 13 0 refl parts none) in
    brief_line (codes "put ") (key ++ 32 ∷ 123 ∷ ((decimal place ++ 44 ∷ (decimal version ++ [])) ++ 125 ∷ [])) 18 refl (lit≤ tt)
    (brief_parted key (123 ∷ ((decimal place ++ 44 ∷ (decimal version ++ [])) ++ 125 ∷ [])) 32 2 15 refl is.key_text whole)

kind_brief : (about : Subject) (place kind : ℕ) → IsBriefSubject about → place < 4000 → IsBriefCommand (command_of_kind about place kind)
kind_brief about place kind is below =
    let name = atom_text made_names about.«module».0 in
    let key = atom_text made_names about.key.0 in
    let turn : version_at place < 1000 = omega arith in
    either IsBriefCommand (kind == 0) _ _ (load_brief about (version_at place) is turn)
    (either IsBriefCommand (kind == 1) _ _ (brief_line (codes "soft_purge ") name 2 refl (lit≤ tt) is.module_text)
    (either IsBriefCommand (kind == 2) _ _ (brief_line (codes "check_old ") name 2 refl (lit≤ tt) is.module_text)
    (either IsBriefCommand (kind == 3) _ _ (put_brief about place (version_at place) is below turn)
    (either IsBriefCommand (kind == 4) _ _ (brief_line (codes "erase ") key 2 refl (lit≤ tt) is.key_text)
    (either IsBriefCommand (kind == 5) _ _ (trace_brief about true is) (trace_brief about false is))))))

command_brief : (about : Subject) (place number : ℕ) → IsBriefSubject about → place < 4000 → IsBriefCommand (made_command about place number)
command_brief about place number is below =
    either IsBriefCommand (place == 0) _ _ (load_brief about 1 is (lit< tt))
    (either IsBriefCommand (spawns_at place) _ _ (spawn_brief about is) (kind_brief about place (picked number) is below))

commands_from : (seed turn a n : ℕ) → IsBriefSubject (subject_of turn) → a + n ≤ 4000 → AreBrief IsBriefLine (map (command_line made_names) (map (command_at seed turn) (range_with_len a n))) n
commands_from seed turn a zero is fits = record { each = tt; few = lit≤ tt }
commands_from seed turn a (suc n) is fits =
    let rest = commands_from seed turn (a + 1) n is (omega (arith, fits)) in
    record { each = (command_brief (subject_of turn) a (number_after seed turn (a + 1)) is (omega (arith, fits)), rest.each); few = omega (arith, rest.few) }

-- the lines of a loader block
pub block_brief : (seed turn count : ℕ) → IsBriefSubject (subject_of turn) → count ≤ 4000 → AreBrief IsBriefLine (block_form made_names (made_commands seed turn count)) (count + 1)
block_brief seed turn count is fits =
    let commands = commands_from seed turn 0 count is (omega (arith, fits)) in
    record { each = (record { short = lit≤ tt; lacks_feed = refl }, commands.each); few = omega (arith, commands.few) }

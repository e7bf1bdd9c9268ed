-- The canonical text of a made script is within the limits, since its lines are brief and few.
use Rattle.std.proofs.Common.{◌≡◌, ℕ, ◌+◌, ◌*◌, ◌/◌, ◌<◌, ◌≤◌, ◌||◌, true, false, List, [], ◌∷◌, ◌++◌, map, length, length-append, IsTrue, ⊎_elim, refl, sym, ap, ◌∙◌, subst, arith, lit<, lit≤}
use Rattle.std.proofs.lemmas.Bool.{le-ltb}
use Rattle.std.specs.List.{AllByRecursion, flat_map, list_any}
use Rattle.mod_text.specs.Canonical.{canonical as module_lines}
use Rattle.term_core.specs.Text.Cuts.{Lines, lines_of_text}
use Rattle.term_core.proofs.Text.Cuts.{lacks}
use Rattle.script_maker.specs.MadeScript.{made_commands, made_names, made_script, made_versions, subject_of}
use Rattle.script_text.specs.Canonical.{IsTooLongToPrint, block_form, canonical, canonical_text, code_form, is_long_line, script_line_bytes}
use Rattle.script_text.specs.ScriptLine.{ScriptLine, go, script_line_written}
use Rattle.script_text.proofs.PrintedText.{lines_of_bytes}
use Rattle.std.proofs.lemmas.Grind.{flat_map-append}
use Rattle.mod_text.specs.ModuleLine.{line_written}
use Rattle.maker_text.proofs.BriefTexts.{IsBrief}
use Rattle.maker_text.proofs.MadeLines.{AreBrief, IsBriefLine, block_brief, both_brief, code_brief, first_brief, second_brief, versions_brief}

-- brief lines have few bytes
few_bytes : (lines : List ScriptLine) → AllByRecursion IsBriefLine lines → length (flat_map script_line_bytes lines) ≤ 101 * length lines
few_bytes [] each = lit≤ tt
few_bytes (line ∷ lines) each =
    let here = length-append (script_line_written line) (10 ∷ []) in
    let all = length-append (script_line_bytes line) (flat_map script_line_bytes lines) in
    omega (arith, here, all, each.0.short, few_bytes lines each.1)

lack_feeds : (lines : List ScriptLine) → AllByRecursion IsBriefLine lines → AllByRecursion (λ line. lacks 10 (script_line_written line) ≡ true) lines
lack_feeds [] each = tt
lack_feeds (line ∷ lines) each = (each.0.lacks_feed, lack_feeds lines each.1)

none_long : (lines : List ScriptLine) → AllByRecursion IsBriefLine lines → list_any is_long_line (map script_line_written lines) ≡ false
none_long [] each = refl
none_long (line ∷ lines) each =
    let here : is_long_line (script_line_written line) ≡ false = le-ltb 4096 (length (script_line_written line)) (omega (arith, each.0.short)) in
    ap (λ b. b || list_any is_long_line (map script_line_written lines)) here ∙ none_long lines each.1

-- the lines of the modules
modules_brief : AreBrief IsBriefLine (code_form (flat_map (module_lines made_names) (made_versions (subject_of 0) ++ made_versions (subject_of 1)))) 192
modules_brief =
    let both = both_brief _ (flat_map (module_lines made_names) (made_versions (subject_of 0))) (flat_map (module_lines made_names) (made_versions (subject_of 1))) 96 96 (versions_brief (subject_of 0) 1 8 first_brief (lit< tt)) (versions_brief (subject_of 1) 1 8 second_brief (lit< tt)) in
    code_brief (flat_map (module_lines made_names) (made_versions (subject_of 0) ++ made_versions (subject_of 1))) 192
    (subst (λ ls. AreBrief (λ line. IsBrief (line_written line) 100) ls 192) (sym (flat_map-append (module_lines made_names) (made_versions (subject_of 0)) (made_versions (subject_of 1)))) both)

-- the lines of the whole text
lines_brief : (seed size : ℕ) → size ≤ 4000 → AreBrief IsBriefLine (canonical (made_script seed size)) 5000
lines_brief seed size fits =
    let first = block_form made_names (made_commands seed 0 ((size + 1) / 2)) in
    let second = block_form made_names (made_commands seed 1 (size / 2)) in
    let codes_of = code_form (flat_map (module_lines made_names) (made_versions (subject_of 0) ++ made_versions (subject_of 1))) in
    let none : AreBrief IsBriefLine [] 0 = record { each = tt; few = lit≤ tt } in
    let end : AreBrief IsBriefLine (go ∷ []) 1 = record { each = (record { short = lit≤ tt; lacks_feed = refl }, tt); few = lit≤ tt } in
    let one = block_brief seed 0 ((size + 1) / 2) first_brief (omega (arith, fits)) in
    let two = block_brief seed 1 (size / 2) second_brief (omega (arith, fits)) in
    let blocks = both_brief IsBriefLine first (second ++ []) _ _ one (both_brief IsBriefLine second [] _ _ two none) in
    let behind = both_brief IsBriefLine codes_of ((first ++ (second ++ [])) ++ go ∷ []) _ _ modules_brief (both_brief IsBriefLine (first ++ (second ++ [])) (go ∷ []) _ _ blocks end) in
    record { each = (record { short = lit≤ tt; lacks_feed = refl }, behind.each); few = omega (arith, fits, behind.few) }

-- neither the text nor a line of it is too long
pub made_text-within : (seed size : ℕ) → size ≤ 4000 → IsTooLongToPrint (made_script seed size) → ⊥
made_text-within seed size fits long =
    let forms = canonical (made_script seed size) in
    let brief = lines_brief seed size fits in
    let bytes = few_bytes forms brief.each in
    let lines = lines_of_bytes forms (lack_feeds forms brief.each) in
    ⊎_elim (λ (h : 1048576 < length (canonical_text (made_script seed size))). omega (arith, h, bytes, brief.few))
    (λ (h : IsTrue (list_any is_long_line (lines_of_text (canonical_text (made_script seed size))).ended)). let none = ap (λ (w : Lines). list_any is_long_line w.ended) lines ∙ none_long forms brief.each in cc)
    long

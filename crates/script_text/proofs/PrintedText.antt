-- How the text of a script is made of its parts, and whether a line of a text is too long.
use Rattle.std.proofs.Common.{◌≡◌, ℕ, true, List, [], ◌∷◌, ◌++◌, map, refl, sym, ap, ◌∙◌, append_assoc, ◌≤◌}
use Rattle.std.proofs.Common.{false, ◌||◌, length, take, codes, decimal, Result, OnOk, Some, None}
use Rattle.script_text.proofs.Common.{AllByRecursion, flat_map, list_any, flat_map-append, take_all, IfOk-equal, Texts}
use Rattle.script_text.proofs.Types.{Module, Term, ModRef, Script, ScriptCmd}
use Rattle.mod_text.specs.Canonical.{canonical as module_lines}
use Rattle.script_text.proofs.Modules.{LineForm, line_bytes, lines_written}
use Rattle.script_text.proofs.Texts.{Lines, lines, lines_of_text, cut_at, lacks, lines_behind, lines_of_cut, lines_of_tail, uncut_is, LackLineFeed}
use Rattle.script_text.proofs.Texts.{plain, row_of, term_text, parted, behind}
use Rattle.script_text.proofs.Forms.{ScriptLine, code, script_line_written, observer, load, go, ref_written, code_form, script_line_bytes, ref_form}
use Rattle.script_text.proofs.Forms.{term_form, command_line, observer_form, block_form, observer_bytes, block_bytes, canonical_text, is_long_line}
use Rattle.std.proofs.lemmas.List.Folds.{flat_map-map}

pub lack_of_forms : (forms : List ScriptLine) → LackLineFeed (map script_line_written forms) → AllByRecursion (λ line. lacks 10 (script_line_written line) ≡ true) forms
lack_of_forms [] h = tt
lack_of_forms (line ∷ forms) h = (h.0, lack_of_forms forms h.1)

-- the lines of the bytes of lines
pub lines_of_bytes : (forms : List ScriptLine) → AllByRecursion (λ line. lacks 10 (script_line_written line) ≡ true) forms → lines_of_text (flat_map script_line_bytes forms) ≡ lines (map script_line_written forms) []
lines_of_bytes [] h = refl
lines_of_bytes (line ∷ forms) h =
    let text = script_line_written line in
    ap lines_of_text (append_assoc text _ _) ∙ lines_behind text _ h.0 ∙ ap (λ (w : Lines). lines (text ∷ w.ended) w.tail) (lines_of_bytes forms h.1)

-- the bytes of lines of module texts
pub codes_bytes : (codes : List LineForm) (more : List ScriptLine) → flat_map script_line_bytes (code_form codes ++ more) ≡ lines_written codes ++ flat_map script_line_bytes more
codes_bytes [] more = refl
codes_bytes (line ∷ codes) more =
    ap (λ (l : List ℕ). script_line_bytes (code line) ++ l) (codes_bytes codes more) ∙ sym (append_assoc (script_line_bytes (code line)) (lines_written codes) (flat_map script_line_bytes more))

module _ (names : Texts) where
  -- the bytes of the canonical lines of modules
  pub modules_written : (ms : List Module) → lines_written (flat_map (module_lines names) ms) ≡ flat_map (λ m. lines_written (module_lines names m)) ms
  modules_written [] = refl
  modules_written (m ∷ ms) = flat_map-append line_bytes (module_lines names m) (flat_map (module_lines names) ms) ∙ ap (λ (l : List ℕ). lines_written (module_lines names m) ++ l) (modules_written ms)

  -- ---- how the text of a script is made of its parts, and whether a line of a text is too long

  -- ---- fronts

  -- ---- parts

  -- the text of a load
  pub load_written : (refs : List ModRef) → script_line_written (load (map (ref_form names) refs)) ≡ codes "load" ++ flat_map (λ r. 32 ∷ ref_written (ref_form names r)) refs
  load_written refs = ap (λ (t : List ℕ). codes "load" ++ t) (flat_map-map (λ r. 32 ∷ ref_written r) _ refs)

  -- the text of a loader block
  pub block_written : (commands : List ScriptCmd) → block_bytes names commands ≡ codes "loader\n" ++ flat_map (λ command. script_line_bytes (command_line names command)) commands
  block_written commands = ap (λ (t : List ℕ). codes "loader\n" ++ t) (flat_map-map script_line_bytes (command_line names) commands)

  behind_written : (terms : List Term) → behind (row_of (map (term_form names) (map plain terms))) ≡ flat_map (λ term. 44 ∷ term_text names term) terms
  behind_written [] = refl
  behind_written (t ∷ terms) = ap (λ (l : List ℕ). 44 ∷ term_text names t ++ l) (behind_written terms)

  -- the text of terms: the first, and the others with a comma before each
  pub terms_written : (terms others : List Term) (first : Term) → terms ≡ first ∷ others → parted (row_of (map (term_form names) (map plain terms))) ≡ term_text names first ++ flat_map (λ term. 44 ∷ term_text names term) others
  terms_written terms others first e =
      ap (λ (ts : List Term). parted (row_of (map (term_form names) (map plain ts)))) e ∙ ap (λ (l : List ℕ). term_text names first ++ l) (behind_written _)

  blocks_bytes : (loaders : List (List ScriptCmd)) → flat_map script_line_bytes (flat_map (block_form names) loaders) ≡ flat_map (block_bytes names) loaders
  blocks_bytes [] = refl
  blocks_bytes (commands ∷ loaders) = flat_map-append script_line_bytes (block_form names commands) (flat_map (block_form names) loaders) ∙ ap (λ (l : List ℕ). block_bytes names commands ++ l) (blocks_bytes loaders)

  -- the text of observers, of loader blocks and of the end
  others_bytes : (counts : List ℕ) (loaders : List (List ScriptCmd)) → flat_map script_line_bytes (observer_form counts ++ (flat_map (block_form names) loaders ++ go ∷ [])) ≡ flat_map observer_bytes counts ++ (flat_map (block_bytes names) loaders ++ codes "go\n")
  others_bytes counts loaders =
      let blocks = flat_map (block_form names) loaders in
      flat_map-append script_line_bytes (observer_form counts) (blocks ++ go ∷ [])
      ∙ (λ i. flat_map-map script_line_bytes (λ count. observer (decimal count)) counts i ++ flat_map-append script_line_bytes blocks (go ∷ []) i)
      ∙ ap (λ (l : List ℕ). flat_map observer_bytes counts ++ (l ++ codes "go\n")) (blocks_bytes _)

-- the text of a script: the head, the modules, the observers, the loader blocks and the end
pub script_written : (s : Script) → canonical_text s ≡ codes "beam script 1\n" ++ (flat_map (λ m. lines_written (module_lines s.names m)) s.modules ++ (flat_map observer_bytes s.observers ++ (flat_map (block_bytes s.names) s.loaders ++ codes "go\n")))
script_written s =
    let blocks = flat_map (block_form s.names) s.loaders in
    ap (λ (l : List ℕ). codes "beam script 1\n" ++ l) (codes_bytes (flat_map (module_lines s.names) s.modules) (observer_form s.observers ++ (blocks ++ go ∷ [])))
    ∙ (λ i. codes "beam script 1\n" ++ (modules_written s.names s.modules i ++ others_bytes s.names s.observers s.loaders i))

-- ---- long lines

-- the line at the front is long, or another is
pub any_long : (rest : List ℕ) (line behind : List ℕ) → cut_at 10 rest ≡ Some (line, behind) → list_any is_long_line (lines_of_text rest).ended ≡ (is_long_line line || list_any is_long_line (lines_of_text behind).ended)
any_long rest line behind cut = ap (λ (w : Lines). list_any is_long_line w.ended) (lines_of_cut rest _ cut)

-- where there is no line, none is long
pub none_long : (rest : List ℕ) → cut_at 10 rest ≡ None → list_any is_long_line (lines_of_text rest).ended ≡ false
none_long rest uncut = ap (λ (w : Lines). list_any is_long_line w.ended) (lines_of_tail rest (uncut_is 10 rest uncut))

-- ---- ends

-- a load of which all modules are written
pub load_at : (names : Texts) (refs : List ModRef) (i : ℕ) (start out : List ℕ) → out ≡ (start ++ codes "load") ++ flat_map (λ r. 32 ∷ ref_written (ref_form names r)) (take i refs) → length refs ≤ i → out ≡ start ++ script_line_written (load (map (ref_form names) refs))
load_at names refs i start out so_far past =
    so_far ∙ ap (λ (rs : List ModRef). (start ++ codes "load") ++ flat_map (λ r. 32 ∷ ref_written (ref_form names r)) rs) (take_all i refs past)
    ∙ append_assoc start _ _ ∙ ap (λ (t : List ℕ). start ++ t) (sym (load_written names refs))

-- a block of which all commands are written
pub block_at : (names : Texts) (commands : List ScriptCmd) (i : ℕ) (start out : List ℕ) → out ≡ (start ++ codes "loader\n") ++ flat_map (λ command. script_line_bytes (command_line names command)) (take i commands) → length commands ≤ i → out ≡ start ++ block_bytes names commands
block_at names commands i start out so_far past =
    so_far
    ∙ ap (λ (cs : List ScriptCmd). (start ++ codes "loader\n") ++ flat_map (λ command. script_line_bytes (command_line names command)) cs) (take_all i _ past)
    ∙ append_assoc start _ _ ∙ ap (λ (t : List ℕ). start ++ t) (sym (block_written names _))

regroup : (start a b c d e : List ℕ) → ((((start ++ a) ++ b) ++ c) ++ d) ++ e ≡ start ++ (a ++ (b ++ (c ++ (d ++ e))))
regroup start a b c d e = simp append_assoc

-- a script of which all parts are written
pub script_at : {T E : Type 0} (r : Result T E) (s : Script) (start headed moduled observed loaded whole : List ℕ) →
    headed ≡ start ++ codes "beam script 1\n" →
    moduled ≡ headed ++ flat_map (λ m. lines_written (module_lines s.names m)) s.modules →
    observed ≡ moduled ++ flat_map observer_bytes s.observers →
    loaded ≡ observed ++ flat_map (block_bytes s.names) s.loaders →
    OnOk r (whole ≡ loaded ++ codes "go\n") → OnOk r (whole ≡ start ++ canonical_text s)
script_at r s start headed moduled observed loaded whole e f g h k =
    let modules = flat_map (λ m. lines_written (module_lines s.names m)) s.modules in
    let observers = flat_map observer_bytes s.observers in
    let loaders = flat_map (block_bytes s.names) s.loaders in
    IfOk-equal r whole _ _ k
    (ap (λ (t : List ℕ). t ++ codes "go\n") (h ∙ ap (λ (t : List ℕ). t ++ loaders) (g ∙ ap (λ (t : List ℕ). t ++ observers) (f ∙ ap (λ (t : List ℕ). t ++ modules) e)))
    ∙ regroup start _ _ _ _ _ ∙ ap (λ (t : List ℕ). start ++ t) (sym (script_written s)))

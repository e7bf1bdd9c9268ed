-- The canonical lines of the module that lines say name the same as those lines.
use Rattle.std.proofs.Common.{◌≡◌, ℕ, suc, ◌+◌, Bool, true, false, cond, List, [], ◌∷◌, ◌++◌, map, decimal, Option, Some}
use Rattle.std.proofs.Common.{None, is_none, option_map, refl, sym, ap, ◌∙◌, subst, append_assoc, append-nil}
use Rattle.script_text.proofs.Common.{AllByRecursion, flat_map, list_any, and_parts, Texts}
use Rattle.script_text.proofs.Texts.{is_atom_text, atom_text, number_in, number_value, HasNumber}
use Rattle.mod_core.specs.declared.code.Instr.{Instr}
use Rattle.script_text.proofs.Types.{LineFault}
use Rattle.script_text.proofs.Modules.{label_text, written_instr, goes_to, labels_at, lines_from, function_lines, canonical, is_open, may_follow}
use Rattle.script_text.proofs.Modules.{last_line, has_high_register, has_wide_integer, names_after, InstrForm, LineForm, title, header, label, instr}
use Rattle.script_text.proofs.Modules.{end, is_line_form, FollowOn, FunctionForm, HeaderForm, body_of}
use Rattle.script_text.proofs.Modules.{functions_in, headers_in, instrs_in, instr_in, function_in, module_of, IsTitled}
use Rattle.script_text.proofs.Modules.{unsettled_at, unsettled_below, earlier, first_unsettled, unsettled_line, last_line-push, head_of}
use Rattle.script_text.proofs.ModuleNames.{HaveHeld, held_body}
use Rattle.script_text.proofs.TermLines.{atom_again, version_again, arity_again}
use Rattle.script_text.proofs.Alike.{AreAlike, alike_same, alike_back, alike_then, alike_append, alike_label, alike_labels, alike_line}
use Rattle.script_text.proofs.AlikeInstrs.{IsGoodInstr, instr_like}
use Rattle.script_text.proofs.TextLines.{IsClosed, titled, held_behind, have_held_in, unmapped}
use Rattle.mod_text.specs.declared.fault.LineFault.TheVariants as faults

-- ---- what the lines behind a title have

-- a line of its form, with no integer that is too wide
record IsSoundLine (line : LineForm) : Type 0 where
  form : is_line_form line ≡ true
  narrow : has_wide_integer line ≡ false

abbrev AreSound : List LineForm → Type 0
AreSound lines = AllByRecursion IsSoundLine lines

-- the lines behind a title: the end is the last, and stands there alone
abbrev IsRest : List LineForm → Type 0
IsRest [] = ⊥
IsRest (title name version ∷ lines) = ⊥
IsRest (end ∷ lines) = lines ≡ []
IsRest (line ∷ lines) = IsRest lines

nothing_behind : (names : Texts) (before lines : List LineForm) → last_line before ≡ Some end → FollowOn names before lines → lines ≡ []
nothing_behind names before [] last follow = refl
nothing_behind names before (line ∷ lines) last follow = absurd (never line (sym (ap (λ (l : Option LineForm). may_follow l line) last) ∙ follow.0.stands.place))
  where
    never : (l : LineForm) → may_follow (Some end) l ≡ true → ⊥
    never (title name version) h = cc
    never l h = cc

closed_open : (last : LineForm) → ◌≡◌ {A = Option LineForm} (Some last) (Some end) → is_open (Some last) ≡ true → ⊥
closed_open (title name version) same opened = cc
closed_open last same opened = cc

closed_behind : (before lines : List LineForm) (line : LineForm) → last_line (before ++ line ∷ lines) ≡ Some end → last_line ((before ++ line ∷ []) ++ lines) ≡ Some end
closed_behind before lines line closed = ap last_line (append_assoc before (line ∷ []) lines) ∙ closed

rest_of : (names : Texts) (before lines : List LineForm) (last : LineForm) → last_line before ≡ Some last → is_open (Some last) ≡ true → FollowOn names before lines → last_line (before ++ lines) ≡ Some end → IsRest lines
rest_of names before [] last is opened follow closed = closed_open last (sym is ∙ ap last_line (sym (append-nil before)) ∙ closed) opened
rest_of names before (title name version ∷ lines) last is opened follow closed =
    let no : is_none (Some last) ≡ true = sym (ap is_none is) ∙ follow.0.stands.place in
    absurd cc
rest_of names before (end ∷ lines) last is opened follow closed = nothing_behind _ _ lines (last_line-push before end) follow.1
rest_of names before (line ∷ lines) last is opened follow closed = rest_of (names_after names line) (before ++ line ∷ []) lines line (last_line-push before line) refl follow.1 (closed_behind before lines line closed)

-- what a function's lines begin with stands behind its header only
no_instrs : (lines : List LineForm) (names : Texts) (name version : List ℕ) → FollowOn names (title name version ∷ []) lines → instrs_in (body_of lines) ≡ []
no_instrs (label n ∷ lines) names name version follow = let place = follow.0.stands.place in absurd cc
no_instrs (instr i ∷ lines) names name version follow = let place = follow.0.stands.place in absurd cc
no_instrs lines names name version follow = refl

narrow_by : (high wide : Bool) (rest : Option LineFault) → cond high (Some faults.Register) (cond wide (Some faults.Int) rest) ≡ None → wide ≡ false
narrow_by true wide rest none = absurd cc
narrow_by false true rest none = absurd cc
narrow_by false false rest none = refl

sound_of : (names : Texts) (before lines : List LineForm) → FollowOn names before lines → AreSound lines
sound_of names before [] follow = tt
sound_of names before (line ∷ lines) follow = (record { form = follow.0.stands.is_text.sound; narrow = narrow_by (has_high_register line) (has_wide_integer line) _ follow.0.within }, sound_of (names_after names line) (before ++ line ∷ []) lines follow.1)

sound_body : (lines : List LineForm) → AreSound lines → AreSound (body_of lines)
sound_body (label name ∷ lines) h = (h.0, sound_body lines h.1)
sound_body (instr i ∷ lines) h = (h.0, sound_body lines h.1)
sound_body lines h = tt

-- ---- instructions

both_none : (first later : Option ℕ) → earlier first later ≡ None → (first ≡ None) × (later ≡ None)
both_none None later none = (refl, none)
both_none (Some n) later none = absurd cc

settled_first : (t : Bool) (o : Option ℕ) → cond t (option_map suc o) (Some 0) ≡ None → (t ≡ true) × (o ≡ None)
settled_first true o none = (refl, unmapped suc o none)
settled_first false o none = absurd cc

good_instrs : (names : Texts) (hs : List HeaderForm) (body lines : List LineForm) → AreSound lines → HaveHeld names lines → unsettled_at hs body lines ≡ None → AllByRecursion (IsGoodInstr names hs body) (instrs_in lines)
good_instrs names hs body [] sound held none = tt
good_instrs names hs body (instr i ∷ lines) sound held none =
    let p = settled_first _ _ none in
    (record { sound = sound.0.form; narrow = sound.0.narrow; held = held.0; settled = p.0 }, good_instrs names hs body lines sound.1 held.1 p.1)
good_instrs names hs body (line ∷ lines) sound held none = good_instrs names hs body lines sound.1 held.1 (settled_first true _ none).1

-- instructions as lines
abbrev instr_lines : List InstrForm → List LineForm
instr_lines is = map (λ i. instr i) is

module _ (names : Texts) (hs : List HeaderForm) (forms : List FunctionForm) (are : hs ≡ map head_of forms) where
  instr_alike : (body : List LineForm) (i : InstrForm) → IsGoodInstr names hs body i → AreAlike (instr (written_instr names (map (function_in names hs) forms) (instr_in names hs body i)) ∷ []) (instr i ∷ [])
  instr_alike body i g =
      let like = instr_like names hs forms body i are g in
      alike_line _ _ (record { atoms = like.atoms; homes = λ home. refl; functions = λ home. like.functions })

  -- the lines of code name what its instructions do
  code_alike : (body : List LineForm) (code : List Instr) (number : ℕ) (is : List InstrForm) → AllByRecursion (IsGoodInstr names hs body) is → AreAlike (lines_from names (map (function_in names hs) forms) code number (map (instr_in names hs body) is)) (instr_lines is)
  code_alike body code number [] good =
      subst (λ (ls : List LineForm). AreAlike ls []) (append-nil (labels_at code number)) (alike_labels (list_any (goes_to number) code) (label_text number) [] [] (alike_same []))
  code_alike body code number (i ∷ is) good =
      let fs = map (function_in names hs) forms in
      let first = instr (written_instr names fs (instr_in names hs body i)) in
      let rest = lines_from names fs code (number + 1) (map (instr_in names hs body) is) in
      alike_labels (list_any (goes_to number) code) (label_text number) (first ∷ rest) (instr i ∷ instr_lines is)
      (alike_append (first ∷ []) (instr i ∷ []) rest (instr_lines is) (instr_alike body i good.0) (code_alike body code (number + 1) is good.1))

  -- ---- functions

  -- the lines of functions to the end
  abbrev to_end : List FunctionForm → List LineForm
  to_end fs = flat_map (function_lines names (map (function_in names hs) forms)) (map (function_in names hs) fs) ++ end ∷ []

  header_alike : (exported : Bool) (name arity : List ℕ) → is_line_form (header exported name arity) ≡ true → HasNumber names name → AreAlike (header exported (atom_text names (number_in names name)) (decimal (number_value arity)) ∷ []) (header exported name arity ∷ [])
  header_alike exported name arity sound held =
      let n = atom_again names name held in
      let a = arity_again arity (and_parts _ _ sound).1 in
      subst (λ (line : LineForm). AreAlike (line ∷ []) (header exported name arity ∷ [])) (λ k. header exported (sym n k) (sym a k)) (alike_same (header exported name arity ∷ []))

  rest_alike : (lines : List LineForm) → IsRest lines → AreSound lines → HaveHeld names lines → first_unsettled hs lines ≡ None → AreAlike (instr_lines (instrs_in (body_of lines)) ++ to_end (functions_in lines)) lines
  rest_alike [] rest sound held none = absurd rest
  rest_alike (title name version ∷ lines) rest sound held none = absurd rest
  rest_alike (header exported name arity ∷ lines) rest sound held none =
      let fs = map (function_in names hs) forms in
      let body = body_of lines in
      let p = both_none (unsettled_below hs (header exported name arity) lines) (first_unsettled hs lines) (unmapped suc _ none) in
      let first = header exported (atom_text names (number_in names name)) (decimal (number_value arity)) in
      let code = map (instr_in names hs body) (instrs_in body) in
      let own = lines_from names fs code 0 code in
      let good = good_instrs names hs body body (sound_body lines sound.1) (held_body names lines held.1) p.0 in
      let later : AreAlike (own ++ to_end (functions_in lines)) lines =
      alike_then (own ++ to_end (functions_in lines)) (instr_lines (instrs_in body) ++ to_end (functions_in lines)) lines
      (alike_append own (instr_lines (instrs_in body)) (to_end (functions_in lines)) (to_end (functions_in lines)) (code_alike body code 0 (instrs_in body) good) (alike_same (to_end (functions_in lines))))
      (rest_alike lines rest sound.1 held.1 p.1) in
      subst (λ (ls : List LineForm). AreAlike ls (header exported name arity ∷ lines)) (sym (append_assoc (first ∷ own) (flat_map (function_lines names fs) (map (function_in names hs) (functions_in lines))) (end ∷ [])))
      (alike_append (first ∷ []) (header exported name arity ∷ []) (own ++ to_end (functions_in lines)) lines (header_alike exported name arity sound.0.form held.0.0) later)
  rest_alike (label name ∷ lines) rest sound held none =
      alike_then (instr_lines (instrs_in (body_of lines)) ++ to_end (functions_in lines)) lines (label name ∷ lines)
      (rest_alike lines rest sound.1 held.1 (both_none None (first_unsettled hs lines) (unmapped suc _ none)).1) (alike_back (label name ∷ lines) lines (alike_label name lines))
  rest_alike (instr i ∷ lines) rest sound held none =
      alike_append (instr i ∷ []) (instr i ∷ []) (instr_lines (instrs_in (body_of lines)) ++ to_end (functions_in lines)) lines (alike_same (instr i ∷ []))
      (rest_alike lines rest sound.1 held.1 (both_none None (first_unsettled hs lines) (unmapped suc _ none)).1)
  rest_alike (end ∷ lines) rest sound held none = subst (λ (ls : List LineForm). AreAlike (to_end (functions_in ls)) (end ∷ ls)) (sym rest) (alike_same (end ∷ []))

-- ---- modules

title_alike : (names : Texts) (name version : List ℕ) → is_line_form (title name version) ≡ true → HasNumber names name → AreAlike (title (atom_text names (number_in names name)) (decimal (number_value version)) ∷ []) (title name version ∷ [])
title_alike names name version sound held =
    let n = atom_again names name held in
    let v = version_again version (and_parts (is_atom_text name) _ sound).1 in
    subst (λ (line : LineForm). AreAlike (line ∷ []) (title name version ∷ [])) (λ k. title (sym n k) (sym v k)) (alike_same (title name version ∷ []))

text_alike : (names before : Texts) (text : List LineForm) → IsTitled text → FollowOn before [] text → last_line text ≡ Some end → HaveHeld names text → unsettled_line text ≡ None → AreAlike (canonical names (module_of names text)) text
text_alike names before (title name version ∷ lines) t follow closed held none =
    let first = title name version in
    let hs = headers_in lines in
    let after = names_after before first in
    let rest = rest_of after (first ∷ []) lines first refl refl follow.1 closed in
    let more = rest_alike names hs (functions_in lines) refl lines rest (sound_of after (first ∷ []) lines follow.1) held.1 (both_none None (first_unsettled hs lines) (unmapped suc _ none)).1 in
    let ends = to_end names hs (functions_in lines) refl (functions_in lines) in
    let behind : AreAlike ends lines = subst (λ (is : List InstrForm). AreAlike (instr_lines is ++ ends) lines) (no_instrs lines after name version follow.1) more in
    alike_append (title (atom_text names (number_in names name)) (decimal (number_value version)) ∷ []) (first ∷ []) ends lines (title_alike names name version follow.0.stands.is_text.sound held.0.0) behind
text_alike names before text t follow closed held none = absurd t

module _ (names : Texts) (text : List LineForm) (c : IsClosed names text) where
  -- the atoms of a closed text are held
  pub text_held : HaveHeld names text
  text_held = have_held_in _ names text c.among (held_behind _ text)

  -- the canonical lines of the module that a text says name what the text names
  pub module_alike : unsettled_line text ≡ None → AreAlike (canonical names (module_of names text)) text
  module_alike none = text_alike names c.before text (titled c.before text end c.follow c.closed) c.follow c.closed text_held none

-- The canonical text of a module is a text of that module: its lines stand in a row, and none of them has a fault or a new name.
use Rattle.std.proofs.Common.{◌≡◌, ℕ, ◌+◌, ◌<◌, ◌≤◌, ◌^◌, Bool, true, false, cond, nat_lt, List, [], ◌∷◌, ◌++◌}
use Rattle.std.proofs.Common.{length, map, decimal, Option, Some, None, bytes_eq, slice_get, All, refl, sym, ap, ◌∙◌}
use Rattle.std.proofs.Common.{subst, arith, append_assoc, length-append, suc, option_map, slice_index_or}
use Rattle.mod_text.proofs.Common.{fold-append, list_any, flat_map, and_from, le-ltb, lt-leb, append-nil, length-map}
use Rattle.mod_text.proofs.Common.{map-append, All-head, All-tail, All-weaker, slice_get_within, list_any_at, Texts}
use Rattle.mod_text.proofs.Texts.{IsNames, atom_text, slice_get-append, failed, decimal-writes}
use Rattle.mod_text.proofs.Types.{Instr, Function, Module}
use Rattle.mod_text.proofs.Forms.{label_text, written_instr, goes_to, labels_at, lines_from}
use Rattle.mod_text.proofs.Forms.{function_lines, canonical, is_open, is_in_function, may_follow, last_line}
use Rattle.mod_text.proofs.Forms.{has_high_register, has_wide_integer, has_long_term, names_after}
use Rattle.mod_text.proofs.Forms.{open_labels, labels_after, is_seventeenth, is_repeated, place_fault, IsNext}
use Rattle.mod_text.proofs.Forms.{ends_too_long, InstrForm, LineForm, title, header, label, instr, end}
use Rattle.mod_text.proofs.Forms.{is_line_form, line_written, lines_written, FollowOn}
use Rattle.mod_text.proofs.Forms.{names_behind, ModuleText, HeaderForm, headers_in, is_header}
use Rattle.mod_text.proofs.Forms.{label_number, function_in, module_of, first_unsettled}
use Rattle.mod_text.proofs.Keepings.{headers_in-append, last_line-push}
use Rattle.term_core.proofs.Lists.{any_map}
use Rattle.mod_text.proofs.CanonicalParts.{list_any-none, held_atom, no_new_name, version_writes, label_form, atom_back}
use Rattle.mod_text.proofs.CanonicalInstrs.{IsInstrBack, name_form, HasTargets, instr_back}
use Rattle.mod_text.proofs.CanonicalValue.{lines_are_body, headers_in-body, in_function-body, NewFrom, new_label, label_number-lines}
use Rattle.mod_text.proofs.CanonicalValue.{slice_get-behind, IsNamed, header_form, AreApart, other_header, are_called, own_lines}
use Rattle.mod_text.proofs.CanonicalValue.{IsFunctionBack, functions_back, headers_are, functions_are, all_settled}
use Rattle.mod_core.specs.HeldNames.{IsModuleHeld}
use Rattle.mod_core.specs.Module.{IsModule}
use Rattle.mod_core.specs.ModuleImage.{module_image}
use Rattle.mod_core.proofs.ImageWords.{few_instrs}
use Rattle.mod_text.specs.declared.fault.LineFault.TheVariants as faults

-- ---- one line

-- a line alone has its form, passes no limit and adds no name
pub record IsPlain (names : Texts) (line : LineForm) : Type 0 where
  pub sound : is_line_form line ≡ true
  pub low : has_high_register line ≡ false
  pub narrow : has_wide_integer line ≡ false
  pub short : has_long_term line ≡ false
  pub known : names_after names line ≡ names

-- ---- lines in a row

-- each of these lines may come next behind those before it, and adds no name
abbrev pub AreNext : Texts → List LineForm → List LineForm → Type 0
AreNext names before [] = Unit {0}
AreNext names before (line ∷ lines) = IsNext names before (line_written line) line × (names_after names line ≡ names) × AreNext names (before ++ line ∷ []) lines

module _ (names : Texts) where
  pub title_plain : (atom version : ℕ) → IsNames names → atom < length names → 1 ≤ version → version ≤ 999999 → IsPlain names (title (atom_text names atom) (decimal version))
  title_plain atom version sound held least greatest =
      let h = held_atom names atom sound held in
      record { sound = and_from _ _ h.form (version_writes _ least greatest); low = refl; narrow = refl; short = refl; known = no_new_name names _ atom h }

  header_plain : (f : Function) → IsNames names → IsNamed names f → IsPlain names (header f.exported (atom_text names f.name.0) (decimal f.arity))
  header_plain f sound named = record {
    sound = name_form names f.name.0 f.arity sound named.held named.few;
    low = refl;
    narrow = refl;
    short = refl;
    known = no_new_name names (atom_text names f.name.0) f.name.0 (held_atom names f.name.0 sound named.held);
  }

  label_plain : (number : ℕ) → number < 2 ^ 64 → IsPlain names (label (label_text number))
  label_plain number small = record { sound = label_form _ small; low = refl; narrow = refl; short = refl; known = refl }

  pub instr_plain : (headers : List HeaderForm) (body : List LineForm) (form : InstrForm) (i : Instr) → IsInstrBack names headers body form i → IsPlain names (instr form)
  instr_plain headers body form i back = record { sound = back.sound; low = back.low; narrow = back.narrow; short = back.short; known = back.known }

  pub end_plain : IsPlain names end
  end_plain = record { sound = refl; low = refl; narrow = refl; short = refl; known = refl }

  -- such a line may come next where it may stand and passes no limit by the lines before it
  pub is_next : (before : List LineForm) (line : LineForm) → IsNames names → IsPlain names line → may_follow (last_line before) line ≡ true → place_fault names before line ≡ None → IsNext names before (line_written line) line
  is_next before line sound plain place none =
      record {
        stands = record { is_text = record { text_is = refl; sound = plain.sound }; place = place };
        within =
            failed _ _ _ plain.low ∙ failed _ _ _ plain.narrow ∙ failed _ _ _ plain.short
            ∙ failed _ _ _ (ap (λ ns. nat_lt 4096 (length ns)) plain.known ∙ le-ltb 4096 _ sound.room) ∙ none;
      }

  pub next-append : (before xs ys : List LineForm) → AreNext names before xs → AreNext names (before ++ xs) ys → AreNext names before (xs ++ ys)
  next-append before [] ys first second = subst (λ b. AreNext names b ys) (append-nil _) second
  next-append before (x ∷ xs) ys first second = (first.0, first.1, next-append _ xs ys first.2 (subst (λ b. AreNext names b ys) (sym (append_assoc _ _ xs)) second))

  pub follow_on : (before lines : List LineForm) → AreNext names before lines → FollowOn names before lines
  follow_on before [] next = tt
  follow_on before (line ∷ lines) next = (next.0, subst (λ ns. FollowOn ns (before ++ line ∷ []) lines) (sym next.1) (follow_on _ lines next.2))

  pub same_names : (before lines : List LineForm) → AreNext names before lines → names_behind names lines ≡ names
  same_names before [] next = refl
  same_names before (line ∷ lines) next = ap (λ ns. names_behind ns lines) next.1 ∙ same_names (before ++ line ∷ []) lines next.2

  -- ---- bodies

  label_rows : (number : ℕ) (t : Bool) (before rest : List LineForm) → IsNames names → number < 2 ^ 64 → is_in_function (last_line before) ≡ true → NewFrom number (open_labels before) → ((after : List LineForm) → is_in_function (last_line after) ≡ true → NewFrom (number + 1) (open_labels after) → AreNext names after rest) → AreNext names before (cond t (label (label_text number) ∷ []) [] ++ rest)
  label_rows number true before rest sound small place new more =
      let line = label (label_text number) in
      let next = is_next before line sound (label_plain number small) place (failed (list_any (bytes_eq (label_text number)) (open_labels before)) (Some faults.Duplicate) None (new number (omega arith) small)) in
      (next, refl, more (before ++ line ∷ []) (ap is_in_function (last_line-push before line)) (subst (NewFrom (number + 1)) (sym (fold-append labels_after [] before (line ∷ []))) (new_label number (open_labels before) small new)))
  label_rows number false before rest sound small place new more = more before place (λ later less fits. new later (omega arith) fits)

-- an instruction's line is plain
abbrev pub IsPlainInstr : Texts → List Function → Instr → Type 0
IsPlainInstr names fs i = IsPlain names (instr (written_instr names fs i))

-- ---- functions

-- the lines of a function are plain
pub record IsPlainFunction (names : Texts) (fs : List Function) (f : Function) : Type 0 where
  pub named : IsNamed names f
  pub short : length f.code < 2 ^ 64
  pub code : All (IsPlainInstr names fs) f.code

open_by : (o : Option LineForm) → is_in_function o ≡ true → is_open o ≡ true
open_by (Some (header exported name arity)) h = refl
open_by (Some (label name)) h = refl
open_by (Some (instr i)) h = refl
open_by o h = absurd cc

module _ (names : Texts) (fs : List Function) where
  body_rows : (code : List Instr) (number : ℕ) (is : List Instr) (before : List LineForm) → IsNames names → number + length is < 2 ^ 64 → All (IsPlainInstr names fs) is → is_in_function (last_line before) ≡ true → NewFrom number (open_labels before) → AreNext names before (lines_from names fs code number is)
  body_rows code number [] before sound small plain place new =
      subst (AreNext names before) (append-nil (labels_at code number)) (label_rows names number (list_any (goes_to number) code) before [] sound (omega arith) place new (λ after opened later. tt))
  body_rows code number (i ∷ is) before sound small plain place new =
      let line = instr (written_instr names fs i) in
      let alone = All-head (IsPlainInstr names fs) i is plain in
      label_rows names number (list_any (goes_to number) code) before (line ∷ lines_from names fs code (number + 1) is) sound (omega arith) place new
      (λ after opened later. (
        is_next names after line sound alone opened refl,
        alone.known,
        body_rows code (number + 1) is (after ++ line ∷ []) sound (omega arith) (All-tail (IsPlainInstr names fs) i is plain) (ap is_in_function (last_line-push after line)) (subst (NewFrom (number + 1)) (sym (fold-append labels_after [] after (line ∷ []))) later),
      ))

  function_rows : (f : Function) (before : List LineForm) → IsNames names → IsPlainFunction names fs f → is_open (last_line before) ≡ true → length (headers_in before) < 16 → list_any (is_header (atom_text names f.name.0) (decimal f.arity)) (headers_in before) ≡ false → AreNext names before (function_lines names fs f)
  function_rows f before sound plain opened few new =
      let line = header f.exported (atom_text names f.name.0) (decimal f.arity) in
      let alone = header_plain names f sound plain.named in
      let none : place_fault names before line ≡ None =
      failed (is_seventeenth before line) (Some faults.TooManyFunctions) (cond (is_repeated before line) (Some faults.Duplicate) None) (lt-leb 16 (length (headers_in before)) few)
      ∙ failed (is_repeated before line) (Some faults.Duplicate) None new in
      let empty : open_labels (before ++ line ∷ []) ≡ [] = fold-append labels_after [] before (line ∷ []) in (
        is_next names before line sound alone opened none,
        alone.known,
        body_rows f.code 0 f.code (before ++ line ∷ []) sound (omega (arith, plain.short)) plain.code (ap is_in_function (last_line-push before line)) (subst (NewFrom 0) (sym empty) (λ later less fits. refl)),
      )

  -- behind a function the module is open
  open_behind : (f : Function) (before : List LineForm) → is_open (last_line (before ++ function_lines names fs f)) ≡ true
  open_behind f before =
      let line = header f.exported (atom_text names f.name.0) (decimal f.arity) in
      let body = lines_from names fs f.code 0 f.code in
      ap (λ ls. is_open (last_line ls)) (sym (append_assoc before (line ∷ []) body))
      ∙ open_by (last_line ((before ++ line ∷ []) ++ body)) (in_function-body (before ++ line ∷ []) body (lines_are_body names fs f.code 0 f.code) (ap is_in_function (last_line-push before line)))

  -- and the functions before are one more
  headers_behind : (done : List Function) (f : Function) (before : List LineForm) → headers_in before ≡ map (header_form names) done → headers_in (before ++ function_lines names fs f) ≡ map (header_form names) (done ++ f ∷ [])
  headers_behind done f before are =
      let body = lines_from names fs f.code 0 f.code in
      let none : headers_in body ≡ [] = ap headers_in (sym (append-nil body)) ∙ headers_in-body body [] (lines_are_body names fs f.code 0 f.code) in
      headers_in-append before (function_lines names fs f) ∙ (λ j. are j ++ header_form names f ∷ none j) ∙ sym (map-append (header_form names) done _)

  -- the lines of functions stand in a row behind those of the functions before
  pub functions_rows : (done gs : List Function) (before : List LineForm) → IsNames names → AreApart fs → All (IsNamed names) fs → length fs ≤ 16 → fs ≡ done ++ gs → All (IsPlainFunction names fs) gs → is_open (last_line before) ≡ true → headers_in before ≡ map (header_form names) done → AreNext names before (flat_map (function_lines names fs) gs)
  functions_rows done [] before sound apart named few whole plain opened are = tt
  functions_rows done (g ∷ gs) before sound apart named few whole plain opened are =
      let test = is_header (atom_text names g.name.0) (decimal g.arity) in
      let room : length (headers_in before) < 16 = omega (arith, ap length are, length-map done (header_form names), ap length whole, length-append done (g ∷ gs)) in
      let here : slice_get fs (length done) ≡ Some g = ap (λ l. slice_get l (length done)) whole ∙ slice_get-behind done g gs in
      let new : list_any test (headers_in before) ≡ false =
      ap (list_any test) are ∙ any_map test (header_form names) done ∙ list_any-none (λ f. test (header_form names f)) done (λ j f there.
      let less = slice_get_within done j f there in
      other_header names fs j (length done) f g sound apart named less (ap (λ l. slice_get l j) whole ∙ slice_get-append done (g ∷ gs) j less ∙ there) here) in
      next-append names before (function_lines names fs g) (flat_map (function_lines names fs) gs)
      (function_rows g before sound (All-head (IsPlainFunction names fs) g gs plain) opened room new)
      (functions_rows (done ++ g ∷ []) gs (before ++ function_lines names fs g) sound apart named few (whole ∙ sym (append_assoc done (g ∷ []) gs)) (All-tail (IsPlainFunction names fs) g gs plain) (open_behind g before) (headers_behind done g before are))

  -- behind the lines of functions the module is still open
  pub open_behind_all : (gs : List Function) (before : List LineForm) → is_open (last_line before) ≡ true → is_open (last_line (before ++ flat_map (function_lines names fs) gs)) ≡ true
  open_behind_all [] before opened = ap (λ ls. is_open (last_line ls)) (append-nil before) ∙ opened
  open_behind_all (g ∷ gs) before opened =
      ap (λ ls. is_open (last_line ls)) (sym (append_assoc before (function_lines names fs g) (flat_map (function_lines names fs) gs)))
      ∙ open_behind_all gs (before ++ function_lines names fs g) (open_behind g before)

-- ---- the canonical text of a module is a text of that module

-- ---- code is short

short_codes : (m : Module) → IsModule m → All (λ f. length f.code < 2 ^ 64) m.functions
short_codes m is = All-weaker (λ f. length f.code ≤ 1024) (λ f. length f.code < 2 ^ 64) (λ f few. omega arith) _ (few_instrs m is)

-- ---- functions

module _ (names : Texts) where
  -- the labels of a function name the targets of its instructions
  targets_named : (fs : List Function) (f : Function) (k : ℕ) (d : Instr) → length f.code < 2 ^ 64 → k < length f.code → HasTargets (own_lines names fs f) (length f.code) (slice_index_or f.code k d)
  targets_named fs f k d short within target past goes =
      let same : 0 + target ≡ target = omega arith in
      let among : list_any (goes_to target) f.code ≡ true = list_any_at _ _ k d within goes in
      subst (λ n. label_number (label_text n) (own_lines names fs f) ≡ Some target) same (label_number-lines names fs f.code 0 _ _ (omega arith) past (ap (λ n. list_any (goes_to n) f.code) same ∙ among))

  functions_named : (m : Module) → IsModule m → IsModuleHeld names m → All (IsNamed names) m.functions
  functions_named m is held k d within = record { held = (held.functions k d within).name; few = (is.functions k d within).arity }

  -- each function of a module comes back
  all_back : (m : Module) → IsNames names → IsModule m → IsModuleHeld names m → All (IsFunctionBack names m.functions (map (header_form names) m.functions)) m.functions
  all_back m sound is held k d within =
      let fs = m.functions in
      let f = slice_index_or fs k d in
      let headers = map (header_form names) fs in
      let named = functions_named m is held in
      let short = short_codes m is k d within in
      record {
        named = named k d within;
        short = short;
        code = λ j e inside. instr_back names headers (own_lines names fs f) fs (length f.code) sound short (are_called names fs sound is.apart named) (slice_index_or f.code j e)
            ((is.functions k d within).code j e inside) ((held.functions k d within).code j e inside) (targets_named fs f j e short inside);
      }

  plain_function : (fs : List Function) (headers : List HeaderForm) (f : Function) → IsFunctionBack names fs headers f → IsPlainFunction names fs f
  plain_function fs headers f back = record {
    named = back.named;
    short = back.short;
    code = λ j e inside. instr_plain names headers (own_lines names fs f) _ (slice_index_or f.code j e) (back.code j e inside);
  }

  -- ---- the module

  headers_of_canonical : (m : Module) → headers_in (canonical names m) ≡ map (header_form names) m.functions
  headers_of_canonical m = headers_are names _ _

  -- the canonical lines of a module say it
  value_back : (m : Module) → IsNames names → IsModule m → IsModuleHeld names m → module_of names (canonical names m) ≡ m
  value_back m sound is held =
      let fs = m.functions in
      let headers = map (header_form names) fs in
      let greatest : m.version ≤ 999999 = is.greatest_version in
      let w = decimal-writes m.version (omega (arith, greatest)) in
      let functions = (λ j. map (function_in names (headers_of_canonical m j)) (functions_are names fs fs j)) ∙ functions_back names fs headers fs sound (all_back m sound is held) in
      λ j. record { name = atom_back names m.name sound held.name j; version = w.value j; functions = functions j }

  rows_of_canonical : (m : Module) → IsNames names → IsModule m → IsModuleHeld names m → AreNext names [] (canonical names m)
  rows_of_canonical m sound is held =
      let fs = m.functions in
      let headers = map (header_form names) fs in
      let first = title (atom_text names m.name.0) (decimal m.version) in
      let lines = flat_map (function_lines names fs) fs in
      let alone = title_plain names m.name.0 m.version sound held.name is.least_version is.greatest_version in
      let back = all_back m sound is held in
      let plain = All-weaker (IsFunctionBack names fs headers) (IsPlainFunction names fs) (plain_function fs headers) fs back in
      let middle = functions_rows names fs [] fs (first ∷ []) sound is.apart (functions_named m is held) is.few refl plain refl refl in
      let fits : ends_too_long names (first ∷ lines) end ≡ false = ap (λ x. nat_lt 1024 (length (module_image x))) (value_back m sound is held) ∙ le-ltb 1024 (length (module_image m)) is.short in
      let last = is_next names (first ∷ lines) end sound (end_plain names) (open_behind_all names fs fs (first ∷ []) refl) (failed (ends_too_long names (first ∷ lines) end) (Some faults.TooLong) None fits) in
      (is_next names [] first sound alone refl refl, alone.known, next-append names (first ∷ []) lines (end ∷ []) middle (last, refl, tt))

  -- the canonical text of a module is a text of it, and names no new atom
  pub canonical_is_text : (m : Module) → IsNames names → IsModule m → IsModuleHeld names m → ModuleText names (lines_written (canonical names m)) m names
  canonical_is_text m sound is held =
      let fs = m.functions in
      let headers = map (header_form names) fs in
      let first = title (atom_text names m.name.0) (decimal m.version) in
      let rows = rows_of_canonical m sound is held in
      let settled : first_unsettled headers (canonical names m) ≡ None = ap (option_map suc) (all_settled names fs headers fs (all_back m sound is held)) in
      record {
        lines = canonical names m;
        spelled = refl;
        faultless = follow_on names [] (canonical names m) rows;
        closed = last_line-push (first ∷ flat_map (function_lines names fs) fs) end;
        settled = ap (λ hs. first_unsettled hs (canonical names m)) (headers_of_canonical m) ∙ settled;
        named = sym (same_names names [] (canonical names m) rows);
        value = sym (value_back m sound is held);
      }

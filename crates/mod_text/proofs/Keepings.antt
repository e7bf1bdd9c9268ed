-- What a reader keeps after one line more.
use Rattle.mod_text.proofs.Common.{fold-append, ◌≡◌, ℕ, ◌<◌, ◌≤◌, length-append, Bool, true, false, cond, List, [], ◌∷◌}
use Rattle.mod_text.proofs.Common.{◌++◌, length, Option, Some, None, Result, Ok, Err, bytes_eq, refl, sym, Texts}
use Rattle.mod_text.proofs.Common.{ap, ◌∙◌, subst, arith, All, OnOk, IfErr, is_err, Bor}
use Rattle.mod_text.proofs.Common.{list_any, append-nil, length-map, map-append, All-push}
use Rattle.std.specs.Prelude.{not, nat_le, unwrap_or}
use Rattle.term_core.proofs.Lists.{any_map}
use Rattle.mod_text.proofs.Types.{LineFault}
use Rattle.mod_text.specs.declared.written.WrittenLine.{WrittenLine}
use Rattle.mod_text.specs.LineViews.{line_form, text_form, form_of, forms_of, headers_of, words_of}
use Rattle.mod_text.specs.declared.fault.LineFault.TheVariants as faults
use Rattle.mod_text.proofs.Forms.{LineForm, header, label, end, HeaderForm, headers_in, line_split}
use Rattle.mod_text.proofs.Forms.{line_reading, may_follow, last_line, has_high_register, has_wide_integer}
use Rattle.mod_text.proofs.Forms.{has_long_term, line_atoms, names_after, overfills_names, labels_after}
use Rattle.mod_text.proofs.Forms.{open_labels, ends_too_long, place_fault, IsKept, RowFrom}
use Rattle.mod_text.proofs.Forms.{AreKept, naming, judged_behind, judged_alone, keeping_by, keeping}
use Rattle.mod_text.proofs.Forms.{lines_words, Step, kept, judged, line_step, Fails, Gives}
use Rattle.mod_text.proofs.LineLaws.{soundly}
use Rattle.mod_text.proofs.LineNames.{too_long_is, kept_sound, ok_fails}

-- ---- lists

pub headers_in-append : (xs ys : List LineForm) → headers_in (xs ++ ys) ≡ headers_in xs ++ headers_in ys
headers_in-append [] ys = refl
headers_in-append (header exported name arity ∷ xs) ys = ap (λ l. (name, arity) ∷ l) (headers_in-append xs ys)
headers_in-append (line ∷ xs) ys = headers_in-append xs ys

-- the last line after one more
pub last_line-push : (lines : List LineForm) (line : LineForm) → last_line (lines ++ line ∷ []) ≡ Some line
last_line-push [] line = refl
last_line-push (x ∷ []) line = refl
last_line-push (x ∷ y ∷ lines) line = last_line-push (y ∷ lines) line

-- ---- rows

-- the last of a line and those behind it
pub last_behind : Option LineForm → List LineForm → Option LineForm
last_behind before [] = before
last_behind before (line ∷ lines) = last_behind (Some line) lines

last_behind-some : (line : LineForm) (lines : List LineForm) → last_behind (Some line) lines ≡ last_line (line ∷ lines)
unfolding last_behind
last_behind-some line [] = refl
last_behind-some line (next ∷ lines) = last_behind-some next lines

last_behind-none : (lines : List LineForm) → last_behind None lines ≡ last_line lines
unfolding last_behind
last_behind-none [] = refl
last_behind-none (line ∷ lines) = last_behind-some line lines

row_more : (before : Option LineForm) (lines : List LineForm) (line : LineForm) → RowFrom before lines → may_follow (last_behind before lines) line ≡ true → RowFrom before (lines ++ line ∷ [])
unfolding last_behind
row_more before [] line row place = (place, tt)
row_more before (first ∷ lines) line row place = (row.0, row_more _ lines line row.1 place)

-- ---- one line more

-- what is kept after a line of any form
pub kept_more : (lines after : List LineForm) (last new_last : Option LineForm) (line : LineForm) (headers new_headers : List HeaderForm) (labels new_labels : Texts) → AreKept lines last headers labels → IsKept line → may_follow (last_line lines) line ≡ true → after ≡ lines ++ line ∷ [] → new_last ≡ Some line → new_headers ≡ headers ++ headers_in (line ∷ []) → new_labels ≡ labels_after labels line → length new_headers ≤ 16 → AreKept after new_last new_headers new_labels
kept_more lines after last new_last line headers new_headers labels new_labels kept is place pushed ended headed labelled few = record {
  row = subst (RowFrom None) (sym pushed) (row_more None lines line kept.row (ap (λ o. may_follow o line) (last_behind-none lines) ∙ place));
  last_is = ended ∙ sym (last_line-push lines line) ∙ ap last_line (sym pushed);
  each = subst (All IsKept) (sym pushed) (All-push IsKept lines line kept.each is);
  few = few;
  functions = headed ∙ ap (λ hs. hs ++ headers_in (line ∷ [])) kept.functions ∙ sym (headers_in-append lines (line ∷ [])) ∙ ap headers_in (sym pushed);
  labelled = labelled ∙ ap (λ ls. labels_after ls line) kept.labelled ∙ sym (fold-append labels_after [] lines (line ∷ [])) ∙ ap open_labels (sym pushed);
}

forms_pushed : (lines after : List (Bor (List ℕ))) (text : Bor (List ℕ)) (line : LineForm) → form_of text ≡ line → after ≡ lines ++ text ∷ [] → forms_of after ≡ forms_of lines ++ line ∷ []
forms_pushed lines after text line said pushed = ap forms_of pushed ∙ map-append form_of lines (text ∷ []) ∙ ap (λ l. forms_of lines ++ l ∷ []) said

module _ (lines after : List (Bor (List ℕ))) (text : Bor (List ℕ)) (last : Option LineForm) (line : WrittenLine) (functions : List (Bor (List ℕ) × Bor (List ℕ))) where
  -- after the header of a function
  pub kept_header : (new_functions : List (Bor (List ℕ) × Bor (List ℕ))) (labels new_labels : List (Bor (List ℕ))) (name arity : Bor (List ℕ)) → AreKept (forms_of lines) last (headers_of functions) (words_of labels) → IsKept (line_form line) → may_follow (last_line (forms_of lines)) (line_form line) ≡ true → (exported : Bool) × (line_form line ≡ header exported name.now arity.now) → form_of text ≡ line_form line → after ≡ lines ++ text ∷ [] → new_functions ≡ functions ++ (name, arity) ∷ [] → new_labels ≡ [] → length functions < 16 → AreKept (forms_of after) (Some (line_form line)) (headers_of new_functions) (words_of new_labels)
  kept_header new_functions labels new_labels name arity kept is place form said pushed headed cleared few =
      kept_more (forms_of lines) (forms_of after) last (Some (line_form line)) (line_form line) (headers_of functions) (headers_of new_functions) (words_of labels) (words_of new_labels) kept is place (forms_pushed lines after text (line_form line) said pushed) refl
      (ap headers_of headed ∙ map-append (λ h. (h.0.now, h.1.now)) functions ((name, arity) ∷ []) ∙ ap (λ l. headers_of functions ++ headers_in (l ∷ [])) (sym form.1))
      (ap words_of cleared ∙ ap (labels_after (words_of labels)) (sym form.1))
      (omega (arith, length-map {B = List ℕ × List ℕ} new_functions (λ h. (h.0.now, h.1.now)), ap length headed, length-append functions ((name, arity) ∷ [])))

  -- after a label
  pub kept_label : (labels new_labels : List (Bor (List ℕ))) (name : Bor (List ℕ)) → AreKept (forms_of lines) last (headers_of functions) (words_of labels) → IsKept (line_form line) → may_follow (last_line (forms_of lines)) (line_form line) ≡ true → line_form line ≡ label name.now → form_of text ≡ line_form line → after ≡ lines ++ text ∷ [] → words_of new_labels ≡ words_of labels ++ name.now ∷ [] → AreKept (forms_of after) (Some (line_form line)) (headers_of functions) (words_of new_labels)
  kept_label labels new_labels name kept is place form said pushed labelled =
      kept_more _ _ last _ _ _ _ _ _ kept is place (forms_pushed lines after text _ said pushed) refl
      (sym (append-nil _) ∙ ap (λ l. headers_of functions ++ headers_in (l ∷ [])) (sym form)) (labelled ∙ ap (labels_after (words_of _)) (sym form)) kept.few

  -- after a line of another form
  pub kept_other : (labels : List (Bor (List ℕ))) → AreKept (forms_of lines) last (headers_of functions) (words_of labels) → IsKept (line_form line) → may_follow (last_line (forms_of lines)) (line_form line) ≡ true → (headers_in (line_form line ∷ []) ≡ []) × ((ls : Texts) → labels_after ls (line_form line) ≡ ls) → form_of text ≡ line_form line → after ≡ lines ++ text ∷ [] → AreKept (forms_of after) (Some (line_form line)) (headers_of functions) (words_of labels)
  kept_other labels kept is place form said pushed =
      kept_more _ _ last _ _ _ _ _ _ kept is place (forms_pushed lines after text _ said pushed) refl
      (sym (append-nil _) ∙ ap (λ hs. headers_of functions ++ hs) (sym form.0)) (sym (form.1 (words_of _))) kept.few

-- ---- labels

-- a text that is new goes last
pub added_last : (keys new_keys : List (Bor (List ℕ))) (name : Bor (List ℕ)) → new_keys ≡ cond (list_any (λ k. bytes_eq name.now k.now) keys) keys (keys ++ name ∷ []) → list_any (bytes_eq name.now) (words_of keys) ≡ false → words_of new_keys ≡ words_of keys ++ name.now ∷ []
added_last keys new_keys name added new =
    let none : list_any (λ k. bytes_eq name.now k.now) keys ≡ false = sym (any_map (bytes_eq name.now) (λ k. k.now) keys) ∙ new in
    ap words_of (added ∙ ap (λ t. cond t keys (keys ++ name ∷ [])) none) ∙ map-append (λ k. k.now) keys (name ∷ [])

-- ---- answers

-- what was pushed, where the push is no error
pub pushed_ok : {X : Type 0} (items old : List X) (x : X) (ok err : Bool) → items ≡ cond ok (old ++ x ∷ []) old → ok ≡ not err → err ≡ false → items ≡ old ++ x ∷ []
pushed_ok items old x ok err is negation none = is ∙ ap (λ t. cond t (old ++ x ∷ []) old) (negation ∙ ap not none)

-- a clause on what is no error
pub on_ok : {X E : Type 0} (r : Result X E) (P : Type 0) → OnOk r P → is_err r ≡ false → P
on_ok (Ok x) P h e = h
on_ok (Err f) P h e = absurd cc

keeping_end : (names : Texts) (lines : List LineForm) (t : Bool) → ends_too_long names lines end ≡ t → keeping names lines end ≡ cond t (Err faults.TooLong) (Ok (lines ++ end ∷ []))
keeping_end names lines true e = ap (λ t. keeping_by lines end (cond t (Some faults.TooLong) None)) e
keeping_end names lines false e = ap (λ t. keeping_by lines end (cond t (Some faults.TooLong) None)) e

module _ (lines : List LineForm) (items : List (Bor (List ℕ))) (short : Bool) (row : RowFrom None (forms_of items)) (kept : All IsKept (forms_of items)) (view : forms_of items ≡ lines) (is : short ≡ nat_le (lines_words (forms_of items)) 1024) where
  -- the end of a module that is too long
  pub end_refused : short ≡ false → (names : Texts) → keeping names lines end ≡ Err faults.TooLong
  end_refused long names =
      let over : ends_too_long names (forms_of items) end ≡ true = too_long_is names (forms_of items) row (kept_sound (forms_of items) kept) ∙ ap not (sym is ∙ long) in
      ap (λ ls. keeping names ls end) (sym view) ∙ keeping_end names (forms_of items) true over

  -- the end of a module that is short enough
  pub end_kept : short ≡ true → (names : Texts) → keeping names lines end ≡ Ok (lines ++ end ∷ [])
  end_kept fits names =
      let within : ends_too_long names (forms_of items) end ≡ false = too_long_is names (forms_of items) row (kept_sound (forms_of items) kept) ∙ ap not (sym is ∙ fits) in
      ap (λ ls. keeping names ls end) (sym view) ∙ keeping_end names (forms_of items) false within ∙ ap (λ ls. Ok (ls ++ end ∷ [])) view

-- an answer whose only error is want of memory
pub gives_kept : {X : Type 0} (view : X → List LineForm) (r : Result X LineFault) (step : Result (List LineForm) LineFault) (new whole : List LineForm) (Same : Type 0) → OnOk r (new ≡ whole) → IfErr r (λ fault. (fault ≡ faults.NoMemory) × Same) → step ≡ Ok whole → ((x : X) → view x ≡ new) → Gives view r step
gives_kept view (Ok x) step new whole Same ok err is same = is ∙ ap (λ ls. Ok ls) (sym ok ∙ sym (same x))
gives_kept view (Err fault) step new whole Same ok err is same = subst (Fails step) (sym err.0) tt

-- ---- the line of a text

pub text_form_is : (text : List ℕ) (read : Option LineForm) → read ≡ line_split text → text_form text ≡ unwrap_or read end
unfolding text_form
text_form_is text read is = ap (λ o. unwrap_or o end) (sym is)

-- a line that was judged is the one that was read
alone_is : (lines : List LineForm) (read : Option LineForm) (line : LineForm) → judged_alone lines read ≡ Ok line → read ≡ Some line
alone_is lines None line is = absurd cc
alone_is lines (Some read) line is = ap (λ l. Some l) (by_tests _ _ _ _ is)
  where
    by_tests : (follows high wide long : Bool) → cond {A = Result LineForm LineFault} follows (cond high (Err faults.Register) (cond wide (Err faults.Int) (cond long (Err faults.Term) (Ok read)))) (Err faults.Syntax) ≡ Ok line → read ≡ line
    by_tests true false false false e = cc
    by_tests follows high wide long e = absurd cc

-- a text that was judged is that of its line
pub said_alone : (lines : List LineForm) (text : List ℕ) (line : LineForm) → judged_alone lines (line_reading text) ≡ Ok line → text_form text ≡ line
said_alone lines text line is = text_form_is text _ (sym (soundly _ line (alone_is lines _ line is)).same)

-- ---- the stages of a line

err_is : {A : Type 0} (e f : LineFault) → ◌≡◌ {A = Result A LineFault} (Err e) (Err f) → e ≡ f
err_is e f h = cc

-- the next stage, where there was no fault
pub then_stage : {A B : Type 0} → Result A LineFault → (A → Result B LineFault) → Result B LineFault
then_stage (Ok x) more = more x
then_stage (Err fault) more = Err fault

alone_stage : (names : Texts) (lines : List LineForm) (line : LineForm) (later : LineForm → Option LineFault) (follows high wide long : Bool) →
    cond {A = Step} follows (kept names lines line (cond high (Some faults.Register) (cond wide (Some faults.Int) (cond long (Some faults.Term) (later line))))) (Err faults.Syntax)
    ≡ then_stage (cond {A = Result LineForm LineFault} follows (cond high (Err faults.Register) (cond wide (Err faults.Int) (cond long (Err faults.Term) (Ok line)))) (Err faults.Syntax)) (λ l. kept names lines l (later l))
unfolding then_stage
alone_stage names lines line later false high wide long = refl
alone_stage names lines line later true true wide long = refl
alone_stage names lines line later true false true long = refl
alone_stage names lines line later true false false true = refl
alone_stage names lines line later true false false false = refl

naming_stage : (names : Texts) (lines : List LineForm) (line : LineForm) (over : Bool) (place : Option LineFault) →
    kept names lines line (cond over (Some faults.Names) place)
    ≡ then_stage (cond {A = Result Texts LineFault} over (Err faults.Names) (Ok (names_after names line))) (λ named. then_stage (keeping_by lines line place) (λ ls. Ok (named, ls)))
unfolding then_stage
naming_stage names lines line true place = refl
naming_stage names lines line false None = refl
naming_stage names lines line false (Some fault) = refl

-- the stages of a line that stands alone in its limits
pub later_stages : Texts → List LineForm → LineForm → Step
later_stages names lines line = then_stage (naming names (line_atoms line)) (λ named. then_stage (keeping names lines line) (λ ls. Ok (named, ls)))

staged_by : (names : Texts) (lines : List LineForm) (o : Option LineForm) → judged names lines o ≡ then_stage (judged_alone lines o) (later_stages names lines)
unfolding then_stage later_stages
staged_by names lines None = refl
staged_by names lines (Some line) =
    alone_stage names lines line (λ l. cond (overfills_names names l) (Some faults.Names) (place_fault names lines l)) (may_follow (last_line lines) line) (has_high_register line) (has_wide_integer line) (has_long_term line)
    ∙ ap (then_stage (judged_behind (last_line lines) line)) (λ i l. naming_stage names lines l (overfills_names names l) (place_fault names lines l) i)

-- a line is judged in stages
pub staged : (names : Texts) (lines : List LineForm) (text : List ℕ) → line_step names lines text ≡ then_stage (judged_alone lines (line_reading text)) (later_stages names lines)
staged names lines text = staged_by names lines _

pub fails_first : {A B : Type 0} (r : Result A LineFault) (more : A → Result B LineFault) (fault : LineFault) → Fails r fault → Fails (then_stage r more) fault
unfolding then_stage
fails_first (Ok x) more fault h = subst (λ f. Fails (more x) f) (sym (ok_fails x fault h)) tt
fails_first {A} {B} (Err e) more fault h = same_fault A B e fault h
  where
    same_fault : (A B : Type 0) (e fault : LineFault) → Fails {A = A} (Err e) fault → Fails {A = B} (Err e) fault
    same_fault A B e faults.NoMemory h = tt
    same_fault A B e fault h = ap (λ f. Err f) (err_is e fault h)

module _ (names : Texts) (lines : List LineForm) (text : List ℕ) where
  -- a fault of what the line is alone
  pub line_fails_alone : (fault : LineFault) → Fails (judged_alone lines (line_reading text)) fault → Fails (line_step names lines text) fault
  line_fails_alone fault h = subst (λ (step : Step). Fails step fault) (sym (staged names lines text)) (fails_first _ _ fault h)

  -- behind a line that is within its limits
  behind_alone : (line : LineForm) → judged_alone lines (line_reading text) ≡ Ok line → line_step names lines text ≡ later_stages names lines line
  unfolding then_stage
  behind_alone line is = staged names lines text ∙ ap (λ r. then_stage r (later_stages names lines)) is

  -- a fault of its names
  pub line_fails_named : (line : LineForm) (fault : LineFault) → judged_alone lines (line_reading text) ≡ Ok line → Fails (naming names (line_atoms line)) fault → Fails (line_step names lines text) fault
  unfolding later_stages
  line_fails_named line fault is h =
      subst (λ (step : Step). Fails step fault) (sym (behind_alone line is))
      (fails_first _ (λ named. then_stage (keeping names lines line) (λ ls. Ok _)) fault h)

kept_on : {X : Type 0} (view : X → List LineForm) (named : Texts) (r : Result X LineFault) (step : Result (List LineForm) LineFault) → Gives view r step → Gives {A = Texts × List LineForm} (λ x. (named, view x)) r (then_stage step (λ ls. Ok (named, ls)))
unfolding then_stage
kept_on view named (Ok x) step h = ap (λ s. then_stage s (λ ls. Ok (named, ls))) h
kept_on view named (Err fault) step h = fails_first step (λ ls. Ok (named, ls)) fault h

-- the rest is as the lines are kept
pub line_gives : {X : Type 0} (view : X → List LineForm) (names named : Texts) (lines : List LineForm) (text : List ℕ) (line : LineForm) (r : Result X LineFault) → judged_alone lines (line_reading text) ≡ Ok line → naming names (line_atoms line) ≡ Ok named → Gives view r (keeping names lines line) → Gives {A = Texts × List LineForm} (λ x. (named, view x)) r (line_step names lines text)
unfolding later_stages then_stage
line_gives view names named lines text line r alone naming_is h =
    let is : line_step names lines text ≡ then_stage (keeping names lines line) (λ ls. Ok (named, ls)) =
    behind_alone names lines text line alone ∙ ap (λ n. then_stage n (λ k. then_stage (keeping names lines line) (λ ls. Ok (k, ls)))) naming_is in
    subst (Gives {A = Texts × List LineForm} (λ x. (named, view x)) r) (sym is) (kept_on view named r _ h)

-- What a line's text leaves is what its form leaves, in front of the loader blocks; a text of no form is refused.
use Rattle.std.proofs.Common.{◌≡◌, ℕ, suc, ◌+◌, ◌<◌, ◌≤◌, Bool, true, false, cond, List, [], ◌∷◌, length, Option, Some, None, option_map}
use Rattle.std.proofs.Common.{Ok, Err, subst, arith, length-append, nat_le, ◌++◌, Result, bytes_eq, codes, refl, sym, ap, ◌∙◌}
use Rattle.script_text.proofs.Common.{Texts}
use Rattle.script_text.proofs.Types.{LineFault, LineCause, Place, Unread, Between, Within, Observing, ScriptReader}
use Rattle.script_text.proofs.Modules.{LineForm, header, label, instr, title, last_line, may_follow, fault_of_line, names_after, counted_name}
use Rattle.script_text.proofs.Modules.{counted_by, line_reading, HeaderForm, IsTitled, headers_in, body_of, earlier, unsettled_at}
use Rattle.script_text.proofs.Modules.{unsettled_below, first_unsettled, unsettled_line, kept, judged, line_step, Step, line_is, text_again}
use Rattle.script_text.proofs.TextLines.{titled_more}
use Rattle.script_text.proofs.StepMoves.{ok_is}
use Rattle.script_text.proofs.Texts.{number_of, number_in, cut_at, number_value, cut_is, cut_here, some_is, guarded, bytes_are}
use Rattle.script_text.proofs.Forms.{RefForm, ScriptLine, head, code, observer, loader, go}
use Rattle.script_text.proofs.Forms.{IsLine, ref_reading, titled, title_reading, or_syntax, ref_words}
use Rattle.script_text.proofs.Forms.{◌>>=◌, ref_added, counted_added, by_code, step_titled, text_closed, code_judged, step_at}
use Rattle.script_text.specs.Reading.{head_step, title_step, line_added, within_step, observer_step, between_by, observing_by}
use Rattle.script_text.specs.declared.reading.cause.LineCause.TheVariants as causes
use Rattle.script_text.specs.declared.fault.Which.TheVariants as which
use Rattle.script_text.proofs.OneLine.{reference, by_word, form_reading, observer_reading, reads, form_is}
use Rattle.script_text.proofs.HeldNames.{held_with, number_is}
use Rattle.mod_text.specs.declared.fault.LineFault.TheVariants as line_faults

-- ---- the end of a text

-- ---- what is lacking

-- a number below a bound, if there is one
abbrev Below : ℕ → Option ℕ → Type 0
Below bound None = Unit {0}
Below bound (Some k) = k < bound

wider : (bound more : ℕ) (o : Option ℕ) → bound ≤ more → Below bound o → Below more o
wider bound more None le h = tt
wider bound more (Some k) le h = omega arith

next : (bound : ℕ) (o : Option ℕ) → Below bound o → Below (suc bound) (option_map suc o)
next bound None h = tt
next bound (Some k) h = omega arith

first_of : (bound : ℕ) (o p : Option ℕ) → Below bound o → Below bound p → Below bound (earlier o p)
first_of bound None p h k = k
first_of bound (Some i) p h k = h

suc_le : (m n : ℕ) → m ≤ n → suc m ≤ suc n
suc_le m n h = omega arith

short_body : (lines : List LineForm) → length (body_of lines) ≤ length lines
short_body (label name ∷ lines) = suc_le _ _ (short_body lines)
short_body (instr i ∷ lines) = suc_le _ _ (short_body lines)
short_body lines = omega arith

module _ (headers : List HeaderForm) where
  in_body : (body lines : List LineForm) → Below (length lines) (unsettled_at headers body lines)
  in_body body [] = tt
  in_body body (line ∷ lines) = by_test _ (in_body body lines)
    where
      by_test : (t : Bool) → Below (length lines) (unsettled_at headers body lines) → Below (suc (length lines)) (cond t (option_map suc (unsettled_at headers body lines)) (Some 0))
      by_test true behind = next _ _ behind
      by_test false behind = omega arith

  below_header : (line : LineForm) (lines : List LineForm) → Below (length lines) (unsettled_below headers line lines)
  below_header (header exported name arity) lines = wider _ _ _ (short_body lines) (in_body (body_of lines) (body_of lines))
  below_header line lines = tt

  in_lines : (lines : List LineForm) → Below (length lines) (first_unsettled headers lines)
  in_lines [] = tt
  in_lines (line ∷ lines) = next _ _ (first_of _ _ _ (below_header line lines) (in_lines lines))

-- a line that names what is not there is one of the text
pub unsettled_within : (lines : List LineForm) (number : ℕ) → unsettled_line lines ≡ Some number → number < length lines
unsettled_within lines number e = subst (Below (length lines)) e (in_lines (headers_in lines) lines)

-- ---- a line more

-- what is behind a line that was read
pub record GoesOn (lines after : List LineForm) : Type 0 where
  pub titled : IsTitled lines → IsTitled after
  pub longer : length after ≡ length lines + 1

module _ (names : Texts) (lines : List LineForm) where
  one_more : (line : LineForm) (o : Option LineFault) (x : Texts × List LineForm) → kept names lines line o ≡ Ok x → GoesOn lines x.1
  one_more line None x e = subst (λ (y : Texts × List LineForm). GoesOn lines y.1) (ok_is _ x e) (record { titled = titled_more lines line; longer = simp length-append })
  one_more line (Some fault) x e = absurd cc

  by_place : (line : LineForm) (t : Bool) (x : Texts × List LineForm) → cond t (kept names lines line (fault_of_line names lines line)) (Err line_faults.Syntax) ≡ Ok x → GoesOn lines x.1
  by_place line true x e = one_more line _ x e
  by_place line false x e = absurd cc

  by_form : (o : Option LineForm) (x : Texts × List LineForm) → judged names lines o ≡ Ok x → GoesOn lines x.1
  by_form None x e = absurd cc
  by_form (Some line) x e = by_place line _ x e

  pub step_goes_on : (text : List ℕ) (x : Texts × List LineForm) → line_step names lines text ≡ Ok x → GoesOn lines x.1
  step_goes_on text x e = by_form _ x e

-- ---- what a line's text leaves is what its form leaves, in front of the loader blocks; a text of no form is refused

abbrev pub Stepped : Type 0
Stepped = Result ScriptReader LineCause

-- the step of what a text is read as
abbrev pub read_step : ScriptReader → ℕ → Place → Option ScriptLine → Stepped
read_step r number p o = or_syntax o >>= step_at r number p

-- ---- the first line

abbrev began : ScriptReader → Bool → Stepped
began r t = cond t (Ok (record r { place = Between })) (Err causes.Syntax)

pub head_text : (r : ScriptReader) (number : ℕ) (text : List ℕ) → head_step r text ≡ read_step r number Unread (form_reading text)
head_text r number text = by_text (bytes_eq text (codes "beam script 1")) refl
  where
    other : (o : Option ScriptLine) → form_reading text ≡ o → bytes_eq text (codes "beam script 1") ≡ false → Err causes.Syntax ≡ read_step r number Unread o
    other None e differ = refl
    other (Some head) e differ = let yes : bytes_eq text (codes "beam script 1") ≡ true = ap (λ (t : List ℕ). bytes_eq t (codes "beam script 1")) (form_is text head e).text_is in absurd cc
    other (Some line) e differ = refl

    by_text : (t : Bool) → bytes_eq text (codes "beam script 1") ≡ t → began r t ≡ read_step r number Unread (form_reading text)
    by_text true e = sym (ap (read_step r number Unread) (reads text head (record { text_is = bytes_are text (codes "beam script 1") e; sound = refl })))
    by_text false e = other (form_reading text) refl e

-- ---- lines of a module's text

code_reads : (text : List ℕ) (l : LineForm) → line_reading text ≡ Some l → form_reading text ≡ Some (code l)
code_reads text l e = let is = line_is text l e in reads text _ (record { text_is = is.text_is; sound = is.sound })

reads_code : (text : List ℕ) (l : LineForm) → form_reading text ≡ Some (code l) → line_reading text ≡ Some l
reads_code text l e = let is = form_is text (code l) e in text_again text l (record { text_is = is.text_is; sound = is.sound })

pub within_text : (r : ScriptReader) (number : ℕ) (text : List ℕ) → within_step r text ≡ read_step r number Within (form_reading text)
within_text r number text = by_reading (line_reading text) refl
  where
    by_step : (l : LineForm) → line_reading text ≡ Some l → (x : Step) → line_added r text (counted_name r.names r.lines l) x ≡ code_judged r l x
    by_step l e (Ok x) = ap (λ (o : Option LineForm). counted_added r.functions (counted_by x.0 x.1 o) >>= λ fs. Ok (text_closed (record r { names = x.0; lines = x.1; functions = fs }))) e
    by_step l e (Err line_faults.Duplicate) = refl
    by_step l e (Err fault) = refl

    other : (o : Option ScriptLine) → form_reading text ≡ o → line_reading text ≡ None → Err causes.Syntax ≡ read_step r number Within o
    other None e none = refl
    other (Some (code l)) e none = let some = reads_code text l e in absurd cc
    other (Some line) e none = refl

    by_reading : (o : Option LineForm) → line_reading text ≡ o → line_added r text (counted_by r.names r.lines o) (judged r.names r.lines o) ≡ read_step r number Within (form_reading text)
    by_reading None e = other (form_reading text) refl e
    by_reading (Some l) e = by_step l e (judged r.names r.lines (Some l)) ∙ sym (ap (read_step r number Within) (code_reads text l e))

-- ---- observers

-- the text of an observer, where one may stand
observer_text : (r : ScriptReader) (number : ℕ) (p : Place) (text rest : List ℕ) → cut_at 32 text ≡ Some (codes "observer", rest) → ((count : List ℕ) → step_at r number p (observer count) ≡ step_at r number Observing (observer count)) → observer_step r rest ≡ read_step r number p (form_reading text)
unfolding observer_step
observer_text r number p text rest cut same = by_test _ ∙ sym (ap (read_step r number p) (observer_reading text rest cut))
  where
    by_test : (t : Bool) → (or_syntax (cond t (Some (number_value rest)) None) >>= λ count. cond (nat_le 4 (length r.observers)) (Err (causes.Limit which.Observers)) (Ok (record r { observers = r.observers ++ count ∷ []; place = Observing }))) ≡ read_step r number p (option_map (λ count. observer count) (cond t (Some rest) None))
    by_test true = sym (same rest)
    by_test false = refl

observer_cut : (text count : List ℕ) → IsLine text (observer count) → cut_at 32 text ≡ Some (codes "observer", count)
observer_cut text count is = ap (cut_at 32) is.text_is ∙ cut_here 32 _ count refl

-- nor is one without a space
uncut : (text : List ℕ) → cut_at 32 text ≡ None → (count : List ℕ) → IsLine text (observer count) → ⊥
uncut text none count is = let both = sym none ∙ observer_cut text count is in cc

module _ (text word rest : List ℕ) (cut : cut_at 32 text ≡ Some (word, rest)) where
  -- a text whose first word is another is no observer's
  other_word : bytes_eq word (codes "observer") ≡ false → (count : List ℕ) → IsLine text (observer count) → ⊥
  other_word other count is =
      let same = some_is (word, rest) (codes "observer", count) (sym cut ∙ observer_cut text count is) in
      let yes : bytes_eq word (codes "observer") ≡ true = ap (λ (p : List ℕ × List ℕ). bytes_eq p.0 (codes "observer")) same in
      cc

  at_word : bytes_eq word (codes "observer") ≡ true → cut_at 32 text ≡ Some (codes "observer", rest)
  at_word e = cut ∙ ap (λ (w : List ℕ). let so : Option (List ℕ × List ℕ) = Some (w, rest) in so) (bytes_are word _ e)

-- a text that is neither `loader` nor `go`
pub record IsKeyed (text : List ℕ) : Type 0 where
  pub no_loader : bytes_eq text (codes "loader") ≡ false
  pub no_go : bytes_eq text (codes "go") ≡ false

no_loader_read : (text : List ℕ) → IsKeyed text → form_reading text ≡ Some loader → ⊥
no_loader_read text k e = let differ = k.no_loader in let yes : bytes_eq text (codes "loader") ≡ true = ap (λ (t : List ℕ). bytes_eq t (codes "loader")) (form_is text loader e).text_is in cc

no_go_read : (text : List ℕ) → IsKeyed text → form_reading text ≡ Some go → ⊥
no_go_read text k e = let differ = k.no_go in let yes : bytes_eq text (codes "go") ≡ true = ap (λ (t : List ℕ). bytes_eq t (codes "go")) (form_is text go e).text_is in cc

-- a line behind an observer
pub observing_text : (r : ScriptReader) (number : ℕ) (text : List ℕ) → IsKeyed text → observing_by r (cut_at 32 text) ≡ read_step r number Observing (form_reading text)
observing_text r number text k = by_cut (cut_at 32 text) refl
  where
    other : (o : Option ScriptLine) → form_reading text ≡ o → ((count : List ℕ) → IsLine text (observer count) → ⊥) → Err causes.Syntax ≡ read_step r number Observing o
    other None e differ = refl
    other (Some (observer count)) e differ = absurd (differ count (form_is text (observer count) e))
    other (Some loader) e differ = absurd (no_loader_read text k e)
    other (Some go) e differ = absurd (no_go_read text k e)
    other (Some line) e differ = refl

    by_word : (word rest : List ℕ) (t : Bool) → cut_at 32 text ≡ Some (word, rest) → bytes_eq word (codes "observer") ≡ t → cond t (observer_step r rest) (Err causes.Syntax) ≡ read_step r number Observing (form_reading text)
    by_word word rest true cut e = observer_text r number Observing text rest (at_word text word rest cut e) (λ count. refl)
    by_word word rest false cut e = other (form_reading text) refl (other_word text word rest cut e)

    by_cut : (o : Option (List ℕ × List ℕ)) → cut_at 32 text ≡ o → observing_by r o ≡ read_step r number Observing (form_reading text)
    by_cut None e = other (form_reading text) refl (uncut text e)
    by_cut (Some parts) e = by_word parts.0 parts.1 (bytes_eq parts.0 (codes "observer")) e refl

-- ---- titles

title_is : (text : List ℕ) (t : RefForm) → title_reading text ≡ Some t → IsLine text (code (title t.name t.version))
title_is text t e = by_cut (cut_at 32 text) refl e
  where
    by_cut : (o : Option (List ℕ × List ℕ)) → cut_at 32 text ≡ o → titled o ≡ Some t → IsLine text (code (title t.name t.version))
    by_cut None cut e = absurd cc
    by_cut (Some parts) cut e =
        let p = guarded (bytes_eq parts.0 (codes "module")) (ref_reading parts.1) t e in
        let is = reference.is parts.1 t p.1 in
        record {
          text_is = (cut_is 32 text parts cut).whole ∙ ap (λ (w : List ℕ). w ++ 32 ∷ parts.1) (bytes_are parts.0 (codes "module") p.0) ∙ ap (λ (w : List ℕ). codes "module" ++ 32 ∷ w) is.text_is;
          sound = is.fits;
        }

title_again : (text name version : List ℕ) → IsLine text (code (title name version)) → title_reading text ≡ Some (record { name = name; version = version })
title_again text name version is =
    ap titled (ap (cut_at 32) is.text_is ∙ cut_here 32 (codes "module") _ refl) ∙ reference.again (record { name = name; version = version }) is.sound

-- a title by the number of its name
abbrev numbered : ScriptReader → ℕ → RefForm → Texts × List LineForm → ℕ → Stepped
numbered r number t x name = ref_added r.titles (record { name = record { 0 = name }; version = number_value t.version }) >>= λ titles. Ok (record r { names = x.0; lines = x.1; titles = titles; title = number; place = Within })

-- a text that is no observer's, where a module's text may begin
title_text : (r : ScriptReader) (number : ℕ) (text : List ℕ) → IsKeyed text → ((count : List ℕ) → IsLine text (observer count) → ⊥) → title_step r number text ≡ read_step r number Between (form_reading text)
unfolding title_step
title_text r number text k no_observer = by_title (title_reading text) refl
  where
    other : (o : Option ScriptLine) → form_reading text ≡ o → title_reading text ≡ None → Err causes.Syntax ≡ read_step r number Between o
    other None e none = refl
    other (Some (code (title name version))) e none = let some = title_again text name version (form_is text (code (title name version)) e) in absurd cc
    other (Some (observer count)) e none = absurd (no_observer count (form_is text (observer count) e))
    other (Some loader) e none = absurd (no_loader_read text k e)
    other (Some go) e none = absurd (no_go_read text k e)
    other (Some line) e none = refl

    by_fault : (t : RefForm) (place : Bool) (fault : Option LineFault) → (by_code (cond place (kept r.names r.lines (title t.name t.version) fault) (Err line_faults.Syntax)) >>= λ x. or_syntax (number_of x.0 t.name) >>= numbered r number t x) ≡ (by_code (cond place (kept r.names r.lines (title t.name t.version) fault) (Err line_faults.Syntax)) >>= step_titled r number t)
    by_fault t true None =
        let after = names_after r.names (title t.name t.version) in
        let held = held_with r.names t.name in
        let named : or_syntax (number_of after t.name) ≡ Ok (number_in after t.name) = ap (λ (o : Option ℕ). or_syntax o) held.is ∙ ap (λ (n : ℕ). let so : Result ℕ LineCause = Ok n in so) (sym (number_is after t.name held)) in
        ap (λ (s : Result ℕ LineCause). s >>= numbered r number t (after, r.lines ++ title t.name t.version ∷ [])) named
    by_fault t true (Some fault) = refl
    by_fault t false fault = refl

    by_title : (o : Option RefForm) → title_reading text ≡ o → (or_syntax (option_map ref_words o) >>= λ t. by_code (judged r.names r.lines (line_reading text)) >>= λ x. or_syntax (number_of x.0 t.0) >>= λ name. ref_added r.titles (record { name = record { 0 = name }; version = t.1 }) >>= λ titles. Ok (record r { names = x.0; lines = x.1; titles = titles; title = number; place = Within })) ≡ read_step r number Between (form_reading text)
    by_title None e = other (form_reading text) refl e
    by_title (Some t) e =
        let reading = reads text (code (title t.name t.version)) (title_is text t e) in
        ap (λ (o : Option LineForm). by_code (judged r.names r.lines o) >>= λ x. or_syntax (number_of x.0 t.name) >>= numbered r number t x) (reads_code text (title t.name t.version) reading)
        ∙ by_fault t (may_follow (last_line r.lines) (title t.name t.version)) (fault_of_line r.names r.lines (title t.name t.version))
        ∙ sym (ap (read_step r number Between) reading)

pub between_text : (r : ScriptReader) (number : ℕ) (text : List ℕ) → IsKeyed text → between_by r number text (cut_at 32 text) ≡ read_step r number Between (form_reading text)
between_text r number text k = by_cut (cut_at 32 text) refl
  where
    by_word : (word rest : List ℕ) (t : Bool) → cut_at 32 text ≡ Some (word, rest) → bytes_eq word (codes "observer") ≡ t → cond t (observer_step r rest) (title_step r number text) ≡ read_step r number Between (form_reading text)
    by_word word rest true cut e = observer_text r number Between text rest (at_word text word rest cut e) (λ count. refl)
    by_word word rest false cut e = title_text r number text k (other_word text word rest cut e)

    by_cut : (o : Option (List ℕ × List ℕ)) → cut_at 32 text ≡ o → between_by r number text o ≡ read_step r number Between (form_reading text)
    by_cut None e = title_text r number text k (uncut text e)
    by_cut (Some parts) e = by_word parts.0 parts.1 (bytes_eq parts.0 (codes "observer")) e refl

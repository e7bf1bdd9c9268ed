-- A text is read as a term exactly where the grammar has it, and refused with a fault exactly where that fault has its cause.
use Rattle.std.proofs.Common.{◌≡◌, ℕ, ◌<◌, ◌≤◌, Bool, true, false, cond, nat_lt, List, [], ◌∷◌, length, Option, None, Some, Ok, Err, refl, sym, ap, ◌∙◌, subst, arith}
use Rattle.std.proofs.lemmas.Bool.Decides.{nat_tests}
use Rattle.term_core.specs.declared.term.Term.{Term}
use Rattle.term_core.specs.declared.term_fault.TermFault.{TermFault}
use Rattle.term_core.specs.declared.term_fault.TermFault.TheVariants as faults
use Rattle.term_core.specs.Faults.{IsTextOf, SyntaxAt, HasCause}
use Rattle.term_core.specs.Plain.{plain, term_of}
use Rattle.term_core.specs.PlainTerm.{PlainTerm, map_leaves, atoms_of, term_words}
use Rattle.term_core.specs.Reading.{TermOutcome, judge_syntax, judge_range, judge_length, judge_names, read_as, names_after_text, term_reading}
use Rattle.term_core.specs.Scanning.{at_start, syntax_fault}
use Rattle.term_core.specs.TermText.{TermText, number_in, names_with_all}
use Rattle.term_core.specs.Tokens.{tokens_in, starts, built, outside_at}
use Rattle.term_core.specs.Tops.{top_of}
use Rattle.term_core.specs.Written.{WrittenTerm, integer_of}
use Rattle.term_core.proofs.LeafFacts.{term_words-map}
use Rattle.term_core.proofs.PlainTerms.{plain-term_of}
use Rattle.term_core.proofs.Ranges.{none_of_fits}
use Rattle.term_core.proofs.Readings.{readable_if, many_words, past_syntax, past_range, reads_term, refuses_names}
use Rattle.term_core.proofs.Scanning.Faults.{text_if, SyntaxAt-fault}
use Rattle.term_core.proofs.SyntaxPlaces.{SyntaxAt-unique}
use Rattle.term_core.proofs.TextForms.{text_words, text_atoms, text_built, text_outside, text_no_fault}
use Rattle.term_core.proofs.Text.Options.{some_is}

-- the names after a text are those with its atoms
pub text_names : (names : List (List ℕ)) (text : List ℕ) (form : WrittenTerm) → IsTextOf text form → names_after_text names text ≡ names_with_all names (atoms_of form)
text_names names text form h = ap (names_with_all names) (text_atoms text form h)

-- the text of a term
pub TermText-is_text : (before : List (List ℕ)) (text : List ℕ) (term : Term) (after : List (List ℕ)) (t : TermText before text term after) → IsTextOf text t.form
TermText-is_text before text term after t = record { whole = t.whole; leaves = t.leaves }

-- has the term's words
pub TermText-words : (before : List (List ℕ)) (text : List ℕ) (term : Term) (after : List (List ℕ)) (t : TermText before text term after) → term_words (plain term) ≡ term_words t.form
TermText-words before text term after t = ap term_words t.value ∙ term_words-map integer_of (number_in after) t.form

-- a term's text is read as that term
pub reading_again : (before : List (List ℕ)) (text : List ℕ) (term : Term) (after : List (List ℕ)) → TermText before text term after → term_words (plain term) ≤ 64 → term_reading before text ≡ Ok (term, after)
reading_again before text term after t short =
    let is_text = TermText-is_text before text term after t in
    reads_term before text term after (text_no_fault text t.form is_text) (text_outside text t.form is_text ∙ none_of_fits t.form t.fits)
    (omega (arith, text_words text t.form is_text, TermText-words before text term after t, short))
    (t.named ∙ sym (text_names before text t.form is_text)) t.room
    (text_built integer_of (number_in after) text t.form is_text ∙ ap (λ p. p ∷ []) (sym t.value))

-- the fault of a text at a place
syntax_place : (text : List ℕ) (at : ℕ) → SyntaxAt text at → (o : Option ℕ) → syntax_fault at_start text ≡ o → o ≡ Some at
syntax_place text at s None e = let found = text_if text e in absurd (s.no_form found.form found.is_text)
syntax_place text at s (Some i) e = ap Some (SyntaxAt-unique text i at (SyntaxAt-fault text i e) s)

-- each cause has its refusal
pub cause_again : (names : List (List ℕ)) (text : List ℕ) (fault : TermFault) → (fault ≡ faults.NoMemory → ⊥) → HasCause names text fault → term_reading names text ≡ Err fault
cause_again names text (faults.Syntax at) never h =
    ap (λ o. judge_syntax o (judge_range (outside_at false text) (judge_length (starts (tokens_in false text)) (judge_names (names_after_text names text) (read_as (top_of (built integer_of (number_in (names_after_text names text)) (tokens_in false text) [] [])) (names_after_text names text))))))
    (syntax_place text at h (syntax_fault at_start text) refl)
cause_again names text (faults.IntRange at) never h =
    past_syntax names text (text_no_fault text h.form h.is_text)
    ∙ ap (λ o. judge_range o (judge_length (starts (tokens_in false text)) (judge_names (names_after_text names text) (read_as (top_of (built integer_of (number_in (names_after_text names text)) (tokens_in false text) [] [])) (names_after_text names text))))) (text_outside text h.form h.is_text ∙ h.first)
cause_again names text faults.TooLong never h =
    past_range names text (text_no_fault text h.form h.is_text) (text_outside text h.form h.is_text ∙ none_of_fits h.form h.fits)
    ∙ ap (λ b. cond b (Err faults.TooLong) (judge_names (names_after_text names text) (read_as (top_of (built integer_of (number_in (names_after_text names text)) (tokens_in false text) [] [])) (names_after_text names text))))
    (many_words (starts (tokens_in false text)) (omega (arith, text_words text h.form h.is_text, h.long)))
cause_again names text faults.Names never h =
    refuses_names names text (text_no_fault text h.form h.is_text) (text_outside text h.form h.is_text ∙ none_of_fits h.form h.fits) (omega (arith, text_words text h.form h.is_text, h.short))
    (subst (λ (ns : List (List ℕ)). 4096 < length ns) (sym (text_names names text h.form h.is_text)) h.over)
cause_again names text faults.NoMemory never h = absurd (never refl)

-- what was judged of a text that is read
record Judged (names : List (List ℕ)) (text : List ℕ) (term : Term) (after : List (List ℕ)) : Type 0 where
  no_fault : syntax_fault at_start text ≡ None
  in_range : outside_at false text ≡ None
  short : starts (tokens_in false text) ≤ 64
  room : length (names_after_text names text) ≤ 4096
  one : PlainTerm
  first : top_of (built integer_of (number_in (names_after_text names text)) (tokens_in false text) [] []) ≡ Some one
  value : term ≡ term_of one
  named : after ≡ names_after_text names text

-- one after another
un_syntax : (o : Option ℕ) (later : TermOutcome) (x : Term × List (List ℕ)) → judge_syntax o later ≡ Ok x → (o ≡ None) × (later ≡ Ok x)
un_syntax None later x h = (refl, h)
un_syntax (Some at) later x h = cc

-- the range
un_range : (o : Option ℕ) (later : TermOutcome) (x : Term × List (List ℕ)) → judge_range o later ≡ Ok x → (o ≡ None) × (later ≡ Ok x)
un_range None later x h = (refl, h)
un_range (Some at) later x h = cc

-- a test
un_test : (b : Bool) (f : TermFault) (later : TermOutcome) (x : Term × List (List ℕ)) → cond b (Err f) later ≡ Ok x → (b ≡ false) × (later ≡ Ok x)
un_test true f later x h = cc
un_test false f later x h = (refl, h)

-- a pair that is read
same_pair : (x y : Term × List (List ℕ)) → ◌≡◌ {A = TermOutcome} (Ok x) (Ok y) → x ≡ y
same_pair x y e = cc

-- the term and the names that are read
un_read : (o : Option PlainTerm) (names : List (List ℕ)) (term : Term) (after : List (List ℕ)) → read_as o names ≡ Ok (term, after) → (p : PlainTerm) × (o ≡ Some p) × (term ≡ term_of p) × (after ≡ names)
un_read None names term after h = cc
un_read (Some p) names term after h =
    let e = same_pair (term_of p, names) (term, after) h in
    (p, refl, sym (ap (λ x. x.0) e), sym (ap (λ x. x.1) e))

-- by the tests
small_words : (words : ℕ) → nat_lt 64 words ≡ false → words ≤ 64
small_words words h = grind (arith, nat_tests)

-- of names too
small_names : (names : ℕ) → nat_lt 4096 names ≡ false → names ≤ 4096
small_names names h = grind (arith, nat_tests)

-- all of it, from a text that is read
judged : (names : List (List ℕ)) (text : List ℕ) (term : Term) (after : List (List ℕ)) → term_reading names text ≡ Ok (term, after) → Judged names text term after
judged names text term after h =
    let a = un_syntax (syntax_fault at_start text) _ (term, after) h in
    let b = un_range (outside_at false text) _ (term, after) a.1 in
    let c = un_test (nat_lt 64 (starts (tokens_in false text))) faults.TooLong _ (term, after) b.1 in
    let d = un_test (nat_lt 4096 (length (names_after_text names text))) faults.Names _ (term, after) c.1 in
    let e = un_read (top_of (built integer_of (number_in (names_after_text names text)) (tokens_in false text) [] [])) (names_after_text names text) term after d.1 in
    record { no_fault = a.0; in_range = b.0; short = small_words (starts (tokens_in false text)) c.0; room = small_names (length (names_after_text names text)) d.0; one = e.0; first = e.1; value = e.2; named = e.3 }

-- a text that is read is the term's
pub reading_is : (names : List (List ℕ)) (text : List ℕ) (term : Term) (after : List (List ℕ)) → term_reading names text ≡ Ok (term, after) → TermText names text term after
reading_is names text term after h =
    let j = judged names text term after h in
    let r = readable_if text j.no_fault j.in_range in
    let built_one = text_built integer_of (number_in (names_after_text names text)) text r.form r.is_text in
    record {
      form = r.form;
      whole = r.is_text.whole;
      leaves = r.is_text.leaves;
      fits = r.fits;
      named = j.named ∙ text_names names text r.form r.is_text;
      room = omega (arith, ap length j.named, j.room);
      value = ap plain j.value ∙ plain-term_of j.one ∙ sym (some_is _ j.one (ap top_of (sym built_one) ∙ j.first)) ∙ ap (λ ns. map_leaves integer_of (number_in ns) r.form) (sym j.named);
    }

-- and has few words
pub reading_short : (names : List (List ℕ)) (text : List ℕ) (term : Term) (after : List (List ℕ)) → term_reading names text ≡ Ok (term, after) → term_words (plain term) ≤ 64
reading_short names text term after h =
    let t = reading_is names text term after h in
    omega (arith, (judged names text term after h).short, text_words text t.form (TermText-is_text names text term after t), TermText-words names text term after t)

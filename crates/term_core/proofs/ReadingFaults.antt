-- The fault with which a text is refused has its cause.
use Rattle.std.proofs.Common.{◌≡◌, ℕ, ◌<◌, ◌≤◌, inl, inr, Bool, true, false, cond, nat_lt, List, [], length, Option, None, Some, Result, Ok, Err, IfOk, IfErr, refl, sym, ◌∙◌, subst, arith}
use Rattle.term_core.specs.declared.term.Term.{Term}
use Rattle.term_core.specs.declared.term_fault.TermFault.{TermFault}
use Rattle.term_core.specs.declared.term_fault.TermFault.TheVariants as faults
use Rattle.term_core.specs.Faults.{HasCause}
use Rattle.term_core.specs.Gives.{GivesUnless, RefusesUnless}
use Rattle.term_core.specs.Plain.{plain}
use Rattle.term_core.specs.PlainTerm.{PlainTerm, term_words}
use Rattle.term_core.specs.Reading.{TermOutcome, judge_syntax, judge_range, judge_length, judge_names, read_as, names_after_text, term_reading, ReadsAs}
use Rattle.term_core.specs.Scanning.{at_start, syntax_fault}
use Rattle.term_core.specs.TermText.{TermText, number_in}
use Rattle.term_core.specs.Tokens.{tokens_in, starts, built, outside_at}
use Rattle.term_core.specs.Tops.{top_of}
use Rattle.term_core.specs.Written.{integer_of}
use Rattle.term_core.proofs.ReadingLaws.{text_names, reading_again, reading_is, reading_short, cause_again}
use Rattle.term_core.proofs.Readings.{readable_if}
use Rattle.term_core.proofs.Scanning.Faults.{text_if, SyntaxAt-fault}
use Rattle.term_core.proofs.TextForms.{text_words, text_outside}
use Rattle.term_core.proofs.Truths.{test_lt, test_not_lt}

-- one fault
same_fault : (e f : TermFault) → ◌≡◌ {A = TermOutcome} (Err e) (Err f) → e ≡ f
same_fault e f is = cc

-- the cause of an equal fault
cause_at : (names : List (List ℕ)) (text : List ℕ) (e f : TermFault) → ◌≡◌ {A = TermOutcome} (Err e) (Err f) → HasCause names text e → HasCause names text f
cause_at names text e f is h = subst (HasCause names text) (same_fault e f is) h

-- that there is no term has no cause but want of memory
read_cause : (names : List (List ℕ)) (text : List ℕ) (o : Option PlainTerm) (after : List (List ℕ)) (f : TermFault) → read_as o after ≡ Err f → HasCause names text f
read_cause names text None after f h = cause_at names text faults.NoMemory f h tt
read_cause names text (Some p) after f h = cc

-- the cause of too many names
names_cause : (names : List (List ℕ)) (text : List ℕ) (f : TermFault) → syntax_fault at_start text ≡ None → outside_at false text ≡ None → starts (tokens_in false text) ≤ 64 → (o : Option PlainTerm) (b : Bool) → nat_lt 4096 (length (names_after_text names text)) ≡ b →
    cond b (Err faults.Names) (read_as o (names_after_text names text)) ≡ Err f → HasCause names text f
names_cause names text f h k short o true test e =
    let r = readable_if text h k in
    cause_at names text faults.Names f e (record {
      form = r.form;
      is_text = r.is_text;
      fits = r.fits;
      short = omega (arith, text_words text r.form r.is_text, short);
      over = subst (λ (ns : List (List ℕ)). 4096 < length ns) (text_names names text r.form r.is_text) (test_lt 4096 (length (names_after_text names text)) test);
    })
names_cause names text f h k short o false test e = read_cause names text o (names_after_text names text) f e

-- the cause of too many words
length_cause : (names : List (List ℕ)) (text : List ℕ) (f : TermFault) → syntax_fault at_start text ≡ None → outside_at false text ≡ None → (o : Option PlainTerm) (b : Bool) → nat_lt 64 (starts (tokens_in false text)) ≡ b →
    cond b (Err faults.TooLong) (judge_names (names_after_text names text) (read_as o (names_after_text names text))) ≡ Err f → HasCause names text f
length_cause names text f h k o true test e =
    let r = readable_if text h k in
    cause_at names text faults.TooLong f e (record { form = r.form; is_text = r.is_text; fits = r.fits; long = omega (arith, text_words text r.form r.is_text, test_lt 64 (starts (tokens_in false text)) test) })
length_cause names text f h k o false test e = names_cause names text f h k (test_not_lt 64 (starts (tokens_in false text)) test) o (nat_lt 4096 (length (names_after_text names text))) refl e

-- the cause of an integer out of range
range_cause : (names : List (List ℕ)) (text : List ℕ) (f : TermFault) → syntax_fault at_start text ≡ None → (o : Option PlainTerm) (r : Option ℕ) → outside_at false text ≡ r →
    judge_range r (judge_length (starts (tokens_in false text)) (judge_names (names_after_text names text) (read_as o (names_after_text names text)))) ≡ Err f → HasCause names text f
range_cause names text f h o (Some at) is e =
    let found = text_if text h in
    cause_at names text (faults.IntRange at) f e (record { form = found.form; is_text = found.is_text; first = sym (text_outside text found.form found.is_text) ∙ is })
range_cause names text f h o None is e = length_cause names text f h is o (nat_lt 64 (starts (tokens_in false text))) refl e

-- the cause of a byte with which no term's text goes on
syntax_cause : (names : List (List ℕ)) (text : List ℕ) (f : TermFault) (o : Option PlainTerm) (r : Option ℕ) → syntax_fault at_start text ≡ r →
    judge_syntax r (judge_range (outside_at false text) (judge_length (starts (tokens_in false text)) (judge_names (names_after_text names text) (read_as o (names_after_text names text))))) ≡ Err f → HasCause names text f
syntax_cause names text f o (Some at) is e = cause_at names text (faults.Syntax at) f e (SyntaxAt-fault text at is)
syntax_cause names text f o None is e = range_cause names text f is o (outside_at false text) refl e

-- each refusal has its cause
pub reading_cause : (names : List (List ℕ)) (text : List ℕ) (f : TermFault) → term_reading names text ≡ Err f → HasCause names text f
reading_cause names text f h = syntax_cause names text f (top_of (built integer_of (number_in (names_after_text names text)) (tokens_in false text) [] [])) (syntax_fault at_start text) refl h

-- so of a result: its text is the term's
pub result_ok : (names : List (List ℕ)) (text : List ℕ) (r : Result Term TermFault) (after : List (List ℕ)) → ReadsAs (term_reading names text) r after → IfOk r (λ term. TermText names text term after)
result_ok names text (Ok term) after h = reading_is names text term after h
result_ok names text (Err e) after h = tt

-- and it has few words
pub result_short : (names : List (List ℕ)) (text : List ℕ) (r : Result Term TermFault) (after : List (List ℕ)) → ReadsAs (term_reading names text) r after → IfOk r (λ term. term_words (plain term) ≤ 64)
result_short names text (Ok term) after h = reading_short names text term after h
result_short names text (Err e) after h = tt

-- its fault has its cause
pub result_cause : (names : List (List ℕ)) (text : List ℕ) (r : Result Term TermFault) (after : List (List ℕ)) → ReadsAs (term_reading names text) r after → IfErr r (HasCause names text)
result_cause names text (Ok term) after h = tt
result_cause names text (Err e) after (inl is) = reading_cause names text e is
result_cause names text (Err e) after (inr memory) = subst (HasCause names text) (sym memory) tt

-- one term
same_term : (x y : Term × List (List ℕ)) → ◌≡◌ {A = TermOutcome} (Ok x) (Ok y) → x.0 ≡ y.0
same_term x y e = cc

-- a term that the grammar has is given
pub result_only : (names : List (List ℕ)) (text : List ℕ) (r : Result Term TermFault) (after : List (List ℕ)) → ReadsAs (term_reading names text) r after → (term : Term) (later : List (List ℕ)) → TermText names text term later → term_words (plain term) ≤ 64 → GivesUnless faults.NoMemory r term
result_only names text (Ok x) after h term later t short = same_term (x, after) (term, later) (sym h ∙ reading_again names text term later t short)
result_only names text (Err e) after (inl is) term later t short = let again = reading_again names text term later t short in cc
result_only names text (Err e) after (inr memory) term later t short = memory

-- a fault that has its cause is the answer
pub result_refused : (names : List (List ℕ)) (text : List ℕ) (r : Result Term TermFault) (after : List (List ℕ)) → ReadsAs (term_reading names text) r after → (f : TermFault) → (f ≡ faults.NoMemory → ⊥) → HasCause names text f → RefusesUnless faults.NoMemory r f
result_refused names text (Ok x) after h f never cause = let again = cause_again names text f never cause in cc
result_refused names text (Err e) after (inl is) f never cause = inl (same_fault e f (sym is ∙ cause_again names text f never cause))
result_refused names text (Err e) after (inr memory) f never cause = inr memory

-- What a text is read as, step by step, and what the code answers for it.
use Rattle.std.proofs.Common.{◌≡◌, ℕ, ◌<◌, ◌≤◌, ◌⊎◌, inl, inr, true, false, cond, nat_lt, List, [], ◌∷◌, length, None, Result, Ok, Err, IfOk, IfErr, OnOk, sym, ap, ◌∙◌, subst, arith}
use Rattle.std.proofs.lemmas.Bool.Decides.{nat_tests}
use Rattle.term_core.specs.declared.term.Term.{Term}
use Rattle.term_core.specs.declared.term_fault.TermFault.{TermFault}
use Rattle.term_core.specs.declared.term_fault.TermFault.TheVariants as faults
use Rattle.term_core.specs.Faults.{IsReadable}
use Rattle.term_core.specs.Names.{IsNames}
use Rattle.term_core.specs.Plain.{plain}
use Rattle.term_core.specs.Reading.{TermOutcome, judge_syntax, judge_range, judge_length, judge_names, read_as, names_after_text, term_reading, ReadsAs}
use Rattle.term_core.specs.Scanning.{at_start, syntax_fault}
use Rattle.term_core.specs.TermText.{number_in}
use Rattle.term_core.specs.Tokens.{tokens_in, starts, built, outside_at}
use Rattle.term_core.specs.Tops.{top_of}
use Rattle.term_core.specs.Written.{integer_of}
use Rattle.term_core.proofs.PlainTerms.{term_of-plain}
use Rattle.term_core.proofs.Ranges.{fits_of_none}
use Rattle.term_core.proofs.Scanning.Faults.{text_if}
use Rattle.term_core.proofs.TextForms.{text_outside}

-- a text with no fault, and with no integer out of range, is a term's
pub readable_if : (text : List ℕ) → syntax_fault at_start text ≡ None → outside_at false text ≡ None → IsReadable text
readable_if text h k =
    let found = text_if text h in
    record { form = found.form; is_text = found.is_text; fits = fits_of_none found.form (sym (text_outside text found.form found.is_text) ∙ k) }

-- the test of the number of words
pub few_words : (words : ℕ) → words ≤ 64 → nat_lt 64 words ≡ false
few_words words h = grind (arith, nat_tests)

-- or else there are too many
pub many_words : (words : ℕ) → 64 < words → nat_lt 64 words ≡ true
many_words words h = grind (arith, nat_tests)

-- the test of the number of names
pub few_names : (names : ℕ) → names ≤ 4096 → nat_lt 4096 names ≡ false
few_names names h = grind (arith, nat_tests)

-- or else there are too many
pub many_names : (names : ℕ) → 4096 < names → nat_lt 4096 names ≡ true
many_names names h = grind (arith, nat_tests)

-- what is left to judge of a text with no fault
pub past_syntax : (names : List (List ℕ)) (text : List ℕ) → syntax_fault at_start text ≡ None →
    term_reading names text ≡ judge_range (outside_at false text) (judge_length (starts (tokens_in false text)) (judge_names (names_after_text names text) (read_as (top_of (built integer_of (number_in (names_after_text names text)) (tokens_in false text) [] [])) (names_after_text names text))))
past_syntax names text h = ap (λ o. judge_syntax o (judge_range (outside_at false text) (judge_length (starts (tokens_in false text)) (judge_names (names_after_text names text) (read_as (top_of (built integer_of (number_in (names_after_text names text)) (tokens_in false text) [] [])) (names_after_text names text)))))) h

-- and with no integer out of range
pub past_range : (names : List (List ℕ)) (text : List ℕ) → syntax_fault at_start text ≡ None → outside_at false text ≡ None →
    term_reading names text ≡ judge_length (starts (tokens_in false text)) (judge_names (names_after_text names text) (read_as (top_of (built integer_of (number_in (names_after_text names text)) (tokens_in false text) [] [])) (names_after_text names text)))
past_range names text h k = past_syntax names text h ∙ ap (λ o. judge_range o (judge_length (starts (tokens_in false text)) (judge_names (names_after_text names text) (read_as (top_of (built integer_of (number_in (names_after_text names text)) (tokens_in false text) [] [])) (names_after_text names text))))) k

-- and with few words
pub past_length : (names : List (List ℕ)) (text : List ℕ) → syntax_fault at_start text ≡ None → outside_at false text ≡ None → starts (tokens_in false text) ≤ 64 →
    term_reading names text ≡ judge_names (names_after_text names text) (read_as (top_of (built integer_of (number_in (names_after_text names text)) (tokens_in false text) [] [])) (names_after_text names text))
past_length names text h k short =
    past_range names text h k ∙ ap (λ b. cond b (Err faults.TooLong) (judge_names (names_after_text names text) (read_as (top_of (built integer_of (number_in (names_after_text names text)) (tokens_in false text) [] [])) (names_after_text names text)))) (few_words (starts (tokens_in false text)) short)

-- and with few names
pub past_names : (names : List (List ℕ)) (text : List ℕ) → syntax_fault at_start text ≡ None → outside_at false text ≡ None → starts (tokens_in false text) ≤ 64 → length (names_after_text names text) ≤ 4096 →
    term_reading names text ≡ read_as (top_of (built integer_of (number_in (names_after_text names text)) (tokens_in false text) [] [])) (names_after_text names text)
past_names names text h k short room =
    past_length names text h k short ∙ ap (λ b. cond b (Err faults.Names) (read_as (top_of (built integer_of (number_in (names_after_text names text)) (tokens_in false text) [] [])) (names_after_text names text))) (few_names (length (names_after_text names text)) room)

-- a term and the names after it
abbrev ok_of : Term × List (List ℕ) → TermOutcome
ok_of x = Ok x

-- the one term of such a text is read
pub reads_term : (names : List (List ℕ)) (text : List ℕ) (term : Term) (after : List (List ℕ)) → syntax_fault at_start text ≡ None → outside_at false text ≡ None → starts (tokens_in false text) ≤ 64 →
    after ≡ names_after_text names text → length after ≤ 4096 → built integer_of (number_in after) (tokens_in false text) [] [] ≡ plain term ∷ [] → term_reading names text ≡ Ok (term, after)
reads_term names text term after h k short named room one =
    past_names names text h k short (subst (λ (ns : List (List ℕ)). length ns ≤ 4096) named room)
    ∙ ap (λ ns. read_as (top_of (built integer_of (number_in ns) (tokens_in false text) [] [])) ns) (sym named)
    ∙ ap (λ ts. read_as (top_of ts) after) one ∙ ap (λ t. ok_of (t, after)) (term_of-plain term)

-- a text of too many new names is refused
pub refuses_names : (names : List (List ℕ)) (text : List ℕ) → syntax_fault at_start text ≡ None → outside_at false text ≡ None → starts (tokens_in false text) ≤ 64 → 4096 < length (names_after_text names text) → term_reading names text ≡ Err faults.Names
refuses_names names text h k short over =
    past_length names text h k short ∙ ap (λ b. cond b (Err faults.Names) (read_as (top_of (built integer_of (number_in (names_after_text names text)) (tokens_in false text) [] [])) (names_after_text names text))) (many_names (length (names_after_text names text)) over)

-- what building answers is what the text is read as
pub built_as : (names : List (List ℕ)) (text : List ℕ) (r : Result Term TermFault) (after : List (List ℕ)) → syntax_fault at_start text ≡ None → outside_at false text ≡ None → starts (tokens_in false text) ≤ 64 → IsNames after →
    IfOk r (λ term. built integer_of (number_in after) (tokens_in false text) [] [] ≡ plain term ∷ []) → OnOk r (after ≡ names_after_text names text) →
    IfErr r (λ fault. ((fault ≡ faults.Names) × (4096 < length (names_after_text names text))) ⊎ (fault ≡ faults.NoMemory)) → ReadsAs (term_reading names text) r after
built_as names text (Ok term) after h k short sound ok named fault = reads_term names text term after h k short named sound.room ok
built_as names text (Err e) after h k short sound ok named (inl over) = inl (refuses_names names text h k short over.1 ∙ ap Err (sym over.0))
built_as names text (Err e) after h k short sound ok named (inr memory) = inr memory

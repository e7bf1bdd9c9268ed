-- The loops that read the parts of a line: a part of no form is a fault of the whole, and what is read of few parts is few.
use Rattle.report_text.proofs.Common.{◌≡◌, ℕ, ◌+◌, ◌<◌, ◌≤◌, true, false, nat_le, IfOk, List, [], ◌∷◌, ◌++◌}
use Rattle.report_text.proofs.Common.{length, Option, Some, Result, Ok, Err, sym, ap, ◌∙◌, arith, nat_tests}
use Rattle.report_text.proofs.Texts.{PlainTerm, parts_of_terms, each_reading, ◌>>=◌, parts_by_cut, each_count, with_read, split}
use Rattle.report_text.specs.declared.line_fault.LineFault.{LineFault}
use Rattle.report_text.specs.declared.line_fault.LineFault.TheVariants as faults
use Rattle.report_text.proofs.Forms.{plain_reading, ReadsWord}
use Rattle.report_text.proofs.TermLaws.{few_is}

-- a part is of no form, or memory is refused
pub reads_stop : {X T : Type 0} (view : T → X) (parts : Option (List ℕ) → List (List ℕ)) (read : List ℕ → Option X) (front : List X) (o behind : Option (List ℕ)) (left part : List ℕ) (whole : Option (List X)) (fault : LineFault) → o ≡ Some left → parts (Some left) ≡ part ∷ parts behind → ReadsWord view (Err fault) (read part) → with_read front (each_reading read (parts o)) ≡ whole → ReadsWord {X = List X} (λ y. y) (Err fault) whole
reads_stop view parts read front o behind left part whole faults.Form is e none so_far = sym (split parts read front o behind left part whole is e so_far) ∙ ap (λ p. p >>= λ y. with_read (front ++ y ∷ []) (each_reading read (parts behind))) none
reads_stop view parts read front o behind left part whole faults.NoMemory is e none so_far = tt

-- ---- counts of terms

pub some_parts : (text : List ℕ) → 0 < length (parts_of_terms text)
some_parts text = omega (arith, ap length (parts_by_cut text))

pub many_parts : (count more all : ℕ) → count + more ≡ all → 0 < more → count ≡ 15 → false ≡ nat_le all 15
many_parts count more all e h is = grind (arith, nat_tests)

-- what is read of few parts is few
pub few_read : (names : List (List ℕ)) (text : List ℕ) (r : Result (List PlainTerm) LineFault) → nat_le (length (parts_of_terms text)) 15 ≡ true → ReadsWord (λ terms. terms) r (each_reading (plain_reading names) (parts_of_terms text)) → IfOk r (λ terms. length terms ≤ 15)
few_read names text (Ok terms) few read = let count = each_count (plain_reading names) (parts_of_terms text) terms read in let most = few_is (length (parts_of_terms text)) few in omega arith
few_read names text (Err fault) few read = tt

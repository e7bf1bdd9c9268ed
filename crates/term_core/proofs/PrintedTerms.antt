-- Lemmas on a row of terms as it is printed, one term after another.
use Rattle.std.proofs.Common.{ℕ, ◌==◌, cond, List, map}
use Rattle.std.specs.Fmt.{signed_decimal}
use Rattle.term_core.specs.declared.term.Term.{Term}
use Rattle.term_core.specs.Plain.{plain}
use Rattle.term_core.specs.PlainTerm.{row_of, map_row}
use Rattle.term_core.specs.TermText.{atom_text}
use Rattle.term_core.specs.Written.{parted, behind}

-- what is left to print, at the first term or behind it
abbrev pub left_text : List (List ℕ) → ℕ → List Term → List ℕ
left_text names at terms = cond (at == 0) (parted (map_row signed_decimal (atom_text names) (row_of (map plain terms)))) (behind (map_row signed_decimal (atom_text names) (row_of (map plain terms))))

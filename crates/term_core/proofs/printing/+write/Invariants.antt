-- What is printed, and what is left, is the whole row.
use Rattle.std.proofs.Common.{◌≡◌, ◌++◌, drop}
use Rattle.std.specs.Fmt.{signed_decimal}
use Rattle.term_core.specs.PlainTerm.{row_of, map_row}
use Rattle.term_core.specs.Printing.{StartsWith}
use Rattle.term_core.specs.TermText.{atom_text}
use Rattle.term_core.specs.Written.{parted}
use Rattle.term_core.proofs.PrintedTerms.{left_text}
use Rattle.term_core.proofs.printing.+write.Given as goal

-- and the old text stays in front
abbrev pub invariant-write_terms-loop-at : goal.invariant-write_terms-loop-at
invariant-write_terms-loop-at l = record {
  whole : l.out ++ left_text l.names l.at (drop l.at l.term-items) ≡ l.fn.out ++ parted (map_row signed_decimal (atom_text l.names) (row_of l.terms));
  front : StartsWith l.fn.out l.out;
}

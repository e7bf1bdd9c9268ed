use Rattle.script_text.proofs.Common.{◌≡◌, length, list_any}
use Rattle.term_core.specs.Text.Parts.{lines_of_text}
use Rattle.script_text.proofs.Forms.{is_long_line}
use Rattle.script_text.proofs.printing.has_long_line.Given as goal

-- a line is long where one of those is that are left
abbrev pub invariant-lines : goal.invariant-lines
invariant-lines l = list_any is_long_line (lines_of_text l.rest).ended ≡ list_any is_long_line (lines_of_text l.fn.text).ended

-- the bytes that are left
abbrev pub decreases-lines : goal.decreases-lines
decreases-lines l = length l.rest

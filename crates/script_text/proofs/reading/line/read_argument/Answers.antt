use Rattle.script_text.proofs.Common.{sym, ap, ◌∙◌}
use Rattle.script_text.proofs.Forms.{or_syntax}
use Rattle.script_text.proofs.TermLines.{complex_read}
use Rattle.script_text.proofs.reading.line.read_argument.Goals as goal

-- a tuple or a list is kept by its text
pub returns-then-branch-clause-read : goal.returns-then-branch-clause-read
returns-then-branch-clause-read c =
    ap or_syntax (complex_read c.args.text.now (sym c.if-is_atom_text.ensures) (sym c.if-is_integer_text.ensures) (sym c.in_ok-is_complex.ensures ∙ c.if-branch.true))

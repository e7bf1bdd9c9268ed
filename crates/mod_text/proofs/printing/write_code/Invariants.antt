-- The lines so far are written.
use Rattle.mod_text.proofs.PrintedText.{CodeWritten}
use Rattle.mod_text.proofs.printing.write_code.Given as goal

abbrev pub invariant-loop-number : goal.invariant-loop-number
invariant-loop-number l = CodeWritten l.names l.functions l.code l.number l.out l.fn.out

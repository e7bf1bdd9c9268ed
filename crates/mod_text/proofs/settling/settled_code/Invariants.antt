-- The code so far is that of the lines so far, each of which is settled.
use Rattle.mod_text.proofs.Forms.{headers_of}
use Rattle.mod_text.proofs.Settles.{CodeSoFar}
use Rattle.mod_text.proofs.settling.settled_code.Given as goal

abbrev pub invariant-loop-number : goal.invariant-loop-number
invariant-loop-number l = CodeSoFar l.names (headers_of l.functions) l.body l.number l.code

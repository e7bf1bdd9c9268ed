-- The functions so far are those of the lines so far, each of which is settled.
use Rattle.mod_text.proofs.Forms.{headers_of}
use Rattle.mod_text.proofs.Settles.{FunctionsSoFar}
use Rattle.mod_text.proofs.settling.settled_functions.Given as goal

abbrev pub invariant-loop-number : goal.invariant-loop-number
invariant-loop-number l = FunctionsSoFar l.names (headers_of l.functions) l.lines l.number l.list

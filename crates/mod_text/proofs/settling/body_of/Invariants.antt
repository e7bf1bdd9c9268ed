-- The lines so far are of the body, and what is left goes on as the whole does.
use Rattle.mod_text.proofs.Common.{◌≡◌, ◌++◌, take, drop}
use Rattle.mod_text.proofs.Forms.{forms_of, body_of}
use Rattle.mod_text.proofs.settling.body_of.Given as goal

abbrev pub invariant-loop-place : goal.invariant-loop-place
invariant-loop-place l = body_of (forms_of l.lines) ≡ forms_of (take l.place l.lines) ++ body_of (forms_of (drop l.place l.lines))

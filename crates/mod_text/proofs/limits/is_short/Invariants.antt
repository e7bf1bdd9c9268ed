-- The words that are left are as many as the whole has, less those of the lines so far.
use Rattle.mod_text.proofs.Common.{◌≡◌, ◌+◌, take, sum_by}
use Rattle.mod_text.proofs.Forms.{forms_of, line_words}
use Rattle.mod_text.proofs.limits.is_short.Given as goal

abbrev pub invariant-loop-line : goal.invariant-loop-line
invariant-loop-line l = l.left + sum_by line_words (forms_of (take l.line-index l.lines)) ≡ 1020

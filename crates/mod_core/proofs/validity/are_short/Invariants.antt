-- The words that are left and those of the functions so far are as many as an image has behind its head.
use Rattle.std.proofs.Common.{◌≡◌, ◌+◌, take, sum_by}
use Rattle.mod_core.specs.Valid.{function_words_with}
use Rattle.mod_core.proofs.validity.are_short.Given as goal

abbrev pub invariant-loop-function : goal.invariant-loop-function
invariant-loop-function l = l.left + sum_by function_words_with (take l.function-index l.functions) ≡ 1020

use Rattle.std.proofs.Common.{◌<◌, ℕ, slice_get, IsOk, ◌≡◌, Some}
use Rattle.word_run.specs.declared.onlooker.Onlooker.{Onlooker}
use Rattle.word_run.proofs.onlooker.have_looked.Given as goal

-- the looks of the first observers had no want of memory
abbrev pub invariant-loop-onlooker : goal.invariant-loop-onlooker
invariant-loop-onlooker l = (k : ℕ) (onlooker : Onlooker) → k < l.onlooker-index → slice_get l.onlookers k ≡ Some onlooker → IsOk onlooker.answer

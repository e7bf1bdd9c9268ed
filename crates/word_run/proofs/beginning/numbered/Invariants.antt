use Rattle.std.proofs.Common.{◌≡◌, [], drop}
use Rattle.word_run.specs.Beginning.{exports_after}
use Rattle.word_run.proofs.beginning.numbered.Given as goal

-- with the names that are left the table has all
abbrev pub invariant-loop-function : goal.invariant-loop-function
invariant-loop-function l = exports_after l.exports (drop l.function-index l.functions) ≡ exports_after [] l.functions

use Rattle.std.proofs.Common.{◌≡◌, ◌++◌, map, filter, take}
use Rattle.run_log.specs.ExportedFunctions.{full_name}
use Rattle.run_log.proofs.exports.functions.add_exports.Given as goal

-- the exports among the first functions are appended
abbrev pub invariant-loop-function : goal.invariant-loop-function
invariant-loop-function l = l.functions.items ≡ l.fn.functions.items ++ map (full_name l.«module».name) (filter (λ f. f.exported) (take l.function-index l.function-items))

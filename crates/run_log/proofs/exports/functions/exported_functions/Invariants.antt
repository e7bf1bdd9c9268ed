use Rattle.std.proofs.Common.{◌≡◌, take}
use Rattle.std.specs.List.{flat_map}
use Rattle.run_log.specs.ExportedFunctions.{exports_in}
use Rattle.run_log.proofs.exports.functions.exported_functions.Given as goal

-- the exports of the first modules
abbrev pub invariant-loop-module : goal.invariant-loop-module
invariant-loop-module l = l.functions.items ≡ flat_map exports_in (take l.module-index l.module-items)

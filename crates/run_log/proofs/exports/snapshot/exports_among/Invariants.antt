use Rattle.std.proofs.Common.{◌≡◌, take}
use Rattle.run_log.specs.SeenExports.{exports_among}
use Rattle.run_log.proofs.exports.snapshot.exports_among.Given as goal

-- the exports among the first functions
abbrev pub invariant-loop-to : goal.invariant-loop-to
invariant-loop-to l = l.exports ≡ exports_among l.server (take l.to-index l.to-items)

use Rattle.std.proofs.Common.{◌≡◌, ◌++◌, take, codes}
use Rattle.std.specs.List.{flat_map}
use Rattle.std.specs.Fmt.{decimal}
use Rattle.run_log.specs.Report.{line_of, snapshot_text}
use Rattle.run_log.proofs.rendering.observer.write_observer.Given as goal

-- the line and the snapshots so far are written
abbrev pub invariant-loop-shot : goal.invariant-loop-shot
invariant-loop-shot l = l.out ≡ (l.fn.out ++ line_of (codes "observer " ++ decimal l.number)) ++ flat_map (snapshot_text l.names) (take l.shot-index l.shot-items)

use Rattle.std.proofs.Common.{◌≡◌, ◌++◌, take, codes}
use Rattle.std.specs.List.{flat_map}
use Rattle.std.specs.Fmt.{decimal}
use Rattle.run_log.specs.Report.{line_of, export_text}
use Rattle.run_log.proofs.rendering.observer.write_snapshot.Given as goal

-- the line and the exports so far are written
abbrev pub invariant-loop-export : goal.invariant-loop-export
invariant-loop-export l = l.out ≡ (l.fn.out ++ line_of (codes "snapshot " ++ decimal l.shot.generation)) ++ flat_map (export_text l.names) (take l.export-index l.export-items)

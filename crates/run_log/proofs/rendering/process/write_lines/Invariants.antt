use Rattle.std.proofs.Common.{◌≡◌, ◌++◌, take}
use Rattle.std.specs.List.{flat_map}
use Rattle.run_log.specs.Report.{shown_text}
use Rattle.run_log.proofs.rendering.process.write_lines.Given as goal

-- the lines so far are written
abbrev pub invariant-loop-line : goal.invariant-loop-line
invariant-loop-line l = l.out ≡ l.fn.out ++ flat_map (shown_text l.names) (take l.line-index l.line-items)

use Rattle.std.proofs.Common.{◌≡◌, ◌++◌, take}
use Rattle.std.specs.List.{flat_map}
use Rattle.run_log.specs.Report.{span_text}
use Rattle.run_log.proofs.rendering.process.write_spans.Given as goal

-- the spans so far are written
abbrev pub invariant-loop-span : goal.invariant-loop-span
invariant-loop-span l = l.out ≡ l.fn.out ++ flat_map (span_text l.names) (take l.span-index l.span-items)

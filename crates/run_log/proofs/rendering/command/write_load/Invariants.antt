use Rattle.std.proofs.Common.{◌≡◌, ◌∷◌, ◌++◌, take, codes}
use Rattle.std.specs.List.{flat_map}
use Rattle.run_log.specs.Report.{reference_text}
use Rattle.run_log.proofs.rendering.command.write_load.Given as goal

-- the word and the references so far are written
abbrev pub invariant-loop-to : goal.invariant-loop-to
invariant-loop-to l = l.out ≡ (l.fn.out ++ codes "load") ++ flat_map (λ r. 32 ∷ reference_text l.names r) (take l.to-index l.to-items)

use Rattle.std.proofs.Common.{◌≡◌, ◌++◌, take, drop}
use Rattle.std.specs.Prelude.{option_map}
use Rattle.term_core.specs.Text.Cuts.{cut_at}
use Rattle.outside.proofs.parting.cut_line.Given as goal

-- no line ends among the bytes so far
abbrev pub invariant-loop-place : goal.invariant-loop-place
invariant-loop-place l = cut_at 10 l.bytes ≡ option_map (λ p. (take l.place l.bytes ++ p.0, p.1)) (cut_at 10 (drop l.place l.bytes))

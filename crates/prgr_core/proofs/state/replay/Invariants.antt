use Rattle.std.proofs.Common.{◌≡◌, take, Some}
use Rattle.prgr_core.specs.Step.{after_all}
use Rattle.prgr_core.proofs.state.replay.Given as goal

-- the events so far lead to the present state
abbrev pub invariant-loop-place : goal.invariant-loop-place
invariant-loop-place l = after_all l.fn.state (take l.place l.fn.events) ≡ Some l.state

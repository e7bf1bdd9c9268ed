use Rattle.script_text.proofs.Common.{◌≡◌, ◌++◌, take, flat_map}
use Rattle.script_text.proofs.Forms.{observer_bytes}
use Rattle.script_text.proofs.printing.write_observers.Given as goal

-- the observers so far are written
abbrev pub invariant-loop-count : goal.invariant-loop-count
invariant-loop-count l = l.out ≡ l.fn.out ++ flat_map observer_bytes (take l.count-index l.counts)

use Rattle.std.proofs.Common.{◌≡◌, ◌-◌, length, take}
use Rattle.term_core.specs.Names.{IsNames}
use Rattle.script_core.proofs.copying.copy_names.Given as goal

-- the names so far are copied
abbrev pub invariant-names : goal.invariant-names
invariant-names l = IsNames l.fn.names → l.copies ≡ take l.number l.fn.names

-- those that are left
abbrev pub decreases-names : goal.decreases-names
decreases-names l = length l.fn.names - l.number

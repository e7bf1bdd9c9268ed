use Rattle.script_text.proofs.Common.{◌≡◌, ◌++◌, take, flat_map}
use Rattle.script_text.proofs.Modules.{canonical, lines_written}
use Rattle.script_text.proofs.printing.write_modules.Given as goal

-- the modules so far are written
abbrev pub invariant-loop-module : goal.invariant-loop-module
invariant-loop-module l = l.out ≡ l.fn.out ++ flat_map (λ m. lines_written (canonical l.names m)) (take l.module-index l.modules)

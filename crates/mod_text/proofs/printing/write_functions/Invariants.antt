-- The functions so far are written.
use Rattle.mod_text.proofs.Common.{◌≡◌, ◌++◌, take, StartsWith, flat_map}
use Rattle.mod_text.proofs.Forms.{lines_written, function_lines}
use Rattle.mod_text.proofs.printing.write_functions.Given as goal

abbrev pub invariant-loop-function : goal.invariant-loop-function
invariant-loop-function l =
    (l.out ≡ l.fn.out ++ flat_map (λ f. lines_written (function_lines l.names l.functions f)) (take l.function-index l.functions))
    × StartsWith l.out l.fn.out

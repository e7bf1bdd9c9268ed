use Rattle.script_text.proofs.Common.{◌≡◌, ◌++◌, take, codes, flat_map}
use Rattle.script_text.proofs.Forms.{command_line, script_line_bytes}
use Rattle.script_text.proofs.printing.write_block.Given as goal

-- the start of the block and the commands so far are written
abbrev pub invariant-loop-command : goal.invariant-loop-command
invariant-loop-command l = l.out ≡ (l.fn.out ++ codes "loader\n") ++ flat_map (λ command. script_line_bytes (command_line l.names command)) (take l.command-index l.commands)

use Rattle.script_text.proofs.Common.{◌≡◌, ◌++◌, take, flat_map}
use Rattle.script_text.proofs.Forms.{block_bytes}
use Rattle.script_text.proofs.printing.write_loaders.Given as goal

-- the blocks so far are written
abbrev pub invariant-loop-commands : goal.invariant-loop-commands
invariant-loop-commands l = l.out ≡ l.fn.out ++ flat_map (block_bytes l.names) (take l.commands-index l.loaders)

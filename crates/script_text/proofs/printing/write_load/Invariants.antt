use Rattle.script_text.proofs.Common.{◌≡◌, ◌∷◌, ◌++◌, take, codes, flat_map}
use Rattle.script_text.proofs.Forms.{ref_written, ref_form}
use Rattle.script_text.proofs.printing.write_load.Given as goal

-- the word and the modules so far are written
abbrev pub invariant-loop-to : goal.invariant-loop-to
invariant-loop-to l = l.out ≡ (l.fn.out ++ codes "load") ++ flat_map (λ r. 32 ∷ ref_written (ref_form l.names r)) (take l.to-index l.refs)

use Rattle.std.proofs.Common.{◌≡◌, ◌∷◌, ◌++◌, take}
use Rattle.std.specs.List.{flat_map}
use Rattle.term_core.specs.TermText.{atom_text}
use Rattle.run_log.proofs.rendering.name.write_other_atoms.Given as goal

-- the atoms so far are written, a comma before each
abbrev pub invariant-loop-atom : goal.invariant-loop-atom
invariant-loop-atom l = l.out ≡ l.fn.out ++ flat_map (λ a. 44 ∷ atom_text l.names a.0) (take l.atom-index l.atoms)

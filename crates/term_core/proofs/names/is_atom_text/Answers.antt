-- The test of an atom, by its parts.
use Rattle.std.proofs.Common.{rules}
use Rattle.term_core.proofs.NameTables.{is_atom_text-parts}
use Rattle.term_core.proofs.names.is_atom_text.Goals.{then-is_ascii_lowercase, else-is_ascii_lowercase}
use Rattle.term_core.proofs.names.is_atom_text.Goals as goal

-- a small letter and names' bytes leave the length to be judged
pub returns-then-are_name_bytes : goal.returns-then-are_name_bytes
returns-then-are_name_bytes c = elim c.if-is_ascii_lowercase.branch [
  | then-is_ascii_lowercase w ↦ is_atom_text-parts c.args.text.now c.in-Some.first.now c.in-Some.rest.now (search rules) (search rules) (search rules)
  | else-is_ascii_lowercase w ↦ absurd (search rules)
]

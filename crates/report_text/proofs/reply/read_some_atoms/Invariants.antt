use Rattle.report_text.proofs.Common.{◌≡◌, option_map}
use Rattle.report_text.proofs.Texts.{parts_between, each_reading, byte_parts, left_of, with_read}
use Rattle.report_text.proofs.Forms.{atom_reading}
use Rattle.report_text.proofs.reply.read_some_atoms.Given as goal

-- what was read, in front of what is left, is the whole
abbrev pub invariant-atoms : goal.invariant-atoms
invariant-atoms l = with_read l.atoms (each_reading (atom_reading l.names) (byte_parts 44 (option_map (λ rest. rest.now) l.rest))) ≡ each_reading (atom_reading l.names) (parts_between 44 l.fn.text)

-- the bytes that are left
abbrev pub decreases-atoms : goal.decreases-atoms
decreases-atoms l = left_of (option_map (λ rest. rest.now) l.rest)

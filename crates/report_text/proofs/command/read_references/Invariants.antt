use Rattle.report_text.proofs.Common.{◌≡◌, option_map}
use Rattle.report_text.proofs.Texts.{parts_between, each_reading, byte_parts, left_of, with_read}
use Rattle.report_text.proofs.Forms.{reference_reading}
use Rattle.report_text.proofs.command.read_references.Given as goal

-- what was read, in front of what is left, is the whole
abbrev pub invariant-references : goal.invariant-references
invariant-references l = with_read l.refs (each_reading (reference_reading l.names) (byte_parts 32 (option_map (λ rest. rest.now) l.rest))) ≡ each_reading (reference_reading l.names) (parts_between 32 l.fn.text)

-- the bytes that are left
abbrev pub decreases-references : goal.decreases-references
decreases-references l = left_of (option_map (λ rest. rest.now) l.rest)

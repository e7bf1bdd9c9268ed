use Rattle.script_text.proofs.Common.{◌≡◌, map}
use Rattle.std.specs.Prelude.{option_map}
use Rattle.script_text.proofs.Texts.{parts_between, each_reading, byte_parts, left_of, with_read}
use Rattle.script_text.proofs.Forms.{ref_reading, kept_ref, ref_words}
use Rattle.script_text.proofs.ReadingLoops.{worded}
use Rattle.script_text.proofs.reading.line.read_refs.Given as goal

-- what was read, in front of what is left, is the whole
abbrev pub invariant-references : goal.invariant-references
invariant-references l = with_read (map kept_ref l.refs.items) (each_reading (worded ref_words ref_reading) (byte_parts 32 (option_map (λ rest. rest.now) l.rest))) ≡ each_reading (worded ref_words ref_reading) (parts_between 32 l.fn.text)

-- the bytes that are left
abbrev pub decreases-references : goal.decreases-references
decreases-references l = left_of (option_map (λ rest. rest.now) l.rest)

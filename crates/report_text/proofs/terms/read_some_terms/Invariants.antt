use Rattle.report_text.proofs.Common.{◌≡◌, option_map}
use Rattle.report_text.proofs.Texts.{parts_of_terms, parts_of_rest, each_reading, left_of, with_read}
use Rattle.report_text.proofs.Forms.{plain_reading}
use Rattle.report_text.proofs.terms.read_some_terms.Given as goal

-- what was read, in front of what is left, is the whole
abbrev pub invariant-terms : goal.invariant-terms
invariant-terms l = with_read l.terms (each_reading (plain_reading l.names) (parts_of_rest (option_map (λ rest. rest.now) l.rest))) ≡ each_reading (plain_reading l.names) (parts_of_terms l.fn.text)

-- the bytes that are left
abbrev pub decreases-terms : goal.decreases-terms
decreases-terms l = left_of (option_map (λ rest. rest.now) l.rest)

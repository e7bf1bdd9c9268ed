-- No term's text has a comma outside of all brackets.
use Rattle.term_core.proofs.PartedTerms.{parts_of_parted, joined_parts_of_terms, parts_by_cut}
use Rattle.term_core.proofs.parts.terms_are_parted.Goals as goal

-- and the cut takes the first part
pub returns : goal.returns
returns c = record { parts = parts_of_parted; joined = joined_parts_of_terms; cut = parts_by_cut }

use Rattle.report_text.proofs.Common.{sym, ◌∙◌}
use Rattle.report_text.proofs.ReadingLoops.{few_read}
use Rattle.report_text.proofs.terms.read_few_terms.Goals as goal

-- as many as parts
pub returns-then-has_few_parts-clause-few : goal.returns-then-has_few_parts-clause-few
returns-then-has_few_parts-clause-few c = few_read _ _ c.read_some_terms.result (sym c.has_few_parts.ensures ∙ c.if-has_few_parts.true) c.read_some_terms.ensures

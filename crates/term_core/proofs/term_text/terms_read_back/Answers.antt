-- A term and its text determine each other.
use Rattle.std.proofs.Common.{sym}
use Rattle.term_core.proofs.GrownTerms.{term_text-TermText, TermText-term_text}
use Rattle.term_core.proofs.TermTexts.{TermText-unique}
use Rattle.term_core.proofs.term_text.terms_read_back.Goals as goal

-- by the laws on texts
pub returns : goal.returns
returns c = record {
  one_term = λ before after later text term other t u. (TermText-unique before text term other after later t u).value;
  one_text = λ before after text term t. sym (term_text-TermText before text term after t);
  reads_back = TermText-term_text;
}

-- By the one written term of a text.
use Rattle.term_core.proofs.TermForms.{tree_is, is_term_text-form, tree_of-form, printed_is}
use Rattle.term_core.proofs.form.texts_are_forms.Goals as goal

-- and what is printed has one
pub returns : goal.returns
returns c = record {
  tree = tree_is;
  form = λ text form h. (is_term_text-form text form h, tree_of-form text form h);
  printed = printed_is;
}

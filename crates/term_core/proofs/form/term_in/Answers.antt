-- The one term that a text with no fault says.
use Rattle.term_core.proofs.Readings.{readable_if}
use Rattle.term_core.proofs.TermForms.{no_fault_if, none_outside_if, one_term}
use Rattle.term_core.proofs.form.term_in.Goals as goal

-- it is readable
pub build_one-requires : goal.build_one-requires
build_one-requires c = readable_if c.args.text.now (no_fault_if c.args.text.now c.requires.form) (none_outside_if c.args.text.now c.requires.narrow)

-- and its term is the first that is built
pub returns : goal.returns
returns c = one_term c.args.names.now c.args.text.now c.build_one.result c.build_one.ensures

-- A term is the one of its plain term.
use Rattle.mod_text.proofs.Common.{◌∙◌, sym, ap}
use Rattle.mod_text.proofs.Texts.{term_of, term_of-plain}
use Rattle.mod_text.proofs.WrittenTerms.{complex_text, complex_narrow, complex_says}
use Rattle.mod_text.proofs.values.complex_of.Goals as goal
use Rattle.mod_core.specs.declared.code.Operand.TheVariants.{Const}

pub term_in-requires-clause-form : goal.term_in-requires-clause-form
term_in-requires-clause-form c = complex_text c.args.text.now c.requires.form

pub term_in-requires-clause-narrow : goal.term_in-requires-clause-narrow
term_in-requires-clause-narrow c = complex_narrow c.args.text.now c.requires.form c.requires.narrow

pub returns : goal.returns
returns c = ap Const (sym (term_of-plain c.in_ok-term.term) ∙ ap term_of c.in_ok-term.ensures) ∙ sym (complex_says c.args.text.now c.requires.form c.args.names.now)

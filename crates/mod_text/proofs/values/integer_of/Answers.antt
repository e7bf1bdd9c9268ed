-- An integer that is not wide is a term's.
use Rattle.mod_text.proofs.WrittenTerms.{narrow_integer}
use Rattle.mod_text.proofs.values.integer_of.Goals as goal

pub integer_value-requires-clause-narrow : goal.integer_value-requires-clause-narrow
integer_value-requires-clause-narrow c = narrow_integer c.args.text.now c.requires.form c.requires.narrow

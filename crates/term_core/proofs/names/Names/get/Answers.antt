-- What `get` answers, by the number that its set finds.
use Rattle.std.proofs.Common.{sym, ap, ◌∙◌, option_map}
use Rattle.term_core.specs.Names.{number_of}
use Rattle.term_core.proofs.NameTables.{number_of-no_atom, number_at}
use Rattle.term_core.proofs.names.Names.get.Goals as goal

-- what is no atom has no number
pub returns-then-not-is_atom_text-clause-value : goal.returns-then-not-is_atom_text-clause-value
returns-then-not-is_atom_text-clause-value c =
    sym (ap (λ names. number_of names c.args.text.now) (sym c.self.view_is) ∙ number_of-no_atom _ c.args.text.now c.self.invariant (sym (c.if-not-is_atom_text.ensures)))

-- what the set lacks has none
pub returns-in_err-number-clause-value : goal.returns-in_err-number-clause-value
returns-in_err-number-clause-value c = let found = number_at c.self.inside.texts c.args.self.now c.ascii_text.result.now c.args.text.now c.get_index_of.result c.self.view_is c.ascii_text.ensures c.get_index_of.ensures.index in ap (option_map (λ atom. atom.0)) c.from_residual.ensures ∙ sym (found ∙ c.in_err-number.was)

-- what the set has is numbered by its place
pub returns-clause-value : goal.returns-clause-value
returns-clause-value c = let found = number_at c.self.inside.texts c.args.self.now c.ascii_text.result.now c.args.text.now c.get_index_of.result c.self.view_is c.ascii_text.ensures c.get_index_of.ensures.index in sym (found ∙ c.in_ok-number.was)

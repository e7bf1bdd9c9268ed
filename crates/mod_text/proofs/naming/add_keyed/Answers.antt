-- The atoms of two parts, one after the other.
use Rattle.mod_text.proofs.Common.{[], ◌∷◌, err_from_is_err_and}
use Rattle.mod_text.proofs.Forms.{operand_atoms, operand_form}
use Rattle.mod_text.proofs.LineNames.{first_fails, goes_on}
use Rattle.mod_text.proofs.naming.add_keyed.Goals as goal

pub returns-in_err-add_atom-clause-named : goal.returns-in_err-add_atom-clause-named
returns-in_err-add_atom-clause-named c =
    let p = err_from_is_err_and c.from_residual.result c.from_residual.ensures.1 in
    rw (p.1, p.2) (first_fails c.args.names.now (c.args.key.now ∷ []) (operand_atoms (operand_form c.args.other.now)) _ c.in_err-add_atom.ensures.named)

pub returns-clause-named : goal.returns-clause-named
returns-clause-named c = goes_on _ c.add_operand.result c.args.names.now c.add_atom.new.names (c.args.key.now ∷ []) (operand_atoms (operand_form c.args.other.now)) c.in_ok-add_atom.ensures.named c.add_operand.ensures.named

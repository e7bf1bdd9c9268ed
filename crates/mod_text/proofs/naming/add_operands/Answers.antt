-- The atoms of two parts, one after the other.
use Rattle.mod_text.proofs.Common.{err_from_is_err_and}
use Rattle.mod_text.proofs.Forms.{operand_atoms, operand_form}
use Rattle.mod_text.proofs.LineNames.{first_fails, goes_on}
use Rattle.mod_text.proofs.naming.add_operands.Goals as goal

pub returns-in_err-add_operand-clause-named : goal.returns-in_err-add_operand-clause-named
returns-in_err-add_operand-clause-named c =
    let p = err_from_is_err_and c.from_residual.result c.from_residual.ensures.1 in
    rw (p.1, p.2) (first_fails c.args.names.now (operand_atoms (operand_form c.args.a.now)) (operand_atoms (operand_form c.args.b.now)) _ c.in_err-add_operand.ensures.named)

pub returns-clause-named : goal.returns-clause-named
returns-clause-named c = goes_on _ c.add_operand-2.result c.args.names.now c.add_operand.new.names (operand_atoms (operand_form c.args.a.now)) (operand_atoms (operand_form c.args.b.now)) c.in_ok-add_operand.ensures.named c.add_operand-2.ensures.named

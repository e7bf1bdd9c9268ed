-- The word of a complex constant tells where its image stands.
use Rattle.std.proofs.Common.{ap, ◌∙◌}
use Rattle.std.proofs.lemmas.Result.{err_from_is_err_and}
use Rattle.mod_core.specs.declared.code.Operand.TheVariants.{Const}
use Rattle.mod_core.proofs.ReadOperands.{constant_word}
use Rattle.mod_core.proofs.instr_reading.read_operand.Goals as goal

pub returns-in_err-term-in-5 : goal.returns-in_err-term-in-5
returns-in_err-term-in-5 c =
    let p = err_from_is_err_and c.from_residual.result c.from_residual.ensures.1 in
    rw (p.1, p.2) (λ o is. let at = constant_word c.args.words.now c.args.word o c.in-5.is is in c.in_err-term-in-5.ensures at.term at.image)

pub returns-in_ok-term-in-5 : goal.returns-in_ok-term-in-5
returns-in_ok-term-in-5 c = λ o is. let at = constant_word c.args.words.now c.args.word o c.in-5.is is in ap Const (c.in_ok-term-in-5.ensures at.term at.image) ∙ at.operand_is

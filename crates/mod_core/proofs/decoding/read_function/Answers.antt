-- The head of the function tells its name, its arity and whether it is exported.
use Rattle.std.proofs.Common.{◌∙◌, ap}
use Rattle.mod_core.specs.Decoding.{number_from}
use Rattle.mod_core.proofs.Heads.{function_told}
use Rattle.mod_core.proofs.decoding.read_function.Goals as goal

pub returns-clause-function : goal.returns-clause-function
returns-clause-function c = λ m f h so_far.
    function_told c.args.words.now m c.args.number f h c.number_from-name.result c.word_at-arity.result (c.number_from-name.ensures ∙ ap number_from c.word_at.ensures) c.word_at-arity.ensures c.number_from.result c.number_from.ensures c.in_ok-code.code (c.in_ok-code.ensures.code m f h so_far)

-- The code is the whole row, with numbers for places, and what is left is left without its constants.
use Rattle.mod_core.proofs.ReadRows.{read_code_is, left_behind_function}
use Rattle.mod_core.proofs.code_reading.read_code.Goals as goal

pub returns-clause-code : goal.returns-clause-code
returns-clause-code c = λ m f h so_far.
    read_code_is c.args.words.now m c.args.number f h c.in_ok-row.row (c.in_ok-row.ensures m f h so_far) c.as_slice.result.now c.as_slice.ensures c.numbered.result c.numbered.ensures

pub returns-clause-left : goal.returns-clause-left
returns-clause-left c = λ m f h so_far. left_behind_function c.args.words.now m c.args.number f h c.in_ok-row.row (c.in_ok-row.ensures m f h so_far)

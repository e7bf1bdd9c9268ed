-- The zeros are enough.
use Rattle.std.proofs.Common.{◌∙◌, ap, arith, take}
use Rattle.machine_core.specs.Process.{no_held}
use Rattle.machine_core.proofs.FirstRegisters.{enough_follow}
use Rattle.machine_core.proofs.registers.fill.Goals as goal

pub returns : goal.returns
returns c =
    c.truncate.ensures.items ∙ ap (take 16) c.in_ok-push_zeros.ensures
    ∙ enough_follow 16 c.saturating_sub-missing.result 16 c.args.values.now.items no_held (omega (arith, c.saturating_sub-missing.ensures, c.len.ensures)) (omega arith)

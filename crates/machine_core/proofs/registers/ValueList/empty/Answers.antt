-- All are 0.
use Rattle.std.proofs.Common.{◌∙◌, ap}
use Rattle.machine_core.specs.Process.{entered_values, no_held}
use Rattle.machine_core.proofs.FirstRegisters.{all_same}
use Rattle.machine_core.proofs.registers.ValueList.empty.Goals as goal

pub returns : goal.returns
returns c = c.in_ok-fill.ensures ∙ ap entered_values (c.self.view_is ∙ c.set_zeros.ensures) ∙ all_same 16 c.args.self.now no_held

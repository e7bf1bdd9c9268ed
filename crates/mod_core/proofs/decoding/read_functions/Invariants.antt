-- The functions so far are the first ones of the module.
use Rattle.std.proofs.Common.{◌≡◌}
use Rattle.mod_core.specs.declared.code.Module.{Module}
use Rattle.mod_core.specs.Module.{IsModule}
use Rattle.mod_core.specs.ModuleImage.{module_image}
use Rattle.mod_core.proofs.Heads.{HasRead}
use Rattle.mod_core.proofs.decoding.read_functions.Given as goal

abbrev pub invariant-loop-number : goal.invariant-loop-number
invariant-loop-number l = (m : Module) → IsModule m → l.words ≡ module_image m → HasRead m l.number l.functions l.left

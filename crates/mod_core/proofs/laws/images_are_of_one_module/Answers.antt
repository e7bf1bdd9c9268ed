-- Words tell each part of the one module.
use Rattle.std.proofs.Common.{refl}
use Rattle.mod_core.specs.ModuleImage.{module_image}
use Rattle.mod_core.proofs.Unique.{modules_same, one_module}
use Rattle.mod_core.proofs.laws.images_are_of_one_module.Goals as goal

pub returns-clause-words : goal.returns-clause-words
returns-clause-words c = one_module

pub returns-clause-images : goal.returns-clause-images
returns-clause-images c = λ m n is_module is_other same. modules_same (module_image m) m n is_module is_other refl same

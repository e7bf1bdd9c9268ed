-- A module is its title and its functions.
use Rattle.mod_core.proofs.ValidLemmas.{module_is, functions_are}
use Rattle.mod_core.proofs.validity.validate.Goals as goal

pub returns-then-has_title : goal.returns-then-has_title
returns-then-has_title c = (
  λ yes. module_is c.args.module.now _ c.as_slice.ensures (c.has_title.ensures.0 c.if-has_title.true) (c.is_function_list.ensures.0 yes),
  λ is. c.is_function_list.ensures.1 (functions_are c.args.module.now _ c.as_slice.ensures is),
)

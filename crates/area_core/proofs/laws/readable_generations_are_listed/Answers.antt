use Rattle.area_core.proofs.Held.{readable_held, held_readable}
use Rattle.area_core.proofs.laws.readable_generations_are_listed.Goals as goal

-- the list has the newest generation and those that members and watchers hold
pub returns : goal.returns
returns c = λ s g sound. (held_readable s sound g, readable_held s sound g)

-- A load's change publishes the generation that it was decided for.
use Rattle.std.proofs.Common.{◌≡◌, Some, sym, ap, subst, ◌∙◌, ◌+◌}
use Rattle.server_core.specs.Decided.{Fits, change_made}
use Rattle.write_permit.proofs.Loads.{all_generation}
use Rattle.write_permit.proofs.foretold.published_by.Goals as goal

pub returns-in-BringIn : goal.returns-in-BringIn
returns-in-BringIn c = λ s fits.
    subst (λ x. Some c.in-BringIn.generation ≡ (change_made s x).answer.published) (sym c.in-BringIn.is)
    (ap Some ((subst (Fits s) c.in-BringIn.is fits).0 ∙ ap (λ n. n + 1) (sym (all_generation s c.in-BringIn.modules.items))))

-- The first of the retired areas is one of them.
use Rattle.std.proofs.Common.{slice_get, ap, ◌∙◌}
use Rattle.server_core.proofs.Retiring.{first_waits, none_waits}
use Rattle.server_core.proofs.server.Server.oldest_retired.Goals as goal

pub returns-clause-waits : goal.returns-clause-waits
returns-clause-waits c = first_waits c.args.self.now.retired c.oldest.result (c.oldest.ensures ∙ ap (λ s. slice_get s.retired 0) c.self.view_is)

pub returns-clause-none : goal.returns-clause-none
returns-clause-none c = none_waits c.args.self.now.retired c.oldest.result (c.oldest.ensures ∙ ap (λ s. slice_get s.retired 0) c.self.view_is)

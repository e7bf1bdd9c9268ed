-- What was dropped next behind an area is one of the retired ones.
use Rattle.std.proofs.Common.{ap, ◌∙◌}
use Rattle.server_core.specs.ServerState.{serial_behind}
use Rattle.server_core.proofs.Retiring.{behind_waits}
use Rattle.server_core.proofs.server.Server.retired_behind.Goals as goal

pub returns-clause-waits : goal.returns-clause-waits
returns-clause-waits c = behind_waits c.args.self.now.retired c.args.serial c.behind.result (c.behind.ensures ∙ ap (λ s. serial_behind s.retired c.args.serial) c.self.view_is)

-- The map has the key where the key holds a term.
use Rattle.std.proofs.Common.{ap}
use Rattle.server_core.proofs.KeyEntries.{holds_shown}
use Rattle.server_core.proofs.keys.KeyTable.holds.Goals as goal

pub returns : goal.returns
returns c = holds_shown c.self.inside.held.entries c.args.self.now.persistents c.args.key.0 c.contains_key.result (ap (λ r. r.persistents) c.self.view_is) c.contains_key.ensures

-- The terms that are compared are the one of the key and the one of the put.
use Rattle.std.proofs.Common.{ap, ◌∙◌}
use Rattle.term_core.specs.Plain.{plain}
use Rattle.server_core.specs.CommandTable.{holds_equal}
use Rattle.server_core.proofs.KeyEntries.{held_shown}
use Rattle.server_core.proofs.keys.KeyTable.holds_equal.Goals as goal

pub returns-in-Some : goal.returns-in-Some
returns-in-Some c =
    c.eq.ensures ∙ ap (λ o. holds_equal o (plain c.args.term.now)) (held_shown c.self.inside.held.entries c.args.self.now.persistents c.args.key.0 _ (ap (λ r. r.persistents) c.self.view_is) c.in-Some.ensures.value)

pub returns-in-None : goal.returns-in-None
returns-in-None c =
    ap (λ o. holds_equal o (plain c.args.term.now)) (held_shown c.self.inside.held.entries c.args.self.now.persistents c.args.key.0 _ (ap (λ r. r.persistents) c.self.view_is) c.in-None.ensures.value)

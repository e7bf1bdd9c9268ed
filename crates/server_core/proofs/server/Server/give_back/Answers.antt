-- The tables after the change are the state that a release leaves.
use Rattle.std.proofs.Common.{◌≡◌, ap, ◌∙◌, sym, subst}
use Rattle.server_core.specs.CommandTable.{with_released}
use Rattle.server_core.specs.ServerState.{IsSound}
use Rattle.server_core.specs.Tables.{state_of}
use Rattle.server_core.proofs.Soundness.{sound_released}
use Rattle.server_core.proofs.server.Server.give_back.Goals as goal

state_after : (c : goal.After-unpublished) → with_released c.args.self.now c.args.serial ≡ state_of (record c.self.inside { retired = c.remove.new.self; released = c.push.new.self })
state_after c =
    ap (λ s. with_released s c.args.serial) (sym c.self.view_is)
    ∙ (λ i. record (state_of c.self.inside) { retired = sym c.remove.ensures i; released = sym c.push.ensures i })

pub invariant_of-self : goal.invariant_of-self
invariant_of-self c =
    subst IsSound (state_after c) (sound_released c.args.self.now c.args.serial (subst IsSound c.self.view_is c.self.invariant) c.requires.retired)

pub returns-clause-sound : goal.returns-clause-sound
returns-clause-sound c = invariant_of-self c

-- The tables after the change are the state that a delete leaves.
use Rattle.std.proofs.Common.{◌≡◌, ◌+◌, ap, ◌∙◌, sym, subst}
use Rattle.server_core.specs.declared.command.Reply.TheVariants as replies
use Rattle.server_core.specs.CommandTable.{published, with_deleted}
use Rattle.server_core.specs.ServerState.{IsSound}
use Rattle.server_core.specs.Tables.{state_of}
use Rattle.server_core.proofs.Soundness.{published_as, sound_deleted, sound_published}
use Rattle.server_core.proofs.server.Server.make_old.Goals as goal

state_after : (c : goal.After-published) → (published (with_deleted c.args.self.now c.args.«module».0) replies.True).state ≡ state_of (record c.self.inside { generation = c.args.generation; versions = c.make_old.new.self })
state_after c =
    let name = c.args.«module».0 in
    let next = ap (λ s. s.generation + 1) c.self.view_is ∙ sym c.requires.next in
    ap (λ s. (published (with_deleted s name) replies.True).state) (sym c.self.view_is)
    ∙ (λ i. record (state_of c.self.inside) { generation = next i; versions = sym c.make_old.ensures i })

pub invariant_of-self : goal.invariant_of-self
invariant_of-self c =
    subst IsSound (state_after c) (sound_published (with_deleted c.args.self.now c.args.«module».0) _ (sound_deleted c.args.self.now c.args.«module».0 (subst IsSound c.self.view_is c.self.invariant) c.requires.code.rest))

pub returns-clause-value : goal.returns-clause-value
returns-clause-value c = published_as (with_deleted c.args.self.now c.args.«module».0) _ replies.True c.published.result (state_after c) c.published.ensures

pub returns-clause-sound : goal.returns-clause-sound
returns-clause-sound c = invariant_of-self c

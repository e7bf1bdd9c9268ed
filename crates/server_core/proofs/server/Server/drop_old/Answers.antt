-- The tables after the change are the state that the end of a purge leaves.
use Rattle.std.proofs.Common.{◌≡◌, ◌+◌, ap, ◌∙◌, sym, subst, Some, None}
use Rattle.server_core.specs.declared.command.Reply.TheVariants as replies
use Rattle.server_core.specs.CommandTable.{answered, published, with_purged, without_number}
use Rattle.server_core.specs.Decided.{RetiredFits}
use Rattle.server_core.specs.ServerState.{IsSound, old_of}
use Rattle.server_core.specs.Tables.{state_of}
use Rattle.server_core.proofs.Retiring.{old_can_retire}
use Rattle.server_core.proofs.Soundness.{published_as, sound_published, sound_purged}
use Rattle.server_core.proofs.server.Server.drop_old.Goals as goal

pub push-requires : goal.push-requires
push-requires c =
    let was = ap (λ s. old_of s c.args.«module».0) c.self.view_is ∙ c.requires.code.old in
    old_can_retire (state_of c.self.inside) c.args.«module».0 c.args.serial c.args.retired c.self.invariant was (subst (λ s. RetiredFits s c.args.retired) (sym c.self.view_is) c.requires.room)

state_after : (c : goal.After-published)
    → (published (with_purged c.args.self.now c.args.«module».0 c.args.serial) replies.True).state
    ≡ state_of (record c.self.inside { generation = c.args.generation; versions = c.drop_old.new.self; traced = c.forget.new.self; doomed = None; retired = c.push.new.self })
state_after c =
    let name = c.args.«module».0 in
    let serial = c.args.serial in
    let next = ap (λ s. s.generation + 1) c.self.view_is ∙ sym c.requires.next in
    let none = ap (λ s. without_number serial s.doomed) c.self.view_is ∙ c.requires.code.doomed in
    ap (λ s. (published (with_purged s name serial) replies.True).state) (sym c.self.view_is)
    ∙ (λ i. record (state_of c.self.inside) { generation = next i; versions = sym c.drop_old.ensures i; traced = sym c.forget.ensures i; doomed = none i; retired = sym c.push.ensures i })

pub invariant_of-self : goal.invariant_of-self
invariant_of-self c =
    let before = subst IsSound c.self.view_is c.self.invariant in
    subst IsSound (state_after c) (sound_published (with_purged c.args.self.now c.args.«module».0 c.args.serial) _ (sound_purged c.args.self.now c.args.«module».0 c.args.serial before c.requires.code.old c.requires.code.doomed))

pub returns-clause-value : goal.returns-clause-value
returns-clause-value c =
    published_as (with_purged c.args.self.now c.args.«module».0 c.args.serial) _ (answered c.args.yes) c.published.result (state_after c) (c.published.ensures ∙ (λ i. record { reply = c.answered.ensures i; published = Some c.args.generation }))

pub returns-clause-sound : goal.returns-clause-sound
returns-clause-sound c = invariant_of-self c

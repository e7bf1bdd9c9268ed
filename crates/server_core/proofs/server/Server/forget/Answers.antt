-- The tables after the change are the state that an erase leaves.
use Rattle.std.proofs.Common.{◌≡◌, ◌+◌, ◌++◌, ap, ◌∙◌, sym, subst}
use Rattle.std.specs.Option.{option_to_list}
use Rattle.server_core.specs.declared.command.Reply.TheVariants as replies
use Rattle.server_core.specs.CommandTable.{published, with_erased}
use Rattle.server_core.specs.Decided.{RetiredFits}
use Rattle.server_core.specs.ServerState.{IsSound, key_area}
use Rattle.server_core.specs.Tables.{state_of}
use Rattle.server_core.proofs.KeyChanges.{sound_erased}
use Rattle.server_core.proofs.Retiring.{given_can_retire}
use Rattle.server_core.proofs.Soundness.{published_as, sound_published}
use Rattle.server_core.proofs.server.Server.forget.Goals as goal

pub push_some-requires : goal.push_some-requires
push_some-requires c =
    given_can_retire (state_of c.self.inside) c.args.key.0 c.erase-former.result c.args.retired c.self.invariant (subst (λ s. RetiredFits s c.args.retired) (sym c.self.view_is) c.requires.retired) c.erase-former.ensures.former

retired : (c : goal.After-published) → c.push_some.new.self ≡ c.self.inside.retired ++ option_to_list (key_area (state_of c.self.inside) c.args.key.0)
retired c = c.push_some.ensures ∙ (λ i. c.self.inside.retired ++ option_to_list (c.erase-former.ensures.former i))

state_after : (c : goal.After-published) → (published (with_erased c.args.self.now c.args.key.0) replies.True).state ≡ state_of (record c.self.inside { generation = c.args.generation; keys = c.erase-former.new.self; retired = c.push_some.new.self })
state_after c =
    let next = ap (λ s. s.generation + 1) c.self.view_is ∙ sym c.requires.next in
    ap (λ s. (published (with_erased s c.args.key.0) replies.True).state) (sym c.self.view_is)
    ∙ (λ i. record (state_of c.self.inside) { generation = next i; keys = sym c.erase-former.ensures.persistents i; retired = sym (retired c) i })

pub invariant_of-self : goal.invariant_of-self
invariant_of-self c = subst IsSound (state_after c) (sound_published (with_erased c.args.self.now c.args.key.0) _ (sound_erased c.args.self.now c.args.key.0 (subst IsSound c.self.view_is c.self.invariant)))

pub returns-clause-value : goal.returns-clause-value
returns-clause-value c = published_as (with_erased c.args.self.now c.args.key.0) _ replies.True c.published.result (state_after c) c.published.ensures

pub returns-clause-sound : goal.returns-clause-sound
returns-clause-sound c = invariant_of-self c

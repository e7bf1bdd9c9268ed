-- The tables after the append and the versions after all loads are the state that all loads leave.
use Rattle.std.proofs.Common.{◌≡◌, ◌+◌, ◌∙◌, ap, sym, subst, length}
use Rattle.server_core.specs.declared.command.Reply.TheVariants as replies
use Rattle.server_core.specs.CommandTable.{published, with_all}
use Rattle.server_core.specs.Rooms.{with_currents}
use Rattle.server_core.specs.ServerState.{IsSound}
use Rattle.server_core.specs.Tables.{state_of}
use Rattle.server_core.proofs.CurrentCode.{names_of_modules}
use Rattle.server_core.proofs.Loads.{brought_in, sound_all}
use Rattle.server_core.proofs.Soundness.{published_as, sound_published}
use Rattle.server_core.proofs.server.Server.bring_in.Goals as goal

put : (c : goal.After-published) → c.make_all_current.new.versions.versions ≡ with_currents c.self.inside.versions.versions c.next_serial-first.result (names_of_modules c.args.modules.items)
put c = c.make_all_current.ensures ∙ (λ i. with_currents (c.make_room.ensures.same i) c.next_serial-first.result (names_of_modules (c.as_slice.ensures.value i)))

state_after : (c : goal.After-published) → (published (with_all c.args.self.now c.args.modules.items) replies.Ok).state ≡ state_of (record c.self.inside { generation = c.args.generation; areas = c.append.new.self; versions = c.make_all_current.new.versions })
state_after c =
    let first = ap (λ k. with_currents c.self.inside.versions.versions k (names_of_modules c.args.modules.items)) c.next_serial-first.ensures.value in
    brought_in c.self.inside.generation c.args.generation c.self.inside.areas c.append.new.self c.args.modules.items c.self.inside.versions.versions c.make_all_current.new.versions.versions (state_of c.self.inside) c.args.self.now c.self.view_is
    (c.requires.next ∙ ap (λ s. s.generation + 1) (sym c.self.view_is)) c.append.ensures (put c ∙ first)

pub append-requires : goal.append-requires
append-requires c = c.requires.areas (length c.self.inside.areas) (ap (λ s. s.next_serial) c.self.view_is)

pub invariant_of-self : goal.invariant_of-self
invariant_of-self c =
    subst IsSound (state_after c) (sound_published (with_all c.args.self.now c.args.modules.items) _ (sound_all c.args.self.now c.args.modules.items (subst IsSound c.self.view_is c.self.invariant) c.requires.modules.rest c.requires.modules.sound c.requires.modules.places))

pub returns-clause-value : goal.returns-clause-value
returns-clause-value c = published_as (with_all c.args.self.now c.args.modules.items) _ replies.Ok c.published.result (state_after c) c.published.ensures

pub returns-clause-sound : goal.returns-clause-sound
returns-clause-sound c = invariant_of-self c

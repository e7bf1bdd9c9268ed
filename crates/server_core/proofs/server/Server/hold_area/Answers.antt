-- The tables after the change are the state that a put of a complex term leaves.
use Rattle.std.proofs.Common.{◌≡◌, ◌+◌, ◌∷◌, [], ◌++◌, Some, length, ap, ◌∙◌, sym, subst}
use Rattle.std.specs.Option.{option_to_list}
use Rattle.term_core.specs.Plain.{plain}
use Rattle.server_core.specs.declared.areas.Area.TheVariants.{Stored}
use Rattle.server_core.specs.declared.command.Reply.TheVariants as replies
use Rattle.server_core.specs.CommandTable.{published, with_complex, with_key}
use Rattle.server_core.specs.Decided.{RetiredFits}
use Rattle.server_core.specs.Rooms.{area_among}
use Rattle.server_core.specs.ServerState.{IsSound, key_area}
use Rattle.server_core.specs.Tables.{state_of}
use Rattle.server_core.proofs.AreaPlaces.{IsStored, stored_last}
use Rattle.server_core.proofs.KeyChanges.{sound_complex}
use Rattle.server_core.proofs.Retiring.{given_can_retire}
use Rattle.server_core.proofs.Soundness.{published_as, sound_published}
use Rattle.server_core.proofs.server.Server.hold_area.Goals as goal

pub push_some-requires : goal.push_some-requires
push_some-requires c =
    let former = c.put-former.ensures.former ∙ ap (λ ps. area_among ps c.args.key.0) c.make_room.ensures.same in
    given_can_retire (state_of c.self.inside) c.args.key.0 c.put-former.result c.args.retired c.self.invariant (subst (λ s. RetiredFits s c.args.retired) (sym c.self.view_is) c.requires.retired) former

retired : (c : goal.After-published) → c.push_some.new.self ≡ c.self.inside.retired ++ option_to_list (key_area (state_of c.self.inside) c.args.key.0)
retired c =
    let former = c.put-former.ensures.former ∙ ap (λ ps. area_among ps c.args.key.0) c.make_room.ensures.same in
    c.push_some.ensures ∙ (λ i. c.self.inside.retired ++ option_to_list (former i))

keys : (c : goal.After-published) → c.put-former.new.self.persistents ≡ with_key c.self.inside.keys.persistents (record { key = c.args.key.0; term = plain c.args.term; area = Some (length c.self.inside.areas + 1) })
keys c = c.put-former.ensures.persistents ∙ (λ i. with_key (c.make_room.ensures.same i) (record { key = c.args.key.0; term = plain c.args.term; area = Some (c.next_serial-serial.ensures.value i) }))

stored : (c : goal.After-published) → IsStored c.self.inside.areas c.push.new.self (plain c.args.term)
stored c = stored_last c.self.inside.areas c.push.new.self (plain c.args.term) (c.push.ensures ∙ (λ i. c.self.inside.areas ++ Stored (c.requires.stored i) ∷ []))

state_after : (c : goal.After-published) → (published (with_complex c.args.self.now c.args.key.0 (plain c.args.term)) replies.Ok).state ≡ state_of (record c.self.inside { generation = c.args.generation; areas = c.push.new.self; keys = c.put-former.new.self; retired = c.push_some.new.self })
state_after c =
    let in_areas = stored c in
    let next = ap (λ s. s.generation + 1) c.self.view_is ∙ sym c.requires.next in
    ap (λ s. (published (with_complex s c.args.key.0 (plain c.args.term)) replies.Ok).state) (sym c.self.view_is)
    ∙ (λ i. record (state_of c.self.inside) {
      generation = next i;
      next_serial = sym in_areas.next i;
      instances = sym in_areas.instances i;
      terms = sym in_areas.terms i;
      keys = sym (keys c) i;
      retired = sym (retired c) i;
    })

pub invariant_of-self : goal.invariant_of-self
invariant_of-self c =
    let before = subst IsSound c.self.view_is c.self.invariant in
    subst IsSound (state_after c) (sound_published (with_complex c.args.self.now c.args.key.0 (plain c.args.term)) _ (sound_complex c.args.self.now c.args.key.0 (plain c.args.term) before c.requires.place.short c.requires.place.place c.requires.complex))

pub returns-clause-value : goal.returns-clause-value
returns-clause-value c = published_as (with_complex c.args.self.now c.args.key.0 (plain c.args.term)) _ replies.Ok c.published.result (state_after c) c.published.ensures

pub returns-clause-sound : goal.returns-clause-sound
returns-clause-sound c = invariant_of-self c

pub push-requires : goal.push-requires
push-requires c = c.requires.areas (length c.self.inside.areas) (ap (λ s. s.next_serial) c.self.view_is)

-- What comes in has room, a block, and then its area.
use Rattle.std.proofs.Common.{length, ◌≤◌, sym, ap, subst, ◌∙◌, [], ◌∷◌, ◌++◌, arith}
use Rattle.area_core.specs.Map.{room_of}
use Rattle.literal_areas.specs.Blocks.{first_of}
use Rattle.staging.proofs.Known.{known_words}
use Rattle.staging.proofs.PlaceCalls.{never_full, next_awaits, placed_next, room_for}
use Rattle.staging.proofs.placing.place_next.Goals as goal

pub place-requires-clause-room : goal.place-requires-clause-room
place-requires-clause-room g c =
    subst (λ words. length words ≤ room_of (first_of c.incoming_pool.result)) (sym c.as_slice.ensures)
    (room_for c.args._server.now c.args.change.now c.requires.fits c.args.at c.next_serial-serial.result c.in_ok-words.words c.incoming_pool.result c.in_ok-words.ensures c.incoming_pool.ensures)

pub returns-in-Area-clause-placed : goal.returns-in-Area-clause-placed
returns-in-Area-clause-placed g c =
    placed_next g.K.Naming.names c.args._server.now c.args.change.now c.args.tables.now c.place.new.tables c.args.taken.now.items c.args.at c.next_serial-serial.result c.in_ok-words.words c.as_slice.result.now c.incoming_pool.result c.place.result c.in-Area.area _
    c.requires.fits c.requires.placed c.requires.next c.next_serial-serial.ensures (omega (arith, c.if-serial-ge-SERIALS_END.false)) c.in_ok-words.ensures c.as_slice.ensures c.incoming_pool.ensures c.place.ensures.answers c.in-Area.is
    (c.push_reserved.ensures.items ∙ ap (λ items. items ++ c.in-Area.area ∷ []) c.in_ok-reserve.ensures.items)

pub returns-in-AwaitRelease-clause-answers : goal.returns-in-AwaitRelease-clause-answers
returns-in-AwaitRelease-clause-answers g c = (
  ap length c.in_ok-reserve.ensures.items ∙ sym c.requires.next,
  next_awaits c.args.change.now c.args.tables.now c.place.new.tables c.args.taken.now.items _ c.args.at c.next_serial-serial.result c.in_ok-words.words c.incoming_pool.result
      c.requires.next c.in_ok-reserve.ensures.items c.in_ok-words.ensures c.incoming_pool.ensures c.in-AwaitRelease.ensures.answers,
)

pub unreachable-requires : goal.unreachable-requires
unreachable-requires g c =
    never_full g.K.Naming.names c.args._server.now c.args.change.now c.args.tables.now c.args.taken.now.items c.args.at c.next_serial-serial.result c.in_ok-words.words c.incoming_pool.result
    c.requires.fits c.requires.placed c.requires.tables.pools.sound.sizes c.requires.next c.in_ok-words.ensures c.incoming_pool.ensures c.in-AllLive.ensures.answers.why

pub returns-in-Area-clause-known : goal.returns-in-Area-clause-known
returns-in-Area-clause-known g c = known_words _ _ c.in-Area.ensures.answers.stored.same

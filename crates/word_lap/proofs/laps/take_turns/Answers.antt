use Rattle.std.proofs.Common.{◌≡◌, Some, refl, subst, sym, arith}
use Rattle.std.specs.Prelude.{slice_get}
use Rattle.std.proofs.lemmas.Option.{slice_get_read}
use Rattle.anchors.specs.Holds.{view_of}
use Rattle.word_lap.proofs.TurnsOfLap.{lap_begins, lap_where_ok, ready_at, some_now}
use Rattle.word_lap.proofs.laps.take_turns.Goals as goal

-- no place had its turn yet
pub loop-at-init : goal.loop-at-init
loop-at-init g c = lap_begins _ _ _ _ _ c.requires.kept c.requires.token c.requires.between

-- what stands at the place may have its turn
pub turn_at-back-requires-clause-ready : goal.turn_at-back-requires-clause-ready
turn_at-back-requires-clause-ready g c lifetimes outlive =
    let now = c.loop-at.processes.items in
    let at : slice_get now c.loop-at.at ≡ Some c.take-place.result =
    subst (λ x. slice_get now c.loop-at.at ≡ Some x) (sym c.take-place.ensures.value)
    (slice_get_read now _ c.loop-at.at c.index_mut.result.now refl (omega (arith, c.loop-at-test.true, c.len-at-end.ensures, c.args.processes.now.ok.0, c.loop-at.invariant.as_many)) c.index_mut.ensures.value) in
    ready_at c.args.exports.now c.args.shared.now.table.shared.key (view_of c.loop-at.member) now c.loop-at.at c.take-place.result
    (some_now c.args.exports.now c.args.shared.now.table.shared.key c.args.shared.now.table.shared.table_id c.args.member c.args.processes.now.items c.requires.kept c.loop-at.at c.loop-at.member now c.loop-at.invariant) at

-- one more had its turn
pub loop-at-preserved : goal.loop-at-preserved
loop-at-preserved g c =
    let now = c.loop-at.processes.items in
    let at : slice_get now c.loop-at.at ≡ Some c.take-place.result =
    subst (λ x. slice_get now c.loop-at.at ≡ Some x) (sym c.take-place.ensures.value)
    (slice_get_read now _ c.loop-at.at c.index_mut.result.now refl (omega (arith, c.loop-at-test.true, c.len-at-end.ensures, c.args.processes.now.ok.0, c.loop-at.invariant.as_many)) c.index_mut.ensures.value) in
    let had = c.turn_at-back in
    lap_where_ok c.args.exports.now c.args.shared.now.table.shared.key c.args.shared.now.table.shared.table_id c.args.member c.args.processes.now.items c.requires.kept c.loop-at.at c.loop-at.member now c.loop-at.invariant
    had.result.0 c.take-place.result c.in-Ok.after c.take-place.new.self had.result.1 at c.take-place.ensures.after c.in-Ok.is had.ensures.token had.ensures.number had.ensures.turn

use Rattle.std.proofs.Common.{List, ◌+◌, length, refl, subst, sym}
use Rattle.std.proofs.lemmas.Option.{slice_get_read}
use Rattle.span_check.specs.declared.standing.Standing.{Standing}
use Rattle.legality.specs.Sweeps.{AreBegun}
use Rattle.legality.proofs.Begins.{begun_reached, one_begun}
use Rattle.legality.proofs.judging.stand_first.Goals as goal

-- one more stands
pub loop-number-preserved : goal.loop-number-preserved
loop-number-preserved c =
    let processes = c.args.processes.now in
    subst (AreBegun processes (c.loop-number.number + 1)) (sym {A = List Standing} c.in_ok-push.ensures.items)
    (one_begun processes c.loop-number.number c.loop-number.standings.items c.index-processes-number.result c.in_ok-new.field-0 c.loop-number.invariant
    (slice_get_read processes (length processes) c.loop-number.number c.index-processes-number.result refl c.loop-number-test.true c.index-processes-number.is)
    (record { stands = c.in_ok-new.ensures.stands; reached = begun_reached c.index-processes-number.result c.in_ok-new.field-0 c.in_ok-new.ensures.reached; ready = c.in_ok-new.ensures.ready; named = c.in_ok-new.ensures.named }))

use Rattle.std.proofs.Common.{ap, get_or, subst, sym}
use Rattle.legality.specs.Sweeps.{AreWatches}
use Rattle.legality.proofs.Taking.{all_taken, next_may, next_refused, next_taken, none_taken}
use Rattle.legality.proofs.spans.take_all_spans.Goals as goal

pub take_spans-requires : goal.take_spans-requires
take_spans-requires c =
    let standing = get_or c.loop-number.standings c.loop-number.number c.index-standings-number.result in
    let may =
    next_may c.args.server.now c.args.ahead.now c.args.processes.now c.args.standings.now c.loop-number.standings c.loop-number.number c.loop-number.invariant c.index-processes-number.result standing c.loop-number-test.true c.requires.many
    c.index-processes-number.is (ap (get_or c.loop-number.standings c.loop-number.number) c.index-standings-number.is) c.requires.each in
    let are = subst (AreWatches c.args.server.now c.loop-number.number c.args.ahead.now) (sym c.as_slice.ensures.value) c.in_ok-watches.ensures in
    record { falls = may.falls; reached = may.reached; ready = may.ready; named = may.named; order = are.order }

pub loop-number-init : goal.loop-number-init
loop-number-init c = none_taken c.args.server.now c.args.ahead.now c.args.processes.now c.args.standings.now

pub returns-then-not-branch : goal.returns-then-not-branch
returns-then-not-branch c =
    let standing = get_or c.loop-number.standings c.loop-number.number c.index-standings-number.result in
    next_refused c.args.server.now c.args.ahead.now c.args.processes.now c.args.standings.now c.loop-number.standings c.loop-number.number c.loop-number.invariant c.index-processes-number.result standing c.loop-number-test.true c.requires.many
    c.index-processes-number.is (ap (get_or c.loop-number.standings c.loop-number.number) c.index-standings-number.is) c.as_slice.result.now
    (subst (AreWatches c.args.server.now c.loop-number.number c.args.ahead.now) (sym c.as_slice.ensures.value) c.in_ok-watches.ensures) (c.in_ok-take_spans.ensures.refused c.if-not-branch.true)

pub loop-number-preserved : goal.loop-number-preserved
loop-number-preserved c =
    let standing = get_or c.loop-number.standings c.loop-number.number c.index-standings-number.result in
    next_taken c.args.server.now c.args.ahead.now c.args.processes.now c.args.standings.now c.loop-number.standings c.loop-number.number c.loop-number.invariant c.index-processes-number.result standing c.loop-number-test.true c.requires.many
    c.index-processes-number.is (ap (get_or c.loop-number.standings c.loop-number.number) c.index-standings-number.is) c.as_slice.result.now c.take_spans.new.standing
    (subst (AreWatches c.args.server.now c.loop-number.number c.args.ahead.now) (sym c.as_slice.ensures.value) c.in_ok-watches.ensures) (c.in_ok-take_spans.ensures.taken c.if-not-branch.false)

pub returns : goal.returns
returns c = all_taken c.args.server.now c.args.ahead.now c.args.processes.now c.args.standings.now c.loop-number.standings c.loop-number.number c.loop-number.invariant c.loop-number-test.false

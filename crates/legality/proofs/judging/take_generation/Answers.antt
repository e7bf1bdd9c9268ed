use Rattle.std.proofs.Common.{◌<◌, ◌≤◌, ◌^◌, ◌∙◌, ap, is_none, length, slice_get, subst, sym}
use Rattle.std.proofs.lemmas.Option.{none-some}
use Rattle.legality.specs.Breaches.{IsBroken}
use Rattle.legality.specs.Sweeps.{watched_ahead}
use Rattle.legality.proofs.Generations.{all_judged, may_be_taken, of_texts, shots_refused, spans_refused}
use Rattle.legality.proofs.Texts.{few}
use Rattle.legality.proofs.judging.take_generation.Goals as goal

pub see_snapshots-requires-clause-texts : goal.see_snapshots-requires-clause-texts
see_snapshots-requires-clause-texts c = of_texts c.args.script.now c.args.log.now c.args.known.now.watched c.args.place c.args.sweep.now c.requires.made

pub returns-then-not-branch-clause-on : goal.returns-then-not-branch-clause-on
returns-then-not-branch-clause-on c = λ none. absurd (none-some _ (sym none))

pub returns-then-not-branch-clause-off : goal.returns-then-not-branch-clause-off
returns-then-not-branch-clause-off c = λ others.
    shots_refused c.args.script.now c.args.log.now c.args.known.now.watched c.args.place c.args.sweep.now c.requires.made c.requires.shaped c.as_slice.result.now c.as_slice.ensures c.deref_mut.result.now c.see_snapshots.new.seen c.deref_mut.ensures.value
    c.see_snapshots.auto.seen c.in_ok-see_snapshots.field-0 c.if-not-branch.true c.in_ok-see_snapshots.ensures

pub watched_ahead-ahead-requires : goal.watched_ahead-ahead-requires
watched_ahead-ahead-requires c = subst (λ j. c.args.place ≤ length j) (sym c.as_slice-2.ensures) c.requires.made.here.within

pub take_all_spans-requires-clause-few : goal.take_all_spans-requires-clause-few
take_all_spans-requires-clause-few c =
    subst (λ ps. length ps < 2 ^ 32) (sym c.as_slice-3.ensures) (few c.args.script.now c.requires.script c.args.log.now.processes c.requires.shaped.complete.processes)

pub take_all_spans-requires-clause-each : goal.take_all_spans-requires-clause-each
take_all_spans-requires-clause-each c = λ number process standing at is.
    may_be_taken c.args.script.now c.args.log.now c.args.known.now.watched c.args.place c.args.sweep.now c.requires.made c.requires.shaped number process standing
    (ap (λ ps. slice_get ps number) (sym c.as_slice-3.ensures) ∙ at) (ap (λ xs. slice_get xs number) (sym c.deref_mut-2.ensures.value) ∙ is)

pub returns-in-None-clause-on : goal.returns-in-None-clause-on
returns-in-None-clause-on c = λ none.
    all_judged c.args.script.now c.args.log.now c.args.known.now.watched c.args.place c.args.sweep.now c.requires.made c.requires.shaped c.as_slice.result.now c.as_slice.ensures c.deref_mut.result.now c.see_snapshots.new.seen c.deref_mut.ensures.value
    c.see_snapshots.auto.seen c.watched_ahead-ahead.result.now (c.watched_ahead-ahead.ensures ∙ ap (watched_ahead c.args.known.now.watched c.args.place) c.as_slice-2.ensures) c.as_slice-3.result.now c.as_slice-3.ensures
    c.deref_mut-2.result.now c.take_all_spans.new.standings c.deref_mut-2.ensures.value c.take_all_spans.auto.standings c.in_ok-see_snapshots.field-0 _ c.if-not-branch.false (ap is_none c.in-None.is) c.in_ok-see_snapshots.ensures c.in_ok-take_all_spans.ensures

pub returns-in-Some-clause-on : goal.returns-in-Some-clause-on
returns-in-Some-clause-on c = λ none. absurd (none-some _ (sym none))

pub returns-in-Some-clause-off : goal.returns-in-Some-clause-off
returns-in-Some-clause-off c =
    subst (IsBroken c.args.known.now.watched c.args.script.now c.args.log.now) (sym c.clause_of_spans.ensures)
    (spans_refused c.args.script.now c.args.log.now c.args.known.now.watched c.args.place c.args.sweep.now c.requires.made c.requires.shaped c.as_slice.result.now c.as_slice.ensures c.deref_mut.result.now c.see_snapshots.new.seen c.deref_mut.ensures.value
    c.see_snapshots.auto.seen c.watched_ahead-ahead.result.now (c.watched_ahead-ahead.ensures ∙ ap (watched_ahead c.args.known.now.watched c.args.place) c.as_slice-2.ensures) c.as_slice-3.result.now c.as_slice-3.ensures
    c.deref_mut-2.result.now c.take_all_spans.new.standings c.deref_mut-2.ensures.value c.take_all_spans.auto.standings _ (ap is_none c.in-Some.is) c.in_ok-take_all_spans.ensures)

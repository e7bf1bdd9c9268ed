-- The log stands behind the spans, with what its process then names.
use Rattle.std.proofs.Common.{◌≡◌, ◌<◌, ◌∙◌, is_some, refl, sym, ap, subst, arith, drop, length}
use Rattle.std.specs.List.{AllByRecursion}
use Rattle.term_core.proofs.Truths.{none_by}
use Rattle.machine_core.specs.Process.{process_of}
use Rattle.machine_core.specs.View.{server_words}
use Rattle.span_check.specs.Standings.{AreNames}
use Rattle.span_check.specs.Sweeps.{AreJudgedSo, spans_from}
use Rattle.span_check.proofs.Moving.{taken_is, taken_length}
use Rattle.span_check.proofs.standing.move_on.Goals as goal

pub take_all-requires : goal.take_all-requires
take_all-requires c =
    let gone = c.args.standing.now.gone in
    let e = taken_is c.args.log.now c.as_slice-spans.result.now gone c.args.here c.as_slice-spans.ensures in
    record {
      some = subst (λ xs. 0 < length xs) (sym e) (omega (arith, taken_length c.args.log.now gone c.args.here c.requires.room, c.requires.some));
      here = subst (AllByRecursion (λ x. x.generation ≡ c.args.server.now.generation)) (sym e) c.requires.here;
      ready = c.requires.ready;
      within = c.requires.within;
      order = c.requires.order;
      later = c.requires.later;
    }

pub returns-clause-moved : goal.returns-clause-moved
returns-clause-moved c =
    let s = c.args.server.now in
    let words = server_words s in
    let gone = c.args.standing.now.gone in
    let p = process_of words c.args.standing.now.process in
    let now = process_of words c.take_all.new.process in
    let all = drop c.args.told.now c.args.watches.now in
    let left = drop c.take_all.new.told c.args.watches.now in
    let judged =
    subst (λ xs. AreJudgedSo s xs c.end_at-fin.result p now all left c.in_ok-taken.taken) (taken_is c.args.log.now c.as_slice-spans.result.now gone c.args.here c.as_slice-spans.ensures) c.in_ok-taken.ensures.judged in
    record {
      gone = refl;
      ended = c.is_some-standing.ensures ∙ ap is_some c.end_at-fin.ensures;
      judged = subst (λ f. AreJudgedSo s (spans_from c.args.log.now gone c.args.here) f p now all left c.in_ok-taken.taken) c.end_at-fin.ensures judged;
      named = subst (λ fs. AreNames fs c.in_ok-standing.field-0) c.as_slice.ensures c.in_ok-standing.ensures;
      ready = λ taken going. c.in_ok-taken.ensures.ready taken (none_by c.end_at-fin.result (sym c.is_some-standing.ensures ∙ going));
    }

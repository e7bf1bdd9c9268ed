-- The spans before the last one go on, and the last one ends the process.
use Rattle.std.proofs.Common.{◌≡◌, ◌-◌, IfOk, sym, subst, arith, drop, length, take}
use Rattle.machine_core.specs.Process.{process_of}
use Rattle.machine_core.specs.View.{server_words}
use Rattle.span_check.specs.Sweeps.{AreJudged, EndsNotSo, IsEndJudged}
use Rattle.span_check.proofs.Lists.{all_take, last_at, last_split, read_at}
use Rattle.span_check.proofs.Taking.{end_judged, front_refused, left_later}
use Rattle.span_check.proofs.spans.take_end.Goals as goal
use Rattle.run_log.proofs.ListPlaces.{all_at}

pub take_going-requires : goal.take_going-requires
take_going-requires c = record {
  here = all_take (λ x. x.generation ≡ c.args.server.now.generation) (length c.args.spans.now - 1) c.args.spans.now c.requires.here;
  ready = c.requires.ready;
  within = c.requires.within;
  order = c.requires.order;
  later = c.requires.later;
}

pub take_span-requires : goal.take_span-requires
take_span-requires c =
    let s = c.args.server.now in
    let words = server_words s in
    let p = process_of words c.args.process.now in
    let now = process_of words c.take_going.new.process in
    let xs = take (length c.args.spans.now - 1) c.args.spans.now in
    let all = drop c.args.told.now c.args.watches.now in
    let between = drop c.take_going.new.told c.args.watches.now in
    record {
      ready = c.in_ok-take_going.ensures.ready c.if-not-branch.false;
      within = c.in_ok-take_going.ensures.within;
      order = c.requires.order;
      later = left_later s xs p now all between (all_take (λ x. x.generation ≡ s.generation) (length c.args.spans.now - 1) c.args.spans.now c.requires.here)
          (subst (AreJudged s xs p now all between) c.if-not-branch.false c.in_ok-take_going.ensures.judged);
    }

pub returns-then-not-branch-clause-judged : goal.returns-then-not-branch-clause-judged
returns-then-not-branch-clause-judged c =
    let s = c.args.server.now in
    let words = server_words s in
    let p = process_of words c.args.process.now in
    let now = process_of words c.take_going.new.process in
    let xs = take (length c.args.spans.now - 1) c.args.spans.now in
    let all = drop c.args.told.now c.args.watches.now in
    let between = drop c.take_going.new.told c.args.watches.now in
    let last = last_split c.args.spans.now c.requires.some in
    subst (λ ys. EndsNotSo s ys c.args.fin p all) (sym last.1) (front_refused s xs last.0 c.args.fin p all (subst (AreJudged s xs p now all between) c.if-not-branch.true c.in_ok-take_going.ensures.judged))

pub returns-clause-judged : goal.returns-clause-judged
returns-clause-judged c =
    let s = c.args.server.now in
    let words = server_words s in
    let p = process_of words c.args.process.now in
    let now = process_of words c.take_going.new.process in
    let next = process_of words c.take_span.new.process in
    let n = length c.args.spans.now - 1 in
    let xs = take n c.args.spans.now in
    let span = c.index-spans-last.result in
    let all = drop c.args.told.now c.args.watches.now in
    let between = drop c.take_going.new.told c.args.watches.now in
    let left = drop c.take_span.new.told c.args.watches.now in
    let at = read_at c.args.spans.now n span (omega (arith, c.requires.some)) c.index-spans-last.is in
    let under = all_take (λ x. x.generation ≡ s.generation) n c.args.spans.now c.requires.here in
    subst (λ ys. IfOk c.take_span.result (IsEndJudged s ys c.args.fin p next all left)) (sym (last_at c.args.spans.now span c.requires.some at))
    (end_judged s xs p now next all between left under (subst (AreJudged s xs p now all between) c.if-not-branch.false c.in_ok-take_going.ensures.judged) span
    (all_at (λ x. x.generation ≡ s.generation) c.args.spans.now n span c.requires.here at) c.args.fin c.take_span.result c.take_span.ensures.judged)

-- Each span that is taken joins those before it; one that is refused refuses all.
use Rattle.std.proofs.Common.{◌≡◌, ◌+◌, sym, subst, drop, take}
use Rattle.std.proofs.lemmas.List.{take_all}
use Rattle.machine_core.specs.declared.process.TurnEnd.TheVariants.{Again}
use Rattle.machine_core.specs.Process.{process_of}
use Rattle.machine_core.specs.View.{server_words}
use Rattle.script_core.proofs.JoinedPlaces.{take_next}
use Rattle.span_check.specs.Steps.{IsSpanJudged}
use Rattle.span_check.specs.Sweeps.{AreNotTaken, AreTaken}
use Rattle.span_check.proofs.Lists.{all_take, read_at, split_here}
use Rattle.span_check.proofs.Taking.{left_later, none_taken, one_refused, one_taken}
use Rattle.std.proofs.Common.{refl}
use Rattle.span_check.proofs.spans.take_going.Goals as goal
use Rattle.run_log.proofs.ListPlaces.{all_at}

pub loop-span-init : goal.loop-span-init
loop-span-init c = record {
  taken = none_taken c.args.server.now (process_of (server_words c.args.server.now) c.args.process.now) (drop c.args.told.now c.args.watches.now) c.requires.later;
  ready = c.requires.ready;
  within = c.requires.within;
}

pub take_span-requires : goal.take_span-requires
take_span-requires c =
    let s = c.args.server.now in
    let words = server_words s in
    let i = c.loop-span.span-index in
    record {
      ready = c.loop-span.invariant.ready;
      within = c.loop-span.invariant.within;
      order = c.requires.order;
      later = left_later s (take i c.args.spans.now) (process_of words c.args.process.now) (process_of words c.loop-span.process) (drop c.args.told.now c.args.watches.now) (drop c.loop-span.told c.args.watches.now)
          (all_take (λ x. x.generation ≡ s.generation) i c.args.spans.now c.requires.here) c.loop-span.invariant.taken;
    }

pub loop-span-preserved : goal.loop-span-preserved
loop-span-preserved c =
    let s = c.args.server.now in
    let words = server_words s in
    let i = c.loop-span.span-index in
    let span = c.span-item.result in
    let p = process_of words c.args.process.now in
    let now = process_of words c.loop-span.process in
    let next = process_of words c.take_span.new.process in
    let all = drop c.args.told.now c.args.watches.now in
    let between = drop c.loop-span.told c.args.watches.now in
    let left = drop c.take_span.new.told c.args.watches.now in
    let at = read_at c.args.spans.now i span c.loop-span-test.true c.span-item.is in
    let taken = subst (IsSpanJudged s now next span Again between left) c.if-not-branch.false c.in_ok-take_span.ensures.judged in
    record {
      taken = subst (λ xs. AreTaken s xs p next all left) (sym (take_next c.args.spans.now i span at))
          (one_taken s (take i c.args.spans.now) p now all between (all_take (λ x. x.generation ≡ s.generation) i c.args.spans.now c.requires.here) c.loop-span.invariant.taken span
          (all_at (λ x. x.generation ≡ s.generation) c.args.spans.now i span c.requires.here at) next left taken);
      ready = c.in_ok-take_span.ensures.ready c.if-not-branch.false refl;
      within = c.in_ok-take_span.ensures.within;
    }

pub returns-then-not-branch-clause-judged : goal.returns-then-not-branch-clause-judged
returns-then-not-branch-clause-judged c =
    let s = c.args.server.now in
    let words = server_words s in
    let i = c.loop-span.span-index in
    let span = c.span-item.result in
    let p = process_of words c.args.process.now in
    let now = process_of words c.loop-span.process in
    let next = process_of words c.take_span.new.process in
    let all = drop c.args.told.now c.args.watches.now in
    let between = drop c.loop-span.told c.args.watches.now in
    let left = drop c.take_span.new.told c.args.watches.now in
    let at = read_at c.args.spans.now i span c.loop-span-test.true c.span-item.is in
    let refused = subst (IsSpanJudged s now next span Again between left) c.if-not-branch.true c.in_ok-take_span.ensures.judged in
    subst (λ xs. AreNotTaken s xs p all) (sym (split_here c.args.spans.now i span at))
    (one_refused s (take i c.args.spans.now) p now all between (all_take (λ x. x.generation ≡ s.generation) i c.args.spans.now c.requires.here) c.loop-span.invariant.taken span
    (all_at (λ x. x.generation ≡ s.generation) c.args.spans.now i span c.requires.here at) (drop (i + 1) c.args.spans.now) refused)

pub returns-clause-judged : goal.returns-clause-judged
returns-clause-judged c =
    let words = server_words c.args.server.now in
    subst
    (λ xs. AreTaken c.args.server.now xs (process_of words c.args.process.now) (process_of words c.loop-span.process) (drop c.args.told.now c.args.watches.now) (drop c.loop-span.told c.args.watches.now))
    (take_all c.loop-span.span-index c.args.spans.now c.loop-span-test.false) c.loop-span.invariant.taken

use Rattle.legality.proofs.SeeingAll.{all_seen, next_errs, next_seen, next_within, none_seen}
use Rattle.legality.proofs.observers.see_snapshots.Goals as goal

pub see-requires : goal.see-requires
see-requires c = record {
  functions = c.requires.functions;
  texts = c.requires.texts;
  within =
      next_within c.args.script.now.names c.args.server.now c.args.observers.now c.args.seen.now c.loop-observer.seen c.loop-observer.observer c.loop-observer.invariant c.index-observers-observer.result
      c.loop-observer-test.true c.requires.many c.index-observers-observer.is c.as_slice.result.now c.as_slice.ensures c.requires.within;
}

pub loop-observer-init : goal.loop-observer-init
loop-observer-init c = none_seen c.args.script.now.names c.args.server.now c.args.observers.now c.args.seen.now

pub returns-then-not-branch : goal.returns-then-not-branch
returns-then-not-branch c =
    next_errs c.args.script.now.names c.args.server.now c.args.observers.now c.args.seen.now c.loop-observer.seen c.loop-observer.observer c.loop-observer.invariant c.index-observers-observer.result
    c.loop-observer-test.true c.requires.many c.index-observers-observer.is c.as_slice.result.now c.see.new.seen c.in_ok-see.field-0 c.as_slice.ensures c.if-not-branch.true c.in_ok-see.ensures

pub loop-observer-preserved : goal.loop-observer-preserved
loop-observer-preserved c =
    next_seen c.args.script.now.names c.args.server.now c.args.observers.now c.args.seen.now c.loop-observer.seen c.loop-observer.observer c.loop-observer.invariant c.index-observers-observer.result
    c.loop-observer-test.true c.requires.many c.index-observers-observer.is c.as_slice.result.now c.see.new.seen c.in_ok-see.field-0 c.as_slice.ensures c.if-not-branch.false c.in_ok-see.ensures

pub returns : goal.returns
returns c = all_seen c.args.script.now.names c.args.server.now c.args.observers.now c.args.seen.now c.loop-observer.seen c.loop-observer.observer c.loop-observer.invariant c.loop-observer-test.false

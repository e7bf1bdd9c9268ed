-- The watches that are due are looked at, then the spans are taken, if there are some under the generation.
use Rattle.std.proofs.Common.{◌≡◌, ◌≤◌, ◌+◌, ◌∙◌, sym, subst, arith, drop, length}
use Rattle.std.specs.List.{AllByRecursion}
use Rattle.machine_core.specs.Process.{process_of}
use Rattle.machine_core.specs.View.{server_words}
use Rattle.span_check.specs.Sweeps.{IsMoved, count_under, spans_from}
use Rattle.span_check.proofs.GoingOn.{left_is, look_is}
use Rattle.span_check.proofs.Moving.{count_is, none_at, none_left, room_is, some_at, some_left}
use Rattle.span_check.proofs.Sweeping.{early_refused, ended_refused, ended_taken, first_unseen, looked_seen, moved_refused, moved_taken, none_refused, none_taken, seen_later, sees_refused, spans_refused, under}
use Rattle.span_check.proofs.standing.take_spans.Goals as goal
use Rattle.span_check.proofs.Spanning.{true_false}

pub returns-then-standing-clause-taken : goal.returns-then-standing-clause-taken
returns-then-standing-clause-taken c = λ h.
    ended_taken c.args.server.now c.args.log.now c.args.standing.now c.args.watches.now c.requires.falls c.requires.reached c.if-standing.true (none_at c.args.watches.now (sym c.is_empty.ensures ∙ h)) c.requires.named

pub returns-then-standing-clause-refused : goal.returns-then-standing-clause-refused
returns-then-standing-clause-refused c = λ h.
    ended_refused c.args.server.now c.args.log.now c.args.standing.now c.args.watches.now c.requires.falls c.requires.reached c.if-standing.true (some_at c.args.watches.now (sym c.is_empty.ensures ∙ h))

pub returns-then-not-are_from-clause-refused : goal.returns-then-not-are_from-clause-refused
returns-then-not-are_from-clause-refused c = λ h.
    early_refused c.args.server.now c.args.log.now c.args.standing.now c.args.watches.now c.requires.falls c.requires.reached c.if-standing.false (λ from. true_false (sym (c.are_from.ensures.1 from) ∙ c.if-not-are_from.true))

pub returns-then-not-look-clause-refused : goal.returns-then-not-look-clause-refused
returns-then-not-look-clause-refused c = λ h.
    let s = c.args.server.now in
    let words = server_words s in
    sees_refused s c.args.log.now c.args.standing.now c.args.watches.now c.requires.falls c.requires.reached c.if-standing.false
    (first_unseen s (process_of words c.args.standing.now.process) c.args.watches.now c.requires.order (look_is words c.args.standing.now.process c.args.watches.now 0 c.look.result c.look.ensures.seen ∙ c.if-not-look.true))

pub returns-then-here-eq0-clause-taken : goal.returns-then-here-eq0-clause-taken
returns-then-here-eq0-clause-taken c = λ h.
    let s = c.args.server.now in
    let words = server_words s in
    let p = process_of words c.args.standing.now.process in
    let seen =
    looked_seen s p c.args.watches.now c.look.new.told c.requires.order (left_is c.args.standing.now.process c.args.watches.now 0 c.look.new.told c.look.ensures.told) (c.are_from.ensures.0 c.if-not-are_from.false)
    (look_is words c.args.standing.now.process c.args.watches.now 0 c.look.result c.look.ensures.seen ∙ c.if-not-look.false) in
    let count = count_is c.args.log.now c.as_slice.result.now c.args.standing.now.gone c.generation.result s.generation c.count_under-here.result c.as_slice.ensures c.generation.ensures.value c.count_under-here.ensures.value in
    none_taken s c.args.log.now c.args.standing.now c.args.watches.now c.requires.falls c.requires.reached c.if-standing.false (drop c.look.new.told c.args.watches.now) seen (sym count ∙ c.if-here-eq0.true)
    (none_left c.look.new.told c.args.watches.now h) c.requires.ready c.requires.named

pub returns-then-here-eq0-clause-refused : goal.returns-then-here-eq0-clause-refused
returns-then-here-eq0-clause-refused c = λ h.
    let s = c.args.server.now in
    let words = server_words s in
    let p = process_of words c.args.standing.now.process in
    let seen =
    looked_seen s p c.args.watches.now c.look.new.told c.requires.order (left_is c.args.standing.now.process c.args.watches.now 0 c.look.new.told c.look.ensures.told) (c.are_from.ensures.0 c.if-not-are_from.false)
    (look_is words c.args.standing.now.process c.args.watches.now 0 c.look.result c.look.ensures.seen ∙ c.if-not-look.false) in
    let count = count_is c.args.log.now c.as_slice.result.now c.args.standing.now.gone c.generation.result s.generation c.count_under-here.result c.as_slice.ensures c.generation.ensures.value c.count_under-here.ensures.value in
    none_refused s c.args.log.now c.args.standing.now c.args.watches.now c.requires.falls c.requires.reached c.if-standing.false (drop c.look.new.told c.args.watches.now) seen (sym count ∙ c.if-here-eq0.true)
    (some_left c.look.new.told c.args.watches.now c.look.ensures.within h)

pub move_on-requires : goal.move_on-requires
move_on-requires c =
    let s = c.args.server.now in
    let words = server_words s in
    let p = process_of words c.args.standing.now.process in
    let seen =
    looked_seen s p c.args.watches.now c.look.new.told c.requires.order (left_is c.args.standing.now.process c.args.watches.now 0 c.look.new.told c.look.ensures.told) (c.are_from.ensures.0 c.if-not-are_from.false)
    (look_is words c.args.standing.now.process c.args.watches.now 0 c.look.result c.look.ensures.seen ∙ c.if-not-look.false) in
    let count = count_is c.args.log.now c.as_slice.result.now c.args.standing.now.gone c.generation.result s.generation c.count_under-here.result c.as_slice.ensures c.generation.ensures.value c.count_under-here.ensures.value in
    record {
      some = omega (arith, c.if-here-eq0.false);
      room = subst (λ n. c.args.standing.now.gone + n ≤ length c.args.log.now.spans) (sym count) (room_is c.args.log.now c.args.standing.now.gone s.generation c.requires.reached.within);
      here = subst (λ n. AllByRecursion (λ x. x.generation ≡ s.generation) (spans_from c.args.log.now c.args.standing.now.gone n)) (sym count)
          (under s c.args.log.now c.args.standing.now c.args.watches.now c.requires.falls c.requires.reached);
      ready = c.requires.ready c.if-standing.false;
      within = c.look.ensures.within;
      order = c.requires.order;
      later = seen_later s p c.args.watches.now (drop c.look.new.told c.args.watches.now) seen;
    }

pub returns-then-not-branch-clause-refused : goal.returns-then-not-branch-clause-refused
returns-then-not-branch-clause-refused c = λ h.
    let s = c.args.server.now in
    let words = server_words s in
    let p = process_of words c.args.standing.now.process in
    let between = drop c.look.new.told c.args.watches.now in
    let left = drop c.move_on.new.told c.args.watches.now in
    let seen =
    looked_seen s p c.args.watches.now c.look.new.told c.requires.order (left_is c.args.standing.now.process c.args.watches.now 0 c.look.new.told c.look.ensures.told) (c.are_from.ensures.0 c.if-not-are_from.false)
    (look_is words c.args.standing.now.process c.args.watches.now 0 c.look.result c.look.ensures.seen ∙ c.if-not-look.false) in
    let count = count_is c.args.log.now c.as_slice.result.now c.args.standing.now.gone c.generation.result s.generation c.count_under-here.result c.as_slice.ensures c.generation.ensures.value c.count_under-here.ensures.value in
    let moved = subst (λ n. IsMoved s c.args.log.now n c.args.standing.now c.move_on.new.standing between left c.in_ok-move_on.field-0) count c.in_ok-move_on.ensures.moved in
    spans_refused s c.args.log.now c.args.standing.now c.args.watches.now c.requires.falls c.requires.reached c.if-standing.false c.move_on.new.standing between left seen
    (subst (IsMoved s c.args.log.now (count_under s.generation (drop c.args.standing.now.gone c.args.log.now.spans)) c.args.standing.now c.move_on.new.standing between left) c.if-not-branch.true moved)

pub returns-clause-taken : goal.returns-clause-taken
returns-clause-taken c = λ h.
    let s = c.args.server.now in
    let words = server_words s in
    let p = process_of words c.args.standing.now.process in
    let between = drop c.look.new.told c.args.watches.now in
    let left = drop c.move_on.new.told c.args.watches.now in
    let seen =
    looked_seen s p c.args.watches.now c.look.new.told c.requires.order (left_is c.args.standing.now.process c.args.watches.now 0 c.look.new.told c.look.ensures.told) (c.are_from.ensures.0 c.if-not-are_from.false)
    (look_is words c.args.standing.now.process c.args.watches.now 0 c.look.result c.look.ensures.seen ∙ c.if-not-look.false) in
    let count = count_is c.args.log.now c.as_slice.result.now c.args.standing.now.gone c.generation.result s.generation c.count_under-here.result c.as_slice.ensures c.generation.ensures.value c.count_under-here.ensures.value in
    let moved = subst (λ n. IsMoved s c.args.log.now n c.args.standing.now c.move_on.new.standing between left c.in_ok-move_on.field-0) count c.in_ok-move_on.ensures.moved in
    moved_taken s c.args.log.now c.args.standing.now c.args.watches.now c.requires.falls c.requires.reached c.if-standing.false c.move_on.new.standing between left seen
    (subst (IsMoved s c.args.log.now (count_under s.generation (drop c.args.standing.now.gone c.args.log.now.spans)) c.args.standing.now c.move_on.new.standing between left) c.if-not-branch.false moved)
    (none_left c.move_on.new.told c.args.watches.now h)

pub returns-clause-refused : goal.returns-clause-refused
returns-clause-refused c = λ h.
    let s = c.args.server.now in
    let words = server_words s in
    let p = process_of words c.args.standing.now.process in
    let between = drop c.look.new.told c.args.watches.now in
    let left = drop c.move_on.new.told c.args.watches.now in
    let seen =
    looked_seen s p c.args.watches.now c.look.new.told c.requires.order (left_is c.args.standing.now.process c.args.watches.now 0 c.look.new.told c.look.ensures.told) (c.are_from.ensures.0 c.if-not-are_from.false)
    (look_is words c.args.standing.now.process c.args.watches.now 0 c.look.result c.look.ensures.seen ∙ c.if-not-look.false) in
    let count = count_is c.args.log.now c.as_slice.result.now c.args.standing.now.gone c.generation.result s.generation c.count_under-here.result c.as_slice.ensures c.generation.ensures.value c.count_under-here.ensures.value in
    let moved = subst (λ n. IsMoved s c.args.log.now n c.args.standing.now c.move_on.new.standing between left c.in_ok-move_on.field-0) count c.in_ok-move_on.ensures.moved in
    moved_refused s c.args.log.now c.args.standing.now c.args.watches.now c.requires.falls c.requires.reached c.if-standing.false c.move_on.new.standing between left seen
    (subst (IsMoved s c.args.log.now (count_under s.generation (drop c.args.standing.now.gone c.args.log.now.spans)) c.args.standing.now c.move_on.new.standing between left) c.if-not-branch.false moved)
    (some_left c.move_on.new.told c.args.watches.now c.in_ok-move_on.ensures.within h)

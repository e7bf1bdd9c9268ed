use Rattle.std.proofs.Common.{◌++◌, ◌∙◌, ap, sym, rules}
use Rattle.std.proofs.lemmas.List.Sorted.{IsNonDecreasingBy-from_sort_by_key}
use Rattle.std.proofs.lemmas.List.{append-nil}
use Rattle.std.specs.Option.{option_to_list}
use Rattle.run_log.specs.declared.logs.Entry.{Entry}
use Rattle.span_check.specs.declared.watch.Watch.{Watch}
use Rattle.legality.specs.Sweeps.{watch_in}
use Rattle.legality.proofs.Watching.{are_watches, given_next}
use Rattle.legality.proofs.watches.watches_of.Goals as goal
use Rattle.legality.proofs.watches.watches_of.Goals.{in-Some+in_ok-push, in_default}

-- one more entry
pub loop-entry-preserved : goal.loop-entry-preserved
loop-entry-preserved c =
    elim c.match-watch_in.branch [
      | in-Some+in_ok-push w ↦
          given_next (λ (e : Entry). watch_in c.args.server.now c.args.number e.cmd) c.args.ahead.now c.loop-entry.entry-index c.entry-item.result c.loop-entry.watches.items c.match-watch_in.watches.items c.watch_in.result c.loop-entry.invariant
          c.loop-entry-test.true c.entry-item.is c.watch_in.ensures (rw w.watches-is (w.in_ok-push.ensures.items ∙ ap (λ o. c.loop-entry.watches.items ++ option_to_list o) (sym w.in-Some.is)))
      | in_default w ↦
          given_next (λ (e : Entry). watch_in c.args.server.now c.args.number e.cmd) c.args.ahead.now c.loop-entry.entry-index c.entry-item.result c.loop-entry.watches.items c.match-watch_in.watches.items c.watch_in.result c.loop-entry.invariant
          c.loop-entry-test.true c.entry-item.is c.watch_in.ensures (rw w.watches-is (sym (append-nil c.loop-entry.watches.items) ∙ ap (λ o. c.loop-entry.watches.items ++ option_to_list o) (sym w.in_default.is)))
    ]

-- the watches in order
pub returns : goal.returns
returns c =
    are_watches c.args.server.now c.args.number c.args.ahead.now c.loop-entry.watches.items c.sort_unstable_by_key.new.self.items c.loop-entry.entry-index c.loop-entry.invariant c.loop-entry-test.false c.sort_unstable_by_key.ensures.permutation
    (IsNonDecreasingBy-from_sort_by_key (λ (watch : Watch). watch.turn) _ c.sort_unstable_by_key.ensures.sorted (λ a r q k. search rules))

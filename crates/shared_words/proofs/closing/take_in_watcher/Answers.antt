use Rattle.std.proofs.Common.{sym, ap, subst, ◌∙◌}
use Rattle.shared_words.specs.declared.view.View.{View}
use Rattle.shared_words.specs.Kinds.{Sat}
use Rattle.shared_words.specs.Rule.{IsBeginning}
use Rattle.shared_words.specs.Seats.{watcher_of, writer_of}
use Rattle.shared_words.proofs.WatcherJoins.{take_in_watcher_is_allowed, see_watchers_is_allowed}
use Rattle.shared_words.proofs.WatchersTaken.{writer_joined, learnt_joined}
use Rattle.shared_words.proofs.closing.take_in_watcher.Goals as goal

-- the join is one that the rule allows
pub join_seat-requires : goal.join_seat-requires
join_seat-requires g c = (
  c.requires.token.same_table,
  c.requires.seat.same_table,
  c.requires.seat.no_slots,
  c.requires.words,
  take_in_watcher_is_allowed g.N.Served.served _ _ _ _ _ c.requires.writer c.requires.watcher,
)

-- and so is the load
pub load-requires : goal.load-requires
load-requires g c = (
  c.join_seat.ensures.0 ∙ c.requires.token.same_table,
  c.requires.words,
  see_watchers_is_allowed g.N.Served.served _ _ _ _ (writer_joined _ _ _ c.requires.writer c.requires.watcher (ap (λ (m : Sat). m.0) c.join_seat.ensures.2)),
)

-- it tells what the watcher had learnt of
pub returns-clause-learnt : goal.returns-clause-learnt
returns-clause-learnt g c =
    subst (λ (x : View). IsBeginning (watcher_of c.args.watcher.seat.me.0).seen (writer_of x).published) (sym (ap (λ (m : Sat). m.0) c.load.ensures.2.same))
    (learnt_joined _ _ _ c.requires.writer c.requires.watcher (ap (λ (m : Sat). m.0) c.join_seat.ensures.2) c.load.ensures.2.learnt)

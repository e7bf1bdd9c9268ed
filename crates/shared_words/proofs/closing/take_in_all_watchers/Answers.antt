-- Each watcher that is taken out comes in.
use Rattle.shared_words.proofs.WatchersTaken.{no_watcher_taken, last_watcher, watcher_taken_next}
use Rattle.shared_words.proofs.closing.take_in_all_watchers.Goals as goal

-- none came in yet
pub watchers-init : goal.watchers-init
watchers-init g c = no_watcher_taken c.args.watchers.items c.args.writer.now c.requires.writer

pub take_in_watcher-requires-clause-seat : goal.take_in_watcher-requires-clause-seat
take_in_watcher-requires-clause-seat g c = (last_watcher _ _ _ c.pop.new.self.items c.in-Some.watcher _ _ c.requires.watchers c.watchers.invariant c.in-Some.ensures.items).of_table

pub take_in_watcher-requires-clause-watcher : goal.take_in_watcher-requires-clause-watcher
take_in_watcher-requires-clause-watcher g c = (last_watcher _ _ _ c.pop.new.self.items c.in-Some.watcher _ _ c.requires.watchers c.watchers.invariant c.in-Some.ensures.items).view

-- one more
pub watchers-preserved : goal.watchers-preserved
watchers-preserved g c =
    watcher_taken_next _ c.args.watchers.items c.watchers.watchers.items c.pop.new.self.items c.in-Some.watcher c.args.writer.now c.watchers.writer c.take_in_watcher.new.writer c.requires.watchers c.watchers.invariant c.in-Some.ensures.items c.take_in_watcher.ensures.token c.take_in_watcher.ensures.view c.take_in_watcher.ensures.learnt

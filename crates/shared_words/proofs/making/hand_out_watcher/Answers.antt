use Rattle.shared_words.proofs.WatcherSeats.{hand_out_watcher_is_allowed}
use Rattle.shared_words.proofs.making.hand_out_watcher.Goals as goal

-- a seat is at home, so it may be handed out
pub split_seat-seat-requires : goal.split_seat-seat-requires
split_seat-seat-requires g c = (c.requires.token.same_table, c.requires.words, hand_out_watcher_is_allowed g.N.Served.served _ _ _ c.requires.home)

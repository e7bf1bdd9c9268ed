use Rattle.shared_words.proofs.NoteSplits.{split_note_is_allowed}
use Rattle.shared_words.proofs.notes.note_for.Goals as goal

-- a note may be split
pub split_seat-seat-requires : goal.split_seat-seat-requires
split_seat-seat-requires g c = (c.requires.token.same_table, c.requires.words, split_note_is_allowed g.N.Served.served _ _ _ _ c.requires.may)

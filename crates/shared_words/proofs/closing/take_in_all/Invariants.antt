-- The seats behind those that are left came in.
use Rattle.std.proofs.Common.{length}
use Rattle.shared_words.proofs.SeatsTaken.{HasTaken}
use Rattle.shared_words.proofs.closing.take_in_all.Given as goal

abbrev pub invariant-members : goal.invariant-members
invariant-members g l = HasTaken l.initial.members.items l.members.items l.initial.writer l.writer

abbrev pub decreases-members : goal.decreases-members
decreases-members g l = length l.members.items

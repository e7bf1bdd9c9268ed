-- Each member that is taken out comes in.
use Rattle.shared_words.proofs.SeatsTaken.{none_taken, last_of, taken_next}
use Rattle.shared_words.proofs.closing.take_in_all.Goals as goal

-- none came in yet
pub members-init : goal.members-init
members-init g c = none_taken c.args.members.items c.args.writer.now c.requires.writer

pub take_in-requires-clause-seat : goal.take_in-requires-clause-seat
take_in-requires-clause-seat g c = (last_of _ _ _ _ c.pop.new.self.items c.in-Some.member _ _ c.requires.members c.members.invariant c.in-Some.ensures.items).1.of_table

pub take_in-requires-clause-member : goal.take_in-requires-clause-member
take_in-requires-clause-member g c = (last_of _ _ _ _ c.pop.new.self.items c.in-Some.member _ _ c.requires.members c.members.invariant c.in-Some.ensures.items).1.view

-- one more
pub members-preserved : goal.members-preserved
members-preserved g c =
    taken_next _ c.args.members.items c.members.members.items c.pop.new.self.items c.in-Some.member c.args.writer.now c.members.writer c.take_in.new.writer c.requires.members c.members.invariant c.in-Some.ensures.items c.take_in.ensures.token c.take_in.ensures.view

use Rattle.anchors.specs.Holds.{view_of}
use Rattle.word_lap.proofs.TurnEnds.{may_mark}
use Rattle.word_lap.proofs.turns.mark_end.Goals as goal

pub mark_turn-requires-clause-may : goal.mark_turn-requires-clause-may
mark_turn-requires-clause-may g c = may_mark c.args.process c.args.turns c.args.end (view_of c.args.member.now) (view_of c.end_with.new.member) c.end_with.ensures.ended c.requires.counts

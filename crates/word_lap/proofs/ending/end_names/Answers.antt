use Rattle.anchors.specs.Holds.{view_of}
use Rattle.word_lap.proofs.Killings.{ended_so}
use Rattle.word_lap.proofs.ending.end_names.Goals as goal

pub returns-clause-ended : goal.returns-clause-ended
returns-clause-ended g c =
    ended_so c.args.process c.args.fin (view_of c.args.member.now) (view_of c.tell_kill.new.member) (view_of c.drop_names.new.member) c.tell_kill.ensures.stored c.tell_kill.ensures.told c.drop_names.ensures.dropped

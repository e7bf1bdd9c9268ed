-- The note is that of a process of the member, which may name the instance once it has reported.
use Rattle.std.proofs.Common.{refl, ap, arith}
use Rattle.shared_words.specs.Seats.{member_of}
use Rattle.progress_words.specs.Tokens.{view_of, noted_by}
use Rattle.new_tables.proofs.Begun.{fresh_of}
use Rattle.grace_bench.proofs.Holding.{own_process, joined_awake, joined_rests, user_learnt}
use Rattle.grace_bench.proofs.holds.hold_after.Goals as goal

pub learn-requires-clause-token : goal.learn-requires-clause-token
learn-requires-clause-token c = (fresh_of _ 0 c.args.member.now (omega (arith)) c.requires.begun).of

pub learn-requires-clause-note : goal.learn-requires-clause-note
learn-requires-clause-note c = record { process = refl; seat = c.requires.note.seat }

pub learn-requires-clause-own : goal.learn-requires-clause-own
learn-requires-clause-own c = own_process _ _ _ c.requires.begun.number_is c.requires.one c.requires.note.process

pub report-generation-requires-clause-awake : goal.report-generation-requires-clause-awake
report-generation-requires-clause-awake c = joined_awake (noted_by c.args.told) (view_of c.args.member.now) (view_of c.learn.new.member) (ap member_of c.requires.begun.view) c.learn.ensures.joined

pub report-generation-requires-clause-rest : goal.report-generation-requires-clause-rest
report-generation-requires-clause-rest c = joined_rests (noted_by c.args.told) (view_of c.args.member.now) (view_of c.learn.new.member) (ap member_of c.requires.begun.view) c.learn.ensures.joined

pub hold_often-requires : goal.hold_often-requires
hold_often-requires c = record {
  user =
      user_learnt _ _ _ (noted_by c.args.told) c.args.member.now c.learn.new.member c.report-generation.new.member _ c.requires.begun c.requires.tells c.learn.ensures.joined c.requires.one
      c.learn.ensures.same c.report-generation.ensures.same c.report-generation.ensures.token c.report-generation.ensures.awake c.report-generation.ensures.reported c.if-generation-eq1.true;
}

-- No turn is under way of a member that has learnt of a note.
use Rattle.progress_words.specs.Tokens.{view_of}
use Rattle.progress_tests.proofs.Noted.{learnt_rests}
use Rattle.progress_tests.proofs.published.notes.learn_and_report.Goals as goal

pub report-generation-requires-clause-rest : goal.report-generation-requires-clause-rest
report-generation-requires-clause-rest c = learnt_rests 0 _ (view_of c.args.first.now) (view_of c.learn.new.member) c.requires.first_view c.learn.ensures.joined

-- The member is at rest before its report, and may go on after it.
use Rattle.std.proofs.lemmas.Bool.{eqb-true}
use Rattle.progress_words.specs.Tokens.{view_of, written_by, noted_by}
use Rattle.area_tests.proofs.Started.{begins, joined_rests}
use Rattle.area_tests.proofs.starting.begin_work.Goals as goal

pub report-requires-clause-rest : goal.report-requires-clause-rest
report-requires-clause-rest c = joined_rests c.args.process (noted_by c.note-told.result) (view_of c.args.member.now) (view_of c.learn.new.member) c.requires.begun c.learn.ensures.joined

pub returns-clause-works : goal.returns-clause-works
returns-clause-works c = λ one.
    begins _ c.args.shared.now.table.shared.table_id c.args.shared.now.table.shared.key c.args.process c.report.result (written_by c.args.writer.now) c.note-told.result c.args.member.now c.learn.new.member c.report.new.member c.requires.below c.requires.few c.requires.two c.requires.begun c.requires.copied
    c.learn.ensures.same c.note-told.ensures.learnt c.learn.ensures.joined c.report.ensures.token c.report.ensures.same c.report.ensures.awake c.report.ensures.rooted c.report.ensures.reported (eqb-true c.report.result 1 one)

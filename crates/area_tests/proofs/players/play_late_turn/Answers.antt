use Rattle.std.proofs.Common.{ℕ, ◌+◌, ap, ◌∙◌}
use Rattle.progress_words.specs.Tokens.{view_of}
use Rattle.area_tests.proofs.Playing.{rests_now, reported_works, reported_turns}
use Rattle.area_tests.proofs.players.play_late_turn.Goals as goal

-- no process of the member is in the midst of a turn
pub report-requires-clause-rest : goal.report-requires-clause-rest
report-requires-clause-rest c = rests_now c.args.shared.now.table.shared.table_id c.args.shared.now.table.shared.key c.args.process c.args.member.now c.play_turn.new.member c.play_turn.ensures

-- a report leaves its process as it was
pub returns-clause-works : goal.returns-clause-works
returns-clause-works c =
    reported_works _ c.args.shared.now.table.shared.table_id c.args.shared.now.table.shared.key c.args.process c.report.result c.play_turn.new.member c.report.new.member c.play_turn.ensures.works
    c.report.ensures.token c.report.ensures.same c.report.ensures.awake c.report.ensures.rooted c.report.ensures.reported

pub returns-clause-turns : goal.returns-clause-turns
returns-clause-turns c =
    reported_turns _ c.args.process c.report.result (view_of c.play_turn.new.member) (view_of c.report.new.member) c.report.ensures.reported ∙ c.play_turn.ensures.turns ∙ ap (λ (n : ℕ). n + 1) c.requires.turns

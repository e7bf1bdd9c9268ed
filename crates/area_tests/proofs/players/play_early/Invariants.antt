use Rattle.std.proofs.Common.{◌≡◌}
use Rattle.progress_words.specs.Tokens.{view_of}
use Rattle.area_tests.specs.Several.{three_published}
use Rattle.area_tests.specs.Work.{IsWorking, IsUnder, turns_done}
use Rattle.area_tests.proofs.players.play_early.Given as goal

-- the process goes on, and has made so many turns
abbrev pub invariant-loop-done : goal.invariant-loop-done
invariant-loop-done l = IsWorking l.fn.shared.table.shared.table_id l.fn.shared.table.shared.key l.fn.process l.member × IsUnder three_published (view_of l.member) × (turns_done l.fn.process (view_of l.member) ≡ l.done) × (l.member.number ≡ l.fn.member.number)

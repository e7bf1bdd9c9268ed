use Rattle.std.proofs.Common.{◌≡◌}
use Rattle.progress_words.specs.Tokens.{view_of}
use Rattle.area_tests.specs.Work.{IsWorking, turns_done}
use Rattle.area_tests.proofs.players.play_late.Given as goal

-- the process goes on, and has made so many turns
abbrev pub invariant-loop-done : goal.invariant-loop-done
invariant-loop-done l = IsWorking l.fn.shared.table.shared.table_id l.fn.shared.table.shared.key l.fn.process l.member × (turns_done l.fn.process (view_of l.member) ≡ l.done) × (l.member.number ≡ l.fn.member.number)

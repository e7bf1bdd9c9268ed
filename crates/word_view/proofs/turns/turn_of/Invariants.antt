use Rattle.std.specs.Prelude.{Some}
use Rattle.word_view.proofs.turns.turn_of.Given as goal

-- what the view is when it begins
abbrev pub ghosts-begin_turn : goal.ghosts-begin_turn
ghosts-begin_turn g a = record { began = Some (record { table = a.shared.now.table.shared.table_id; opening = a.shared.now.table.shared.key; token = a.member; names = a.exports.now; process = a.number }) }

use Rattle.std.proofs.Common.{◌≡◌, arith}
use Rattle.area_core.specs.declared.map.TheConstants.{TABLE_WORDS}
use Rattle.shared_words.proofs.NoteJoins.{join_note_is_allowed}
use Rattle.shared_words.proofs.table.Shared.join_note.Goals as goal

-- the join is one that the rule allows
pub join_seat-requires : goal.join_seat-requires
join_seat-requires g c = (
  c.requires.token.of_table.same_table,
  c.requires.note.of_table.same_table,
  c.requires.note.of_table.no_slots,
  (let size : c.args.self.now.table.shared.table_id.words ≡ TABLE_WORDS = c.args.self.now.sized in omega arith),
  join_note_is_allowed g.N.Served.served _ _ _ _ _ c.requires.token.view c.requires.note.view,
)

use Rattle.std.proofs.Common.{◌≡◌, refl, arith}
use Rattle.area_core.specs.declared.map.TheConstants.{TABLE_WORDS}
use Rattle.area_core.specs.Map.{kind_at}
use Rattle.shared_words.specs.Seats.{writer_of}
use Rattle.shared_words.proofs.WordStores.{word_placed, store_word_is_allowed}
use Rattle.shared_words.proofs.table.Shared.store_word.Goals as goal

-- the store is one that the rule allows
pub store-requires : goal.store-requires
store-requires g c = (
  c.requires.token.of_table.same_table,
  (let placed = word_placed (writer_of c.args.writer.now.seat.me.0) c.args.word c.args.value (kind_at c.args.word) refl c.requires.may in let size : c.args.self.now.table.shared.table_id.words ≡ TABLE_WORDS = c.args.self.now.sized in omega (arith, placed.1)),
  store_word_is_allowed g.N.Served.served _ _ _ c.args.word c.args.value _ c.requires.token.view c.requires.may,
)

use Rattle.std.proofs.Common.{refl, arith}
use Rattle.area_core.specs.Map.{retire_place, kind_at}
use Rattle.shared_words.specs.Seats.{writer_of}
use Rattle.shared_words.proofs.WordStores.{word_placed}
use Rattle.shared_words.proofs.Dropping.{store_release_is_allowed}
use Rattle.shared_words.proofs.drops.release_at.Goals as goal

-- the store is one that the rule allows
pub store-requires : goal.store-requires
store-requires g c = (
  c.requires.token.same_table,
  (let placed = word_placed (writer_of c.args.writer.now.me.0) (retire_place c.args.block) 0 (kind_at (retire_place c.args.block)) refl c.requires.may in let size = c.requires.sized in omega (arith, placed.1, size)),
  store_release_is_allowed g.N.Served.served _ _ _ (retire_place c.args.block) 0 _ _ c.requires.writer c.requires.may c.requires.clear,
)

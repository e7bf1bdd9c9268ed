use Rattle.std.proofs.Common.{◌≡◌, arith}
use Rattle.area_core.specs.declared.map.TheConstants.{TABLE_WORDS}
use Rattle.shared_words.proofs.SlotStores.{store_slot_may}
use Rattle.shared_words.proofs.table.Shared.store_slot.Goals as goal

-- the store is one that the rule allows
pub store-requires : goal.store-requires
store-requires g c = (
  c.requires.token.of_table.same_table,
  (let below = c.requires.may.below in let last = c.requires.may.last in let size : c.args.self.now.table.shared.table_id.words ≡ TABLE_WORDS = c.args.self.now.sized in omega (arith, c.slot_word-word.ensures)),
  store_slot_may g.N.Served.served _ _ _ c.args.process c.args.place c.args.value _ _ c.slot_word-word.ensures c.requires.token.view c.requires.may,
)

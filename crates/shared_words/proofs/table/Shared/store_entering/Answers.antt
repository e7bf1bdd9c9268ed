use Rattle.std.proofs.Common.{◌≡◌, arith}
use Rattle.area_core.specs.declared.map.TheConstants.{TABLE_WORDS}
use Rattle.shared_words.proofs.Waits.{store_entering_is_allowed}
use Rattle.shared_words.proofs.table.Shared.store_entering.Goals as goal

-- the store is one that the rule allows
pub store-requires : goal.store-requires
store-requires g c = (
  c.requires.token.of_table.same_table,
  (let few = c.requires.token.few in let size : c.args.self.now.table.shared.table_id.words ≡ TABLE_WORDS = c.args.self.now.sized in omega arith),
  store_entering_is_allowed g.N.Served.served _ _ _ c.args.member.now.number _ c.requires.token.view c.requires.token.numbered c.requires.may,
)

use Rattle.std.proofs.Common.{◌≡◌, arith}
use Rattle.area_core.specs.declared.map.TheConstants.{TABLE_WORDS}
use Rattle.shared_words.proofs.LeaderScans.{store_counter_is_allowed}
use Rattle.shared_words.proofs.table.Shared.store_counter.Goals as goal

-- the raise is one that the rule allows
pub fetch_add-requires : goal.fetch_add-requires
fetch_add-requires g c = (
  c.requires.token.of_table.same_table,
  (let size : c.args.self.now.table.shared.table_id.words ≡ TABLE_WORDS = c.args.self.now.sized in omega arith),
  store_counter_is_allowed g.N.Served.served _ _ _ _ c.requires.token.view c.requires.may,
)

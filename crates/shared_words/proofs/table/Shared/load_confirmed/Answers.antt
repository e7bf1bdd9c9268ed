use Rattle.std.proofs.Common.{◌≡◌, arith}
use Rattle.area_core.specs.declared.map.TheConstants.{TABLE_WORDS}
use Rattle.shared_words.proofs.LeaderScans.{load_confirmed_is_allowed}
use Rattle.shared_words.proofs.table.Shared.load_confirmed.Goals as goal

-- the load is one that the rule allows
pub load-requires : goal.load-requires
load-requires g c = (
  c.requires.token.of_table.same_table,
  (let few = c.args.self.now.few in let there = c.requires.may.there in let size : c.args.self.now.table.shared.table_id.words ≡ TABLE_WORDS = c.args.self.now.sized in omega arith),
  load_confirmed_is_allowed g.N.Served.served _ _ _ c.args.other _ c.requires.token.view c.requires.may,
)

use Rattle.std.proofs.Common.{◌≡◌, arith}
use Rattle.area_core.specs.declared.map.TheConstants.{TABLE_WORDS}
use Rattle.shared_words.proofs.RootLoads.{load_root_is_allowed}
use Rattle.shared_words.proofs.table.Shared.load_root.Goals as goal

-- the load is one that the rule allows
pub load-found-requires : goal.load-found-requires
load-found-requires g c = record {
  same_table = c.requires.token.same_table;
  there = (let size : c.args.self.now.table.shared.table_id.words ≡ TABLE_WORDS = c.args.self.now.sized in omega arith);
  allowed = load_root_is_allowed g.N.Served.served _ _ _ _ c.requires.may;
}

use Rattle.std.proofs.Common.{◌≡◌, arith}
use Rattle.area_core.specs.declared.map.TheConstants.{TABLE_WORDS}
use Rattle.shared_words.proofs.LeaderSteps.{take_lead_is_allowed}
use Rattle.shared_words.proofs.table.Shared.take_lead.Goals as goal

-- the exchange is one that the rule allows
pub compare_exchange-requires : goal.compare_exchange-requires
compare_exchange-requires g c = (
  c.requires.token.of_table.same_table,
  (let size : c.args.self.now.table.shared.table_id.words ≡ TABLE_WORDS = c.args.self.now.sized in omega arith),
  take_lead_is_allowed g.N.Served.served _ _ _ c.args.member.now.number _ c.requires.token.view c.requires.token.numbered c.requires.may,
)

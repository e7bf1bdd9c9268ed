use Rattle.std.proofs.Common.{◌≡◌, arith}
use Rattle.area_core.specs.declared.map.TheConstants.{TABLE_WORDS}
use Rattle.shared_words.proofs.DelaySteps.{add_delay_is_allowed}
use Rattle.shared_words.proofs.table.Shared.add_delay.Goals as goal

-- the step is one that the rule allows
pub fetch_add-requires : goal.fetch_add-requires
fetch_add-requires g c = (
  c.requires.token.of_table.same_table,
  (let few = c.requires.may.there in let size : c.args.self.now.table.shared.table_id.words ≡ TABLE_WORDS = c.args.self.now.sized in omega (arith, few, size)),
  add_delay_is_allowed g.N.Served.served _ _ _ c.args.which _ c.requires.token.view c.requires.may,
)

use Rattle.std.proofs.Common.{arith}
use Rattle.shared_words.proofs.DelaySteps.{load_delay_is_allowed}
use Rattle.shared_words.proofs.delays.look_at_delay.Goals as goal

-- the load is one that the rule allows
pub load-requires : goal.load-requires
load-requires g c = (
  c.requires.token.same_table,
  (let size = c.requires.sized in let is = c.requires.may.is in omega (arith, size, is)),
  load_delay_is_allowed g.N.Served.served _ _ _ c.args.which _ _ c.requires.picked c.requires.member c.requires.may,
)

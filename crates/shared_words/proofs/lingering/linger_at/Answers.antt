use Rattle.std.proofs.Common.{arith}
use Rattle.shared_words.proofs.LingeringLoads.{load_lingering_may}
use Rattle.shared_words.proofs.lingering.linger_at.Goals as goal

-- the load is one that the rule allows
pub load-requires : goal.load-requires
load-requires g c = (
  c.requires.token.same_table,
  (let below = c.requires.process in let last = c.requires.place.1 in let size = c.requires.sized in omega (arith, below, last, size, c.slot_word.ensures)),
  load_lingering_may g.N.Served.served _ _ _ c.args.process c.args.place _ _ _ _ c.slot_word.ensures c.requires.writer c.requires.place.0 c.requires.place.1 c.requires.looked,
)

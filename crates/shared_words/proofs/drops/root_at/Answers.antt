use Rattle.std.proofs.Common.{arith}
use Rattle.shared_words.proofs.Dropping.{store_root_dropping_is_allowed}
use Rattle.shared_words.proofs.drops.root_at.Goals as goal

-- the store is one that the rule allows
pub store-requires : goal.store-requires
store-requires g c = (
  c.requires.token.same_table,
  (let size = c.requires.sized in omega (arith, size)),
  store_root_dropping_is_allowed g.N.Served.served _ _ _ c.args.code c.args.bp c.args.term c.args.generation c.root_word-root.result _ g.M.Next.next _ c.root_word-root.ensures c.requires.writer c.requires.root c.requires.published c.requires.may c.requires.clear,
)

use Rattle.shared_words.proofs.WordLoads.{load_word_may}
use Rattle.shared_words.proofs.table.Shared.load_word.Goals as goal

-- the load is one that the rule allows
pub load-requires : goal.load-requires
load-requires g c = load_word_may g.N.Served.served _ _ _ c.args.word c.requires.token.same_table c.args.self.now.sized c.requires.may

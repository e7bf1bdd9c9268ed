use Rattle.std.proofs.Common.{rules}
use Rattle.shared_words.proofs.WordsBegun.{begun_none, begun_more}
use Rattle.shared_words.proofs.making.opening_words.Goals as goal

-- all is 0 but the counter
pub loop-number-init : goal.loop-number-init
loop-number-init c = begun_none c.args.members c.args.count c.in_ok-words.words.items (search rules) c.requires.count

-- one word more
pub loop-number-preserved : goal.loop-number-preserved
loop-number-preserved c = begun_more c.args.members c.loop-number.number c.opening_word.result c.loop-number.words.items c.loop-number-test.true c.opening_word.ensures.made c.opening_word.ensures.other c.loop-number.invariant

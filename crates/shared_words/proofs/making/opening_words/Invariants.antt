use Rattle.shared_words.specs.Making.{AreBegunTo}
use Rattle.shared_words.proofs.making.opening_words.Given as goal

-- the words of the first members are stored, and the rest is as it was
abbrev pub invariant-loop-number : goal.invariant-loop-number
invariant-loop-number l = AreBegunTo l.members l.number l.words.items

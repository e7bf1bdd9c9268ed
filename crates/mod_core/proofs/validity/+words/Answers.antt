-- A term of a row has no more words than the row.
use Rattle.std.proofs.Common.{arith}
use Rattle.mod_core.proofs.TermRows.{item_within}
use Rattle.mod_core.proofs.validity.+words.Goals as goal

pub left_behind_terms-left_behind_term-requires : goal.left_behind_terms-left_behind_term-requires
left_behind_terms-left_behind_term-requires t c = (omega (arith, c.decreases, item_within c.as_slice-term-items.result.now c.args.terms.now c.loop-term.term-index c.term-item.result c.as_slice-term-items.ensures c.loop-term-test.true c.term-item.is), tt)

-- One of the functions is one before it, or none is.
use Rattle.std.proofs.Common.{sym, ◌∙◌, arith, rules}
use Rattle.std.proofs.lemmas.Bool.{false≢true}
use Rattle.mod_core.proofs.ValidLemmas.{apart_more, apart_all}
use Rattle.mod_core.proofs.validity.are_apart.Goals as goal

pub returns-then-not-is_new : goal.returns-then-not-is_new
returns-then-not-is_new c = (
  λ no. absurd (false≢true no),
  λ apart. absurd (false≢true (sym c.if-not-is_new.true ∙ c.is_new.ensures.1 (λ earlier below same. apart earlier c.loop-number.number below same))),
)

pub loop-number-preserved : goal.loop-number-preserved
loop-number-preserved c = apart_more c.args.functions.now c.loop-number.number c.loop-number.invariant (c.is_new.ensures.0 c.if-not-is_new.false)

pub returns : goal.returns
returns c = (λ _. apart_all c.args.functions.now c.loop-number.number (omega arith) c.loop-number.invariant, λ _. search rules)

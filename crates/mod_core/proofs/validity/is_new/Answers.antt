-- What one more function is: this one again, or apart from it.
use Rattle.std.proofs.Common.{arith, rules}
use Rattle.std.proofs.lemmas.Bool.{false≢true}
use Rattle.std.proofs.lemmas.List.{length-take-le}
use Rattle.mod_core.proofs.ValidLemmas.{is_one_again, one_more_apart}
use Rattle.mod_core.proofs.validity.is_new.Goals as goal

pub returns-then-are_one : goal.returns-then-are_one
returns-then-are_one c = (
  λ no. absurd (false≢true no),
  λ none. absurd (is_one_again c.args.functions.now _ _ _ _ c.requires c.index-functions-number.is c.loop-other-test.true c.other-item.is (c.are_one.ensures.0 c.if-are_one.true) none),
)

pub loop-other-preserved : goal.loop-other-preserved
loop-other-preserved c =
    one_more_apart c.args.functions.now _ _ _ _ c.requires c.index-functions-number.is c.loop-other-test.true c.other-item.is (λ agree. false≢true (search (rules, c.are_one.ensures.1 agree))) c.loop-other.invariant

pub returns : goal.returns
returns c =
    let all = length-take-le c.args.number c.args.functions.now (omega arith) in
    (λ _ earlier below same. c.loop-other.invariant earlier (omega arith) same, λ _. search rules)

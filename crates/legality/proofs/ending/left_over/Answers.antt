use Rattle.std.proofs.Common.{◌≡◌, true, All, subst, sym}
use Rattle.std.proofs.lemmas.Option.{none-some}
use Rattle.span_check.specs.declared.standing.Standing.{Standing}
use Rattle.legality.proofs.Judged.{failed}
use Rattle.legality.proofs.ending.left_over.Goals as goal

pub returns-then-not-is_none_waiting-clause-none : goal.returns-then-not-is_none_waiting-clause-none
returns-then-not-is_none_waiting-clause-none c = λ none. absurd (none-some _ (sym none))

pub returns-then-not-is_none_waiting-clause-some : goal.returns-then-not-is_none_waiting-clause-some
returns-then-not-is_none_waiting-clause-some c = failed c.is_none_waiting.result c.if-not-is_none_waiting.true c.is_none_waiting.ensures

pub returns-then-not-is_all_released-clause-none : goal.returns-then-not-is_all_released-clause-none
returns-then-not-is_all_released-clause-none c = λ none. absurd (none-some _ (sym none))

pub returns-then-not-is_all_released-clause-some : goal.returns-then-not-is_all_released-clause-some
returns-then-not-is_all_released-clause-some c = failed c.is_all_released.result c.if-not-is_all_released.true c.is_all_released.ensures

pub returns-then-not-have_ended-clause-none : goal.returns-then-not-have_ended-clause-none
returns-then-not-have_ended-clause-none c = λ none. absurd (none-some _ (sym none))

pub returns-then-not-have_ended-clause-some : goal.returns-then-not-have_ended-clause-some
returns-then-not-have_ended-clause-some c = λ ended.
    failed c.have_ended.result c.if-not-have_ended.true c.have_ended.ensures (subst (λ xs. All (λ (x : Standing). x.ended ≡ true) xs) (sym c.deref.ensures.value) ended)

pub returns-clause-none : goal.returns-clause-none
returns-clause-none c = λ none. record {
  half = c.is_none_waiting.ensures.0 c.if-not-is_none_waiting.false;
  retired = c.is_all_released.ensures.0 c.if-not-is_all_released.false;
  ended = subst (λ xs. All (λ (x : Standing). x.ended ≡ true) xs) c.deref.ensures.value (c.have_ended.ensures.0 c.if-not-have_ended.false);
}
